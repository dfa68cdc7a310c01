use Rattle.std.proofs.Common.{sym, ap, ◌∙◌, take, drop, length, ◌+◌, ◌-◌, arith}
use Rattle.std.proofs.lemmas.List.{take_all, drop_all, length-drop}
use Rattle.acct_desk.proofs.DotLemmas.{found_at, found_none}
use Rattle.acct_desk.proofs.signed_key.cut.Goals as goal

pub returns-in-Some-clause-front : goal.returns-in-Some-clause-front
returns-in-Some-clause-front c =
    let octets = c.args.octets.now in
    ap (λ n. take n octets) (sym (found_at octets c.in-Some.dot (sym c.in-Some.ensures.place)))

pub returns-in-Some-clause-back : goal.returns-in-Some-clause-back
returns-in-Some-clause-back c =
    let octets = c.args.octets.now in
    let dot = c.in-Some.dot in
    take_all (length octets - (dot + 1)) (drop (dot + 1) octets)
    (omega (arith, length-drop (dot + 1) octets))
    ∙ ap (λ n. drop (n + 1) octets) (sym (found_at octets dot (sym c.in-Some.ensures.place)))

pub returns-in-None-clause-front : goal.returns-in-None-clause-front
returns-in-None-clause-front c =
    let octets = c.args.octets.now in
    sym (take_all _ octets (found_none octets (sym c.in-None.ensures.place)))

pub returns-in-None-clause-back : goal.returns-in-None-clause-back
returns-in-None-clause-back c =
    let octets = c.args.octets.now in
    let past = found_none octets (sym c.in-None.ensures.place) in
    sym (drop_all _ octets (omega (arith, past)))
