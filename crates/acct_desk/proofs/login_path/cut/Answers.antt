use Rattle.std.proofs.Common.{sym, ◌∙◌, ap, length, take, drop, ◌-◌, ◌+◌, ℕ, List, arith, Some}
use Rattle.std.proofs.lemmas.List.{take_all, length-drop}
use Rattle.acct_desk.proofs.CutLemmas.{cut_none, cut_at}
use Rattle.acct_desk.proofs.login_path.cut.Goals as goal

pub returns-then-octets-i-eq47 : goal.returns-then-octets-i-eq47
returns-then-octets-i-eq47 c =
    let octets = c.args.octets.now in
    let i = c.loop-i.i in
    let whole = take_all (length octets - (i + 1)) (drop (i + 1) octets)
    (omega (arith, length-drop (i + 1) octets)) in
    ap (λ (rest : List ℕ). Some (take i octets, rest)) whole
    ∙ sym (cut_at octets i c.loop-i-test.true c.if-octets-i-eq47.true c.loop-i.invariant)

pub returns : goal.returns
returns c =
    sym (cut_none c.args.octets.now
    (λ k within. c.loop-i.invariant k (omega (arith, within, c.loop-i-test.false))))
