use Rattle.std.proofs.Common.{sym, ◌∙◌, ap, length, take, drop, ◌-◌, ◌+◌, ℕ, List, arith, Some}
use Rattle.std.proofs.lemmas.List.{take_all, length-drop}
use Rattle.acct_desk_pages.proofs.LastCuts.{cut_last_none, cut_last_at}
use Rattle.acct_desk_pages.proofs.overdrawn.cut_last.Goals as goal

pub returns-then-octets-i-eq47 : goal.returns-then-octets-i-eq47
returns-then-octets-i-eq47 c =
    let octets = c.args.octets.now in
    let i = length octets - 1 - c.loop-behind.behind in
    let within = c.loop-behind-test.true in
    let whole = take_all (length octets - (i + 1)) (drop (i + 1) octets)
    (omega (arith, length-drop (i + 1) octets)) in
    ap (λ (rest : List ℕ). Some (take i octets, rest)) whole
    ∙ sym (cut_last_at octets i (omega (arith, within)) c.if-octets-i-eq47.true
    (λ k past h. c.loop-behind.invariant k (omega (arith, past, within)) h))

pub returns : goal.returns
returns c =
    sym (cut_last_none c.args.octets.now
    (λ k h. c.loop-behind.invariant k (omega (arith, c.loop-behind-test.false)) h))
