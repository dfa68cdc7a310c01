use Rattle.std.proofs.Common.{◌<◌, ℕ, List, length, arith}
use Rattle.std.proofs.KnownBytes.{Appends-trans}
use Rattle.acct_wire.specs.Reasons.{count_for}
use Rattle.acct_wire.specs.declared.reason.Reason.{Reason}
use Rattle.acct_wire.proofs.EachReason.{lines_more}
use Rattle.acct_program_commands.specs.Figures.{drops_metric_text}
use Rattle.acct_program_commands.proofs.figures.write_reasons.Goals as goal

pub loop-reason-preserved : goal.loop-reason-preserved
loop-reason-preserved g c =
    let w = g.W.Write.contents in
    let reasons = c.args.reasons.now in
    let place = c.loop-reason.reason-index in
    let line : Reason → List ℕ = λ why. drops_metric_text why (count_for c.args.dropped.now why) in
    let inside : place < length reasons = omega arith in
    rw (lines_more line reasons place inside) (Appends-trans (w c.args.output.now)
    (w c.loop-reason.output) (w c.write_reason.new.output) _ _ c.loop-reason.invariant
    c.in_ok-write_reason.ensures)
