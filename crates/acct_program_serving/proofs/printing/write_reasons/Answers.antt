use Rattle.std.proofs.Common.{◌<◌, length, arith}
use Rattle.std.proofs.KnownBytes.{Appends-trans}
use Rattle.acct_wire.proofs.EachReason.{lines_more}
use Rattle.acct_program_serving.specs.Runs.{drops_line}
use Rattle.acct_program_serving.proofs.printing.write_reasons.Goals as goal

pub loop-reason-preserved : goal.loop-reason-preserved
loop-reason-preserved g c =
    let w = g.W.Write.contents in
    let reasons = c.args.reasons.now in
    let place = c.loop-reason.reason-index in
    let inside : place < length reasons = omega arith in
    rw (lines_more (drops_line c.args.served.now.dropped) reasons place inside)
    (Appends-trans (w c.args.output.now) (w c.loop-reason.output) (w c.write_reason.new.output) _ _
    c.loop-reason.invariant c.in_ok-write_reason.ensures)
