-- The lines of the reasons so far are written.
use Rattle.std.proofs.Common.{take}
use Rattle.std.specs.Io.KnownBytes.{Appends}
use Rattle.acct_program_serving.specs.Runs.{drops_lines}
use Rattle.acct_program_serving.proofs.printing.write_reasons.Given as goal

abbrev pub invariant-loop-reason : goal.invariant-loop-reason
invariant-loop-reason g l = Appends (g.W.Write.contents l.fn.output)
    (g.W.Write.contents l.output) (drops_lines l.served.dropped (take l.reason-index l.reasons))
