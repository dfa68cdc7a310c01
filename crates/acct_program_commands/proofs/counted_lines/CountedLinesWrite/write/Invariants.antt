-- Counting octets leaves the writer as it was.
use Rattle.std.proofs.Common.{◌≡◌}
use Rattle.acct_program_commands.proofs.counted_lines.CountedLinesWrite.write.Given as goal

abbrev pub invariant-loop-octet : goal.invariant-loop-octet
invariant-loop-octet g l = l.self.writer ≡ l.initial.self.writer
