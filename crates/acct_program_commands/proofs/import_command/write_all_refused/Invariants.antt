-- The lines of the records so far are written.
use Rattle.std.proofs.Common.{take}
use Rattle.std.specs.Prelude.{flat_map}
use Rattle.std.specs.Io.KnownBytes.{Appends}
use Rattle.acct_program_commands.specs.Imports.{refused_line}
use Rattle.acct_program_commands.proofs.import_command.write_all_refused.Given as goal

abbrev pub invariant-loop-record : goal.invariant-loop-record
invariant-loop-record g l = Appends (g.W.Write.contents l.fn.output)
    (g.W.Write.contents l.output) (flat_map refused_line (take l.record-index l.records))
