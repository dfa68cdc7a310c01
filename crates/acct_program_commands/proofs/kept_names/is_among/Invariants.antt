use Rattle.std.proofs.Common.{take}
use Rattle.std.specs.Prelude.{All}
use Rattle.acct_program_commands.specs.KeptNames.{LeadsToOne}
use Rattle.acct_program_commands.proofs.kept_names.is_among.Given as goal

abbrev pub invariant-loop-other : goal.invariant-loop-other
invariant-loop-other l = All (λ other. ¬ LeadsToOne l.place other) (take l.other-index l.others)
