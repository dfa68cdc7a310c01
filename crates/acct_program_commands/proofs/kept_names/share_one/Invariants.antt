use Rattle.std.proofs.Common.{take}
use Rattle.std.specs.Prelude.{All}
use Rattle.acct_program_commands.specs.KeptNames.{LeadsToSome}
use Rattle.acct_program_commands.proofs.kept_names.share_one.Given as goal

abbrev pub invariant-loop-place : goal.invariant-loop-place
invariant-loop-place l = All (λ one. ¬ LeadsToSome l.others one) (take l.place-index l.places)
