use Rattle.std.proofs.Common.{◌≡◌, take}
use Rattle.acct_program_commands.proofs.new_site.copied.Given as goal

abbrev pub invariant-loop-plan : goal.invariant-loop-plan
invariant-loop-plan l = l.copies.items ≡ take l.plan-index l.plan-items
