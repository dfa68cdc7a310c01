use Rattle.std.specs.Prelude.{◌≡◌, take}
use Rattle.acct_program_commands.proofs.forward_command.copied.Given as goal

-- the names so far are copied
abbrev pub invariant-loop-name : goal.invariant-loop-name
invariant-loop-name l = l.copies.items ≡ take l.name-index l.names
