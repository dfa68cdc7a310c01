use Rattle.std.proofs.Common.{append_assoc}
use Rattle.acct_program_commands.proofs.told.ToldDropDisplay.fmt.Goals as goal

pub returns-clause-writes : goal.returns-clause-writes
returns-clause-writes g c = λ plain ok. rw (
  append_assoc,
  append_assoc,
  append_assoc,
  append_assoc,
  append_assoc,
  append_assoc,
  append_assoc,
) (rw (
  c.number-number.ensures.number,
  c.name-name.ensures,
  c.from_octets-address.ensures,
) at (c.write.ensures.writes plain ok))
