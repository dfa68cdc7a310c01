use Rattle.acct_program_commands.proofs.watching.Watch.note_drop.Goals as goal

pub returns-in-Datagram-clause-tells : goal.returns-in-Datagram-clause-tells
returns-in-Datagram-clause-tells g c = rw c.in-Datagram.is c.write_drop.ensures
