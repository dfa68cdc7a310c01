use Rattle.acct_program_commands.proofs.status_file.StatusFile.write_last.Goals as goal

pub returns-clause-put : goal.returns-clause-put
returns-clause-put g c = rw c.note_mute.ensures.counts at c.write.ensures.put
