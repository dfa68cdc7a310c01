use Rattle.acct_program_commands.proofs.status_file.StatusFile.note_turn.Goals as goal

pub returns-in-Datagram-clause-due : goal.returns-in-Datagram-clause-due
returns-in-Datagram-clause-due g c =
    rw c.note_mute.ensures.counts at c.write_if_due.ensures.due

pub returns-in-Desk-clause-due : goal.returns-in-Desk-clause-due
returns-in-Desk-clause-due g c =
    rw c.note_mute.ensures.counts at c.write_if_due.ensures.due

pub returns-clause-due : goal.returns-clause-due
returns-clause-due g c =
    rw c.note_mute.ensures.counts at c.write_if_due.ensures.due

pub returns-2-clause-due : goal.returns-2-clause-due
returns-2-clause-due g c =
    rw c.note_mute.ensures.counts at c.write_if_due.ensures.due
