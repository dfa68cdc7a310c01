use Rattle.acct_program_commands.proofs.new_site.shown_change.Goals as goal

pub returns-in-Ok-format : goal.returns-in-Ok-format
returns-in-Ok-format c = rw (c.in-Ok.ensures, c.as_slice.ensures) at c.in-Ok-format.ensures.ok
