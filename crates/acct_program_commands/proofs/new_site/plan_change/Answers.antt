use Rattle.acct_program_commands.proofs.new_site.plan_change.Goals as goal

pub returns-in_default-first_beyond-clause-none : goal.returns-in_default-first_beyond-clause-none
returns-in_default-first_beyond-clause-none c = (
  rw (c.list-3.ensures, c.list-4.ensures) at c.in_default-first_beyond.ensures.none,
  rw (c.list.ensures, c.list-2.ensures) at c.in_default.ensures.none,
)
