use Rattle.acct_program_args.proofs.commands.opening_command.Goals as goal

pub returns : goal.returns
returns c = c.with_option.ensures _ _ c.book_command.ensures c.lose_flag.ensures.rule
