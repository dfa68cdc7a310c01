use Rattle.acct_program_args.proofs.commands.init_command.Goals as goal

pub returns : goal.returns
returns c = c.with_option.ensures _ _ c.book_command.ensures c.page_sums_flag.ensures.rule
