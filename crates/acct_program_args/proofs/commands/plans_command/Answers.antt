use Rattle.acct_program_args.proofs.commands.plans_command.Goals as goal

pub returns : goal.returns
returns c = c.with_option.ensures _ _ c.opening_command.ensures c.list_flag.ensures.rule
