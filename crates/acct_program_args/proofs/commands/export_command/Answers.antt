use Rattle.acct_program_args.proofs.commands.export_command.Goals as goal

pub returns : goal.returns
returns c = c.with_option.ensures _ _ c.opening_command.ensures c.what_option.ensures.rule
