use Rattle.acct_program_args.proofs.commands.feed_command.Goals as goal

pub returns : goal.returns
returns c = c.with_option.ensures _ _ (c.with_option-command.ensures _ _
    c.new_command-command.ensures c.config_option.ensures.rule) c.explain_flag.ensures.rule
