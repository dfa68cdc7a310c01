use Rattle.acct_program_args.proofs.commands.check_command.Goals as goal

pub returns : goal.returns
returns c =
    let database = c.with_option-command.ensures _ _ c.configured_command-command.ensures
    c.database_option.ensures.rule in
    let status = c.with_option-command-2.ensures _ _ database c.status_option.ensures.rule in
    let balances = c.with_option-command-3.ensures _ _ status c.balances_option.ensures.rule in
    let audit = c.with_option-command-4.ensures _ _ balances c.in_ok-audit.ensures.rule in
    let explain = c.with_option-command-5.ensures _ _ audit c.explain_flag.ensures.rule in
    c.with_option.ensures _ _ explain c.lose_flag.ensures.rule
