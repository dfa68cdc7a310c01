use Rattle.acct_program_args.proofs.commands.serve_command.Goals as goal

pub returns : goal.returns
returns c =
    let bind = c.with_option-command.ensures _ _ c.opening_command-command.ensures
    c.bind_option.ensures.rule in
    let desk = c.with_option-command-2.ensures _ _ bind c.desk_bind_option.ensures.rule in
    let reports = c.with_option-command-3.ensures _ _ desk c.port_option.ensures.rule in
    let ports = c.with_option-command-4.ensures _ _ reports c.port_option-2.ensures.rule in
    let turns = c.with_option-command-5.ensures _ _ ports c.turns_option.ensures.rule in
    let sync = c.with_option-command-6.ensures _ _ turns c.sync_option.ensures.rule in
    let quiet = c.with_option-command-7.ensures _ _ sync c.quiet_flag.ensures.rule in
    let status = c.with_option-command-8.ensures _ _ quiet c.status_option.ensures.rule in
    let balances = c.with_option-command-9.ensures _ _ status c.balances_option.ensures.rule in
    let every = c.with_option-command-10.ensures _ _ balances c.in_ok-balances_every.ensures.rule in
    c.with_option.ensures _ _ every c.oldest_option.ensures.rule
