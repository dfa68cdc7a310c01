use Rattle.acct_program_args.proofs.commands.forward_command.Goals as goal

pub returns : goal.returns
returns c =
    let before = c.with_option-command.ensures _ _ c.opening_command-command.ensures
    c.before_option.ensures.rule in
    let at = c.with_option-command-2.ensures _ _ before c.at_option.ensures.rule in
    let silent = c.with_option-command-3.ensures _ _ at c.silent_option.ensures.rule in
    let keep = c.with_option-command-4.ensures _ _ silent c.keep_option.ensures.rule in
    let dry = c.with_option-command-5.ensures _ _ keep c.dry_run_flag.ensures.rule in
    let yes = c.with_option-command-6.ensures _ _ dry c.yes_flag.ensures.rule in
    c.with_option.ensures _ _ yes c.oldest_option.ensures.rule
