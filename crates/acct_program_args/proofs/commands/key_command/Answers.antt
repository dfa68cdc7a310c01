use Rattle.std.proofs.Common.{ap, ◌∙◌}
use Rattle.acct_program_args.specs.CommandLine.{required}
use Rattle.acct_program_args.proofs.commands.key_command.Goals as goal

pub returns : goal.returns
returns c =
    let until = c.with_option-command.ensures _ _ c.configured_command-command.ensures
    (c.needed.ensures.rule ∙ ap required c.until_option.ensures.rule) in
    let explain = c.with_option-command-2.ensures _ _ until c.explain_flag.ensures.rule in
    c.with_option.ensures _ _ explain c.account_option.ensures.rule
