use Rattle.std.proofs.Common.{ap, ◌∙◌}
use Rattle.acct_program_args.specs.CommandLine.{required}
use Rattle.acct_program_args.proofs.commands.configured_command.Goals as goal

pub returns : goal.returns
returns c = c.with_option.ensures _ _ c.new_command.ensures
    (c.needed.ensures.rule ∙ ap required c.config_option.ensures.rule)
