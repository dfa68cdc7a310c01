use Rattle.std.proofs.Common.{ap, ◌∙◌}
use Rattle.acct_program_args.specs.CommandLine.{required}
use Rattle.acct_program_args.proofs.commands.book_command.Goals as goal

pub returns : goal.returns
returns c = c.with_option.ensures _ _ (c.with_option-command.ensures _ _
    c.configured_command-command.ensures
    (c.needed.ensures.rule ∙ ap required c.database_option.ensures.rule))
    c.explain_flag.ensures.rule
