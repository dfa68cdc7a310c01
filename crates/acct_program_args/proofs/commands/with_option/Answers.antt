use Rattle.std.proofs.Common.{ap₂, ◌∙◌}
use Rattle.std.proofs.lemmas.Result.{IfOk-weaker}
use Rattle.clap.specs.Words.{with_rule}
use Rattle.acct_program_args.proofs.commands.with_option.Goals as goal

pub returns : goal.returns
returns c = λ a rule made is.
    let before = rw c.in_ok-command.was at made in
    IfOk-weaker c.arg.result _ _ (λ m h. h.shape c.requires ∙ ap₂ with_rule before is) c.arg.ensures
