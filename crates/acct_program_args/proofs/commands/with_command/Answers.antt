use Rattle.std.proofs.Common.{ap, ap₂, ◌∙◌}
use Rattle.std.proofs.lemmas.Result.{IfOk-weaker}
use Rattle.clap.specs.Words.{App, with_subcommand}
use Rattle.clap.proofs.SimpleLemmas.{plain_fields}
use Rattle.acct_program_args.proofs.commands.with_command.Goals as goal

pub returns : goal.returns
returns c = λ a b made_program made_command plain.
    let first = rw c.in_ok-program.was at made_program in
    let second = rw c.in_ok-command.was at made_command in
    IfOk-weaker c.subcommand.result _ _ (λ m h. h.shape (plain_fields c.in_ok-command.command
    (ap (λ (x : App). x.top.is_plain) second ∙ plain)).globals
    ∙ ap₂ with_subcommand first (ap (λ (x : App). x.top) second)) c.subcommand.ensures
