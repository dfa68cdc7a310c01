use Rattle.std.proofs.Common.{◌∙◌}
use Rattle.clap.specs.Words.{found_of}
use Rattle.clap.proofs.WalkLemmas.{first_value-rows}
use Rattle.acct_program_args.proofs.options.text_option.Goals as goal

pub returns-in_ok-from_str-in-Some : goal.returns-in_ok-from_str-in-Some
returns-in_ok-from_str-in-Some c =
    let text = c.in_ok-from_str-in-Some.ensures in
    rw text (rw c.in-Some.is at c.get_str.ensures
    ∙ first_value-rows (found_of c.args.options.now) c.args.id.now)

pub returns-in-None : goal.returns-in-None
returns-in-None c =
    rw c.in-None.is at c.get_str.ensures
    ∙ first_value-rows (found_of c.args.options.now) c.args.id.now
