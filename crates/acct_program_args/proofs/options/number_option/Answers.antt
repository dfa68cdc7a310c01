use Rattle.std.proofs.Common.{◌∙◌, sym, arith}
use Rattle.clap.specs.Words.{found_of}
use Rattle.clap.proofs.WalkLemmas.{first_value-rows}
use Rattle.acct_program_args.proofs.options.number_option.Goals as goal

pub returns-else-number-eq0 : goal.returns-else-number-eq0
returns-else-number-eq0 c =
    let found = rw c.in_ok-text.was at c.get_str.ensures in
    let spelled = rw c.in_ok-number.was at c.number_up_to.ensures.number in
    let bounded = rw c.in_ok-number.was at c.number_up_to.ensures.bound in (
      c.in_ok-text.text.now,
      sym (found ∙ first_value-rows (found_of c.args.options.now) c.args.id.now),
      sym spelled,
      omega (arith, c.if-number-eq0.false),
      bounded,
    )
