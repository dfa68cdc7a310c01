use Rattle.std.proofs.Common.{◌∙◌, sym, ap, Some}
use Rattle.clap.specs.Words.{found_of}
use Rattle.clap.proofs.WalkLemmas.{raw_values-rows}
use Rattle.acct_program_args.proofs.options.texts_option.Goals as goal

pub returns-in-None-clause-none : goal.returns-in-None-clause-none
returns-in-None-clause-none c =
    sym (rw c.in-None.is at c.get_strs.ensures
    ∙ raw_values-rows (found_of c.args.options.now) c.args.id.now)

pub returns-in_ok-copied-in-Some-clause-some : goal.returns-in_ok-copied-in-Some-clause-some
returns-in_ok-copied-in-Some-clause-some c =
    let found = rw c.in-Some.is at c.get_strs.ensures in
    sym (found ∙ raw_values-rows (found_of c.args.options.now) c.args.id.now)
    ∙ ap (λ texts. Some texts) (sym c.in_ok-copied-in-Some.ensures)
