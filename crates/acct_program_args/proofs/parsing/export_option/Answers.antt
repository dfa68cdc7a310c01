use Rattle.std.proofs.Common.{◌∙◌, ap, sym, Some, codes}
use Rattle.std.proofs.lemmas.Option.{IfSome_then}
use Rattle.clap.specs.Words.{found_of}
use Rattle.clap.proofs.WalkLemmas.{first_value-rows}
use Rattle.acct_program_args.proofs.parsing.export_option.Goals as goal

pub returns : goal.returns
returns c =
    let found = rw c.in_ok-text.was at c.get_str.ensures in
    let rows = sym (found ∙ first_value-rows (found_of c.args.options.now) (codes "what")) in
    IfSome_then c.export_named.result c.export_named.ensures.some
    (λ what h. rows ∙ ap (λ text. Some text) h)
