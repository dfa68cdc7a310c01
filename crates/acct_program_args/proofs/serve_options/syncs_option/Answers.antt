use Rattle.std.proofs.Common.{◌∙◌, ap, sym, Some, codes}
use Rattle.std.proofs.lemmas.Option.{IfSome_then}
use Rattle.clap.specs.Words.{found_of}
use Rattle.clap.proofs.WalkLemmas.{first_value-rows}
use Rattle.acct_program_args.proofs.serve_options.syncs_option.Goals as goal

pub returns : goal.returns
returns c =
    let found = rw c.in_ok-text.was at c.get_str.ensures in
    let rows = sym (found ∙ first_value-rows (found_of c.args.options.now) (codes "sync")) in
    IfSome_then c.syncs_named.result c.syncs_named.ensures
    (λ syncs h. rows ∙ ap (λ text. Some text) h)
