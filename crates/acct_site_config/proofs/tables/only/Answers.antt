use Rattle.std.proofs.Common.{◌≡◌, ◌∙◌, sym, map, true, false}
use Rattle.toml.specs.View.{table_view}
use Rattle.acct_site_config.specs.Tables.{has_only}
use Rattle.acct_site_config.proofs.TableLemmas.{names_all}
use Rattle.acct_site_config.proofs.tables.only.Goals as goal

pub returns-then-not-has_only : goal.returns-then-not-has_only
returns-then-not-has_only c =
    let words = c.args.known.now in
    let table = c.args.table.now in
    let known : has_only (map (λ word. word.now) words) (table_view table) ≡ false =
    sym (c.has_only.ensures ∙ names_all words table.entries) ∙ c.if-not-has_only.true in
    rw known

pub returns : goal.returns
returns c =
    let words = c.args.known.now in
    let table = c.args.table.now in
    let known : has_only (map (λ word. word.now) words) (table_view table) ≡ true =
    sym (c.has_only.ensures ∙ names_all words table.entries) ∙ c.if-not-has_only.false in
    rw known
