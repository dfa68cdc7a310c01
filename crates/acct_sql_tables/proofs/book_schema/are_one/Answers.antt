use Rattle.std.proofs.Common.{rules, arith, ◌≡◌, ◌∷◌, [], ap, ◌∙◌}
use Rattle.acct_sql_tables.proofs.FindLemmas.{alone}
use Rattle.acct_sql_tables.proofs.book_schema.are_one.Goals as goal

pub returns-then-eq-clause-uniques : goal.returns-then-eq-clause-uniques
returns-then-eq-clause-uniques c = λ _.
    let same : c.unique-item.result ≡ c.args.key.now = search rules in
    alone c.args.uniques.now c.unique-item.result (omega (arith, c.in-len1.len_at_least))
    (omega (arith, c.in-len1.len_below)) c.unique-item.is ∙ ap (λ u. u ∷ []) same
