use Rattle.std.proofs.Common.{sym, subst}
use Rattle.sqlite.specs.Held.{state}
use Rattle.acct_book.specs.Stands.{Stands}
use Rattle.acct_sql_tables.specs.inner.Migrating.{IsMigratedBook}
use Rattle.acct_sql.proofs.StoodLemmas.{migrated_stands}
use Rattle.acct_sql.proofs.TiedLemmas.{tied}
use Rattle.acct_sql.proofs.sql_book.SqlBook.migrate.Goals as goal

pub returns-in-Ok-clause-stands : goal.returns-in-Ok-clause-stands
returns-in-Ok-clause-stands g c = rw c.over.ensures (λ clean history stood.
    let old = (state g.S.Store c.args.conn).now.trees in
    let made : IsMigratedBook c.args.plans.now old (state g.S.Store c.migrate_book.new.conn) =
    rw c.in-Ok.is at (c.migrate_book.ensures.made clean) in
    subst (λ content. Stands c.args.plans.now content history) (sym made.is.content)
    (migrated_stands c.args.plans.now old history stood))

pub returns-in-Ok-clause-tables : goal.returns-in-Ok-clause-tables
returns-in-Ok-clause-tables g c = tied g.S.Store _
