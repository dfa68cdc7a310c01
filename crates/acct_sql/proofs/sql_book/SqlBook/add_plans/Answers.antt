use Rattle.std.proofs.Common.{◌∷◌, sym, subst}
use Rattle.sqlite.specs.Held.{state}
use Rattle.acct_model.specs.Plans.{plans_added}
use Rattle.acct_model.specs.History.{PlansAdded}
use Rattle.acct_book.specs.Stands.{Stands}
use Rattle.acct_book.proofs.Additions.{additions_stand}
use Rattle.acct_sql_tables.specs.Content.{content_in_tables}
use Rattle.acct_sql_upkeep.specs.inner.Adding.{IsBookAddedTo}
use Rattle.acct_sql.proofs.AdditionLemmas.{left_by_addition}
use Rattle.acct_sql.proofs.TiedLemmas.{tied}
use Rattle.acct_sql.proofs.sql_book.SqlBook.add_plans.Goals as goal

pub returns-in-Ok-clause-stands : goal.returns-in-Ok-clause-stands
returns-in-Ok-clause-stands g c = rw c.over.ensures (λ clean old history kept fine stood.
    let plans = c.args.plans.now in
    let before = (state g.S.Store c.args.conn).now.trees in
    let made : IsBookAddedTo plans before c.in-Ok.added
    (state g.S.Store c.add_to_book.new.conn) = rw c.in-Ok.is at (c.add_to_book.ensures.made clean)
    in
    subst (λ content. Stands plans content (PlansAdded (plans_added old plans) ∷ history))
    (sym made.is.is.content) (additions_stand old plans (content_in_tables before) history fine
    c.have_no_fault.ensures (made.counted old kept).0 stood))

pub returns-in-Ok-clause-tables : goal.returns-in-Ok-clause-tables
returns-in-Ok-clause-tables g c = tied g.S.Store _

pub returns-in-Ok-clause-leaves : goal.returns-in-Ok-clause-leaves
returns-in-Ok-clause-leaves g c = rw c.over.ensures (record {
  leaves = left_by_addition c.args.plans.now (state g.S.Store c.args.conn)
      (state g.S.Store c.add_to_book.new.conn) c.add_to_book.ensures.survives;
})

pub returns-in-Err-clause-leaves_err : goal.returns-in-Err-clause-leaves_err
returns-in-Err-clause-leaves_err g c = record {
  leaves = left_by_addition c.args.plans.now (state g.S.Store c.args.conn)
      (state g.S.Store c.add_to_book.new.conn) c.add_to_book.ensures.survives;
}
