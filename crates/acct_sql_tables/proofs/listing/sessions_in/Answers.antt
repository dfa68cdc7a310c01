use Rattle.std.proofs.Common.{ap}
use Rattle.sqlite.specs.Effect.{Database}
use Rattle.sqlite_value.specs.Order.{column}
use Rattle.acct_sql_tables.specs.Columns.{session_in_columns}
use Rattle.acct_sql_tables.specs.Content.{plans_in_tables}
use Rattle.acct_sql_tables.specs.inner.AtRest.{plans_at}
use Rattle.acct_sql_tables.proofs.ReadLemmas.{stays_more}
use Rattle.acct_sql_tables.proofs.PlanReadLemmas.{one_planned}
use Rattle.acct_sql_tables.proofs.listing.sessions_in.Goals as goal

pub loop-columns-preserved : goal.loop-columns-preserved
loop-columns-preserved g c =
    let before = c.loop-columns.invariant in
    let read = c.session_with_plan.ensures.read in (
      stays_more g.S.Store c.args.conn.now _ _ c.session_with_plan.result before.0 read,
      λ s was. c.in_ok-session_with_plan.ensures.read.read.answers s,
      λ o. one_planned (plans_at g.S.Store c.args.conn.now) _
          (ap (λ (d : Database). plans_in_tables d.trees) (before.0.tables (read.read.was_open o)))
          (λ r. session_in_columns (column r)) c.args.shown.now c.loop-columns.columns-index
          c.columns-item.result c.loop-columns-test.true c.columns-item.is
          c.loop-columns.rows.items (before.2 (read.read.was_open o))
          c.in_ok-session_with_plan.field-0 (c.in_ok-session_with_plan.ensures.found o)
          c.push.new.self.items c.in_ok-push.ensures.items,
    )

pub returns-in_err-push-clause-stays : goal.returns-in_err-push-clause-stays
returns-in_err-push-clause-stays g c = stays_more g.S.Store c.args.conn.now _ _
    c.session_with_plan.result c.loop-columns.invariant.0 c.session_with_plan.ensures.read
