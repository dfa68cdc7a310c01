use Rattle.std.proofs.Common.{None}
use Rattle.sqlite.specs.Held.{state}
use Rattle.acct_sql_tables.proofs.StepLemmas.{is_inside, execute_quiet}
use Rattle.acct_sql_tables.proofs.MigrateLemmas.{count_written}
use Rattle.acct_sql_upkeep.proofs.migrating.keep_count.Goals as goal

pub returns : goal.returns
returns g c = record {
  quiet = execute_quiet g.S.Store _ _ _ _ _ c.execute.ensures.same_reference
      (λ off. (c.execute.ensures.ended off).1) c.execute.ensures.runs c.execute.ensures.survives;
  done = λ clean all counts w.
      let inside = is_inside _ c.in_ok-execute.field-0 _ _ c.in_ok-execute.was
      (λ off. (c.execute.ensures.ended off).0) in
      let ran = rw c.count_values-values.ensures at (c.in_ok-execute.ensures.runs clean inside) in
      count_written all counts c.args.plan.now None (state g.S.Store c.args.tx.now.conn.now) _
      c.in_ok-execute.field-0 ran w;
}
