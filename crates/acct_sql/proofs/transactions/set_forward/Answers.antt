use Rattle.std.proofs.Common.{arith}
use Rattle.sqlite.specs.State.{HasCleanDisk}
use Rattle.sqlite.specs.Held.{state}
use Rattle.acct_sql_tables.specs.inner.Inside.{with_row, HasMade}
use Rattle.acct_sql_tables.proofs.ReadLemmas.{answered}
use Rattle.acct_sql_tables.proofs.StepLemmas.{quiet_then}
use Rattle.acct_sql_tables.proofs.RemoveLemmas.{made_forward}
use Rattle.acct_sql.proofs.transactions.set_forward.Goals as goal

pub set_row-requires-clause-book : goal.set_row-requires-clause-book
set_row-requires-clause-book g c = λ clean o. (c.in_ok-remove_rows.ensures.done clean o).book

pub returns : goal.returns
returns g c = record {
  quiet = quiet_then g.S.Store _ _ _ c.remove_rows.ensures.quiet c.set_row.ensures.quiet;
  done = λ clean.
      let old = state g.S.Store c.args.tx.now.conn.now in
      let mid = state g.S.Store c.remove_rows.new.tx.conn.now in
      let new = state g.S.Store c.set_row.new.tx.conn.now in
      let one : HasCleanDisk mid = omega (arith, c.set_row.ensures.quiet.survives.clean, clean) in
      answered c.set_row.result
      (λ (set : HasMade (λ content. with_row content c.args.row.now) mid new).
      made_forward c.args.gone.now c.args.row.now old mid new
      (c.in_ok-remove_rows.ensures.done one set.shows.was_open) set)
      (c.set_row.ensures.done clean);
}
