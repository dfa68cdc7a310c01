use Rattle.std.proofs.Common.{arith}
use Rattle.sqlite.specs.State.{HasCleanDisk}
use Rattle.sqlite.specs.Held.{state}
use Rattle.acct_sql_tables.proofs.ReadLemmas.{answered}
use Rattle.acct_sql_tables.proofs.MadeLemmas.{put_row}
use Rattle.acct_sql.proofs.transactions.set_columns.Goals as goal

pub returns : goal.returns
returns g c = record {
  quiet = c.put.ensures.quiet;
  done = λ clean.
      let early : HasCleanDisk (state g.S.Store c.args.tx.now.conn.now) = omega
      (arith, c.put.ensures.quiet.survives.clean, clean) in
      answered c.put.result (put_row g.S.Store c.args.row.now c.session_values.ensures.back
      (state g.S.Store c.args.tx.now.conn.now) _ (c.requires early))
      (rw c.session_values.ensures.value at (c.put.ensures.done clean));
}
