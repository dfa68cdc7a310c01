use Rattle.std.proofs.Common.{arith}
use Rattle.sqlite.specs.State.{HasCleanDisk}
use Rattle.sqlite.specs.Held.{state}
use Rattle.acct_sql_tables.proofs.ReadLemmas.{answered}
use Rattle.acct_sql_tables.proofs.MadeLemmas.{put_topup}
use Rattle.acct_sql.proofs.transactions.set_topup.Goals as goal

pub returns : goal.returns
returns g c = record {
  quiet = c.put.ensures.quiet;
  done = λ clean.
      let early : HasCleanDisk (state g.S.Store c.args.tx.now.conn.now) = omega
      (arith, c.put.ensures.quiet.survives.clean, clean) in
      answered c.put.result (put_topup g.S.Store c.args.topup.now
      (state g.S.Store c.args.tx.now.conn.now) _ (c.requires early)) (rw c.topup_values.ensures at
      (c.put.ensures.done clean));
}
