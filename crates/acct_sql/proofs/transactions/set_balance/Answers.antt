use Rattle.std.proofs.Common.{arith, w64}
use Rattle.std.proofs.lemmas.Int.{to_z-of_z}
use Rattle.sqlite.specs.State.{HasCleanDisk}
use Rattle.sqlite.specs.Held.{state}
use Rattle.acct_sql_tables.proofs.ReadLemmas.{answered}
use Rattle.acct_sql_tables.proofs.MadeLemmas.{put_balance}
use Rattle.acct_sql.proofs.transactions.set_balance.Goals as goal

pub returns : goal.returns
returns g c = record {
  quiet = c.put.ensures.quiet;
  done = λ clean.
      let early : HasCleanDisk (state g.S.Store c.args.tx.now.conn.now) = omega
      (arith, c.put.ensures.quiet.survives.clean, clean) in
      let back = to_z-of_z w64 c.args.balance c.ranges.balance in
      answered c.put.result (put_balance g.S.Store c.args.name.now c.args.balance
      (state g.S.Store c.args.tx.now.conn.now) _ (c.requires early)) (rw (
        c.params-to_sql.ensures,
        c.params-to_sql-2.ensures,
        back,
      ) at (c.put.ensures.done clean));
}
