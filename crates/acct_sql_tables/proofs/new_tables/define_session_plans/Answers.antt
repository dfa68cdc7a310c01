use Rattle.sqlite.specs.Held.{state}
use Rattle.acct_sql_tables.proofs.ReadLemmas.{answered}
use Rattle.acct_sql_tables.proofs.CreateLemmas.{session_plans_made}
use Rattle.acct_sql_tables.proofs.new_tables.define_session_plans.Goals as goal

pub returns : goal.returns
returns g c = record {
  quiet = c.define.ensures.quiet;
  done = λ clean. answered c.define.result (λ one has. session_plans_made
      (state g.S.Store c.args.tx.now.conn.now) (state g.S.Store c.define.new.tx.conn.now) one has)
      (c.define.ensures.done clean);
}
