use Rattle.std.proofs.Common.{subst, OnOk, IsTrue}
use Rattle.sqlite.specs.Held.{state}
use Rattle.acct_sql_tables.proofs.LookLemmas.{peeked, peeked_open}
use Rattle.acct_sql_upkeep.proofs.adopting.peek.Goals as goal

pub returns-in-Err-clause-looks : goal.returns-in-Err-clause-looks
returns-in-Err-clause-looks g c = record {
  looks = peeked _ _ (state g.S.Store c.args.conn.now)
      (state g.S.Store c.query_all.new.self) (λ rows. rows.items) c.query_all.result
      c.requires.idle c.requires.plain c.query_all.ensures.ok
      c.query_all.ensures.err c.query_all.ensures.mode c.query_all.ensures.survives;
  stays_open = λ clean. tt;
}

pub returns-in-Ok-clause-looks : goal.returns-in-Ok-clause-looks
returns-in-Ok-clause-looks g c = record {
  looks = peeked _ _ (state g.S.Store c.args.conn.now)
      (state g.S.Store c.query_all.new.self) (λ rows. rows.items) c.query_all.result
      c.requires.idle c.requires.plain c.query_all.ensures.ok
      c.query_all.ensures.err c.query_all.ensures.mode c.query_all.ensures.survives;
  stays_open = λ clean. subst (λ r. OnOk r (IsTrue (state g.S.Store c.query_all.new.self).is_open))
      c.in-Ok.is
      (peeked_open _ _ (state g.S.Store c.args.conn.now) (state g.S.Store c.query_all.new.self)
      (λ rows. rows.items) c.query_all.result c.requires.idle c.requires.plain
      c.query_all.ensures.ok c.query_all.ensures.err c.query_all.ensures.mode
      c.query_all.ensures.survives clean);
}
