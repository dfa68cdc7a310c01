use Rattle.std.proofs.Common.{rules, arith}
use Rattle.sqlite.specs.State.{HasCleanDisk}
use Rattle.sqlite.specs.Held.{state}
use Rattle.acct_sql_tables.proofs.ClassLemmas.{plain_kept}
use Rattle.acct_sql_tables.proofs.ReadLemmas.{shown_same, shown_open}
use Rattle.acct_sql_tables.proofs.session_classes.show.Goals as goal

pub returns-in_err-query_all-clause-looks : goal.returns-in_err-query_all-clause-looks
returns-in_err-query_all-clause-looks g c = record {
  quiet = record {
    same_reference = c.query_all.ensures.same_reference;
    kept = λ clean. plain_kept _ _ _ _ (λ rows. rows.items) c.query_all.result
        (c.requires (omega (arith, c.query_all.ensures.survives.clean, clean)))
        (c.query_all.ensures.ok clean) (c.query_all.ensures.err clean);
    survives = c.query_all.ensures.survives;
  };
  done = λ clean. search rules;
}

pub returns-clause-looks : goal.returns-clause-looks
returns-clause-looks g c = record {
  quiet = record {
    same_reference = c.query_all.ensures.same_reference;
    kept = λ clean. plain_kept _ _ _ _ (λ rows. rows.items) c.query_all.result
        (c.requires (omega (arith, c.query_all.ensures.survives.clean, clean)))
        (c.query_all.ensures.ok clean) (c.query_all.ensures.err clean);
    survives = c.query_all.ensures.survives;
  };
  done = λ clean.
      let early : HasCleanDisk (state g.S.Store c.args.tx.now.conn.now) = omega
      (arith, c.query_all.ensures.survives.clean, clean) in
      let shown = c.in_ok-query_all.ensures.ok clean in
      shown_same _ _ _ _ _ (c.requires early (shown_open _ _ _ _ _ shown).0) shown;
}
