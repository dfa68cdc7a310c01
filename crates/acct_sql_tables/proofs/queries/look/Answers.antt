use Rattle.std.proofs.Common.{rules, arith}
use Rattle.sqlite.specs.State.{HasCleanDisk}
use Rattle.sqlite.specs.Held.{state}
use Rattle.acct_sql_tables.proofs.ReadLemmas.{look_made, look_same, look_kept}
use Rattle.acct_sql_tables.proofs.queries.look.Goals as goal

pub returns-in_err-query_all-clause-looks : goal.returns-in_err-query_all-clause-looks
returns-in_err-query_all-clause-looks g c = record {
  quiet = record {
    same_reference = c.query_all.ensures.same_reference;
    kept = λ clean. look_kept _ _ _ _ (λ rows. rows.items) c.query_all.result c.requires.inside
        (c.query_all.ensures.ok clean) (c.query_all.ensures.err clean);
    survives = c.query_all.ensures.survives;
  };
  done = λ clean. search rules;
}

pub returns-clause-looks : goal.returns-clause-looks
returns-clause-looks g c = record {
  quiet = record {
    same_reference = c.query_all.ensures.same_reference;
    kept = λ clean. look_kept _ _ _ _ (λ rows. rows.items) c.query_all.result c.requires.inside
        (c.query_all.ensures.ok clean) (c.query_all.ensures.err clean);
    survives = c.query_all.ensures.survives;
  };
  done = λ clean.
      let early : HasCleanDisk (state g.S.Store c.args.tx.now.conn.now) = omega
      (arith, c.query_all.ensures.survives.clean, clean) in
      look_made _ _ _ _ _ (c.requires.book early) c.requires.plain c.requires.inside
      (c.in_ok-query_all.ensures.ok clean);
}

pub returns-clause-stays : goal.returns-clause-stays
returns-clause-stays g c clean =
    let early : HasCleanDisk (state g.S.Store c.args.tx.now.conn.now) = omega
    (arith, c.query_all.ensures.survives.clean, clean) in
    look_same _ _ _ _ _ (c.requires.book early) c.requires.plain
    (c.in_ok-query_all.ensures.ok clean)
