use Rattle.std.proofs.Common.{rules, arith, inl, inr, subst, Ok}
use Rattle.sqlite.specs.State.{HasCleanDisk, ExecutesInside}
use Rattle.sqlite.specs.Held.{state}
use Rattle.sqlite.specs.Values.{bound}
use Rattle.acct_sql_tables.specs.inner.Inside.{CommitsNothing}
use Rattle.acct_sql_tables.proofs.StepLemmas.{is_inside, execute_quiet, quiet_then}
use Rattle.acct_sql.proofs.transactions.put.Goals as goal

pub returns-in_err-count : goal.returns-in_err-count
returns-in_err-count g c = record {
  quiet = execute_quiet g.S.Store _ _ _ _ _ c.execute.ensures.same_reference
      (λ off. (c.execute.ensures.ended off).1) c.execute.ensures.runs
      c.execute.ensures.survives;
  done = λ clean. search rules;
}

pub returns-in_err-execute : goal.returns-in_err-execute
returns-in_err-execute g c =
    let one : CommitsNothing g.S.Store c.args.tx.now.conn c.execute.new.self.conn =
    execute_quiet g.S.Store _ _ _ _ _ c.execute.ensures.same_reference
    (λ off. (c.execute.ensures.ended off).1) c.execute.ensures.runs
    c.execute.ensures.survives in
    record {
      quiet = quiet_then g.S.Store _ _ _ one (execute_quiet g.S.Store _ _ _ _ _
          c.execute-then-count-eq0.ensures.same_reference
          (λ off. (c.execute-then-count-eq0.ensures.ended off).1)
          c.execute-then-count-eq0.ensures.runs c.execute-then-count-eq0.ensures.survives);
      done = λ clean. search rules;
    }

pub returns-in_ok-execute : goal.returns-in_ok-execute
returns-in_ok-execute g c =
    let one : CommitsNothing g.S.Store c.args.tx.now.conn c.execute.new.self.conn =
    execute_quiet g.S.Store _ _ _ _ _ c.execute.ensures.same_reference
    (λ off. (c.execute.ensures.ended off).1) c.execute.ensures.runs
    c.execute.ensures.survives in
    record {
      quiet = quiet_then g.S.Store _ _ _ one (execute_quiet g.S.Store _ _ _ _ _
          c.execute-then-count-eq0.ensures.same_reference
          (λ off. (c.execute-then-count-eq0.ensures.ended off).1)
          c.execute-then-count-eq0.ensures.runs c.execute-then-count-eq0.ensures.survives);
      done = λ clean.
          let mid : HasCleanDisk (state g.S.Store c.execute.new.self.conn.now) = omega
          (arith, c.execute-then-count-eq0.ensures.survives.clean, clean) in
          let inside = is_inside _ c.in_ok-count.count _ _ c.in_ok-count.was
          (λ off. (c.execute.ensures.ended off).0) in
          let first = subst (λ n. ExecutesInside 0 c.args.update.now (bound c.args.values.now)
          (state g.S.Store c.args.tx.now.conn.now) (state g.S.Store c.execute.new.self.conn.now)
          (Ok n)) c.if-count-eq0.true (c.in_ok-count.ensures.runs mid inside) in
          inr (
            c.execute.new.self.conn.now,
            _,
            first,
            c.in_ok-execute.ensures.runs clean first.1.mode,
          );
    }

pub returns-else-count-eq0 : goal.returns-else-count-eq0
returns-else-count-eq0 g c = record {
  quiet = execute_quiet g.S.Store _ _ _ _ _ c.execute.ensures.same_reference
      (λ off. (c.execute.ensures.ended off).1) c.execute.ensures.runs
      c.execute.ensures.survives;
  done = λ clean.
      let inside = is_inside _ c.in_ok-count.count _ _ c.in_ok-count.was
      (λ off. (c.execute.ensures.ended off).0) in
      inl (c.in_ok-count.count, c.if-count-eq0.false, c.in_ok-count.ensures.runs clean inside);
}
