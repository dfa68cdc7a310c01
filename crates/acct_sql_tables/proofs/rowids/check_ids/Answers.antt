use Rattle.std.proofs.Common.{rules, refl, inl, []}
use Rattle.sqlite.specs.State.{HasCleanDisk}
use Rattle.sqlite.specs.Held.{state}
use Rattle.acct_sql_tables.proofs.LookLemmas.{looks, commits_nothing, query_quiet}
use Rattle.acct_sql_tables.proofs.RisingLemmas.{risen_first, looks_on, failed_looks, risen_more}
use Rattle.acct_sql_tables.proofs.RisingLemmas.{risen_all}
use Rattle.acct_sql_tables.proofs.rowids.check_ids.Goals as goal

pub returns-in_err-rows-clause-looks : goal.returns-in_err-rows-clause-looks
returns-in_err-rows-clause-looks g c =
    let old = state g.S.Store c.args.conn.now in
    let new = state g.S.Store c.query.follows.lender-at-none in
    let held = rw c.in_err-rows.was at c.query.follows.holds-at-none in
    record {
      looks = looks old new c.requires.idle
          (λ clean. query_quiet c.args.sql.now [] old new _ (held.err clean)) held.mode
          (commits_nothing c.args.sql.now [] old new c.requires.plain
          held.survives);
      stays_open = λ clean. search rules;
    }

pub loop-init : goal.loop-init
loop-init g c =
    let made = c.in_ok-rows.ensures in (
      refl,
      risen_first g.S.Store c.args.sql.now c.args.conn.now _ c.requires.idle
          c.requires.plain made.begun made.mode made.survives,
    )

pub returns-in_err-row-clause-looks : goal.returns-in_err-row-clause-looks
returns-in_err-row-clause-looks g c =
    let moved = c.next.follows.holds-at-none in
    let new = c.next.follows.lender-at-none.conn.now in
    let seen = failed_looks g.S.Store c.args.sql.now c.args.conn.now _ new _ c.loop.invariant.1
    moved.mode moved.survives _ (λ clean. rw c.in_err-row.was at (moved.kept clean)) in
    search rules

pub returns-in_default-clause-looks : goal.returns-in_default-clause-looks
returns-in_default-clause-looks g c =
    let moved = c.next.follows.holds-at-none in
    let new = c.next.follows.lender-at-none.conn.now in
    let seen = looks_on g.S.Store c.args.sql.now c.args.conn.now _ new _ c.loop.invariant.1
    moved.mode moved.survives (λ clean. inl (rw c.in_ok-row.was at (moved.same clean))) in
    search rules

pub returns-in_default-clause-shown : goal.returns-in_default-clause-shown
returns-in_default-clause-shown g c clean =
    let moved = c.next.follows.holds-at-none in
    let new = c.next.follows.lender-at-none.conn.now in
    let late : HasCleanDisk (state g.S.Store new) = search rules in
    let shown = risen_all g.S.Store c.args.sql.now c.args.conn.now _ new _ c.loop.invariant.1
    moved.mode moved.survives (λ clean. rw c.in_ok-row.was at (moved.same clean))
    (λ clean. rw (c.in_ok-row.was, c.in_default.is) at (moved.ok clean)) late in
    search rules

pub returns-in_err-id_above-clause-looks : goal.returns-in_err-id_above-clause-looks
returns-in_err-id_above-clause-looks g c =
    let moved = c.next.follows.holds-at-none in
    let new = c.next.follows.lender-at-none.conn.now in
    let seen = looks_on g.S.Store c.args.sql.now c.args.conn.now _ new _ c.loop.invariant.1
    moved.mode moved.survives (λ clean. inl (rw c.in_ok-row.was at (moved.same clean))) in
    search rules

pub loop-preserved : goal.loop-preserved
loop-preserved g c =
    let moved = c.next.follows.holds-at-none in
    let new = c.next.follows.lender-at-none.conn.now in
    let names = c.next.follows.holds-at-none.same_reference in
    let own = c.in_ok-id_above.ensures in
    let risen = risen_more g.S.Store c.args.sql.now c.args.conn.now _ new _ c.loop.invariant.1
    moved.mode moved.survives (λ clean. rw c.in_ok-row.was at (moved.same clean)) _ _ own.0 own.1
    (λ clean. rw (c.in_ok-row.was, c.in-Some.is) at (moved.ok clean)) in
    search rules

pub returns-clause-looks : goal.returns-clause-looks
returns-clause-looks g c =
    let seen = c.loop.invariant.1.looks in
    search rules
