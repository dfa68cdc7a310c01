use Rattle.std.proofs.Common.{rules, arith, subst, sym, ◌∙◌, true≢false}
use Rattle.sqlite.specs.State.{HasCleanDisk}
use Rattle.sqlite.specs.Held.{state}
use Rattle.acct_sql_tables.specs.inner.Looked.{AreShown}
use Rattle.acct_sql_tables.specs.declared.plan_table.PlanTable.TheVariants.{Counts}
use Rattle.acct_sql_upkeep.proofs.PlanLemmas.{counts_shown, shown_counts}
use Rattle.acct_sql_tables.proofs.OlderLemmas.{counts}
use Rattle.acct_sql_upkeep.proofs.adopting.check_counts.Goals as goal

pub peek-requires-clause-plain : goal.peek-requires-clause-plain
peek-requires-clause-plain g c = λ clean. (counts _ (c.requires.has clean)).plain

pub returns-then-are_kept-clause-counts : goal.returns-then-are_kept-clause-counts
returns-then-are_kept-clause-counts g c = record {
  looks = c.in_ok-rows.ensures.looks.looks;
  stays_open = search rules;
  holds = λ clean.
      let early : HasCleanDisk (state g.S.Store c.args.conn.now) = omega
      (arith, c.in_ok-rows.ensures.looks.looks.survives.clean, clean) in
      counts_shown (state g.S.Store c.args.conn.now) _ c.in_ok-rows.rows.items c.args.plans.now
      (c.requires.has early) (c.in_ok-rows.ensures.shown clean)
      (subst (AreShown Counts c.args.plans.now) c.deref.ensures.value
      (c.are_kept.ensures.0 c.if-are_kept.true));
}

pub returns-clause-fault : goal.returns-clause-fault
returns-clause-fault g c clean = λ kept.
    let early : HasCleanDisk (state g.S.Store c.args.conn.now) = omega
    (arith, c.in_ok-rows.ensures.looks.looks.survives.clean, clean) in
    let shown = shown_counts (state g.S.Store c.args.conn.now) _ c.in_ok-rows.rows.items
    c.args.plans.now (c.requires.has early) (c.in_ok-rows.ensures.shown clean) kept in
    true≢false (sym (c.are_kept.ensures.1 (subst (AreShown Counts c.args.plans.now)
    (sym c.deref.ensures.value) shown)) ∙ c.if-are_kept.false)
