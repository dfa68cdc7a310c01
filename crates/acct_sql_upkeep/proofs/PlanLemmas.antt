-- What the query for the plans shows.
use Rattle.std.proofs.Common.{◌≡◌, List, [], ◌∷◌, true, false, IsTrue}
use Rattle.std.proofs.Common.{refl, sym, subst, ◌∙◌, arith}
use Rattle.sqlite.specs.declared.types.Value.TheVariants.{Null}
use Rattle.sqlite.specs.Order.{Row}
use Rattle.sqlite.specs.Term.{eval_all}
use Rattle.sqlite.specs.Query.{IsAnswerAs}
use Rattle.sqlite.specs.Store.{Ghosts}
use Rattle.sqlite.specs.Held.{Held, state}
use Rattle.sqlite.specs.State.{State, HasCleanDisk, IsRolledBack, Survives, Shown}
use Rattle.sqlite.proofs.StateLemmas.{survives_then}
use Rattle.sqlite.proofs.Callers.{survives_begin}
use Rattle.std.specs.List.{AllByRecursion}
use Rattle.sqlite_rules.specs.Lists.{Has}
use Rattle.sqlite_rules.proofs.ListLemmas.{all_has, all_from}
use Rattle.acct_model.specs.declared.plan.Plan.{Plan}
use Rattle.acct_sql_tables.specs.Tables.{price_plan, plan_count}
use Rattle.acct_sql_tables.specs.Make.{KeepsPrices, KeepsCounts, IsPlanRow, IsCountRow}
use Rattle.acct_sql_tables.specs.Look.{IsIdle, LooksAtTables}
use Rattle.acct_sql_tables.specs.inner.Looked.{IsKnown, HasCounts, ShowsPlan, ShowsCount, IsShownIn}
use Rattle.acct_sql_tables.specs.inner.Looked.{IsPlanIn, AreShown}
use Rattle.acct_sql_upkeep.specs.inner.Adding.{IsPriced, IsCounted}
use Rattle.acct_sql_tables.specs.declared.plan_table.PlanTable.TheVariants.{Prices, Counts}
use Rattle.acct_sql_tables.specs.declared.statements.TheConstants as texts
use Rattle.acct_sql_tables.proofs.QueryLemmas.{over_table, all_rows, shown_has, has_shown}
use Rattle.acct_sql_tables.proofs.QueryLemmas.{answer_of}
use Rattle.acct_sql_tables.proofs.TextLemmas.{plan_shown, count_shown}
use Rattle.acct_sql_tables.proofs.OlderLemmas.{prices, counts}

module _ (old new : State) (rows : List Row) (plans : List Plan) (known : IsKnown old.now.schema)
    (h : Shown texts.PLANS.now [] old new rows) where
  answer : IsAnswerAs Null (over_table price_plan.tree [] plan_shown [] all_rows) old.now.trees []
      rows
  answer = answer_of (prices old.now.schema known) [] old new rows refl h

  says : (plan : Plan) (r : Row) → ShowsPlan plan (eval_all plan_shown ([] ∷ r ∷ []))
      → IsPlanRow plan r
  says plan r shows = record { class = shows.class; block = shows.block; unit = shows.unit }

  is_said : (plan : Plan) (r : Row) → IsPlanRow plan r
      → ShowsPlan plan (eval_all plan_shown ([] ∷ r ∷ []))
  is_said plan r says = record { class = says.class; block = says.block; unit = says.unit }

  -- the answer shows the plan that a row has, and no other
  pub price_of_shown : (plan : Plan) → IsShownIn Prices rows plan → IsPriced plan old.now.trees
  price_of_shown plan row =
      let r = shown_has price_plan.tree [] plan_shown [] Null old.now.trees [] rows answer row.0
      row.1 in
      (r.0, r.1, says plan r.0 (subst (ShowsPlan plan) r.3 row.2))

  pub shown_of_price : (plan : Plan) → IsPriced plan old.now.trees → IsShownIn Prices rows plan
  shown_of_price plan r = (
    eval_all plan_shown ([] ∷ r.0 ∷ []),
    has_shown price_plan.tree [] plan_shown [] Null old.now.trees [] rows answer r.0 r.1 refl,
    is_said plan r.0 r.2,
  )

  pub prices_shown : AllByRecursion (IsPlanIn Prices plans) rows → (r : Row)
      → Has (old.now.trees price_plan.tree) r → (plan : Plan) × Has plans plan × IsPlanRow plan r
  prices_shown shown r there =
      let plan = all_has (IsPlanIn Prices plans) rows (eval_all plan_shown ([] ∷ r ∷ [])) shown
      (has_shown price_plan.tree [] plan_shown [] Null old.now.trees [] rows answer r there refl)
      in
      (plan.0, plan.1, says plan.0 r plan.2)

  pub shown_prices : ((r : Row) → Has (old.now.trees price_plan.tree) r
      → (plan : Plan) × Has plans plan × IsPlanRow plan r)
      → AllByRecursion (IsPlanIn Prices plans) rows
  shown_prices only = all_from (IsPlanIn Prices plans) rows (λ row there.
      let r = shown_has price_plan.tree [] plan_shown [] Null old.now.trees [] rows answer row
      there in
      let plan = only r.0 r.1 in
      (plan.0, plan.1, subst (ShowsPlan plan.0) (sym r.3) (is_said plan.0 r.0 plan.2)))

  pub plans_shown : AreShown Prices plans rows → KeepsPrices plans old.now.trees
  plans_shown shown = record {
    each = λ plan there. price_of_shown plan
        (all_has (IsShownIn Prices rows) plans plan shown.0 there);
    only = prices_shown shown.1;
  }

  pub shown_plans : KeepsPrices plans old.now.trees → AreShown Prices plans rows
  shown_plans kept = (
    all_from (IsShownIn Prices rows) plans (λ plan there. shown_of_price plan
        (kept.each plan there)),
    shown_prices kept.only,
  )

-- ---- what the plans count

module _ (old new : State) (rows : List Row) (plans : List Plan) (has : HasCounts old.now.schema)
    (h : Shown texts.PLAN_COUNTS.now [] old new rows) where
  count_answer : IsAnswerAs Null (over_table plan_count.tree [] count_shown [] all_rows)
      old.now.trees [] rows
  count_answer = answer_of (counts old.now.schema has) [] old new rows refl h

  counts_so : (plan : Plan) (r : Row) → ShowsCount plan (eval_all count_shown ([] ∷ r ∷ []))
      → IsCountRow plan r
  counts_so plan r shows = record { class = shows.class; mode = shows.mode }

  is_counted : (plan : Plan) (r : Row) → IsCountRow plan r
      → ShowsCount plan (eval_all count_shown ([] ∷ r ∷ []))
  is_counted plan r says = record { class = says.class; mode = says.mode }

  pub count_of_shown : (plan : Plan) → IsShownIn Counts rows plan → IsCounted plan old.now.trees
  count_of_shown plan row =
      let r = shown_has plan_count.tree [] count_shown [] Null old.now.trees [] rows count_answer
      row.0 row.1 in
      (r.0, r.1, counts_so plan r.0 (subst (ShowsCount plan) r.3 row.2))

  pub shown_of_count : (plan : Plan) → IsCounted plan old.now.trees → IsShownIn Counts rows plan
  shown_of_count plan r = (
    eval_all count_shown ([] ∷ r.0 ∷ []),
    has_shown plan_count.tree [] count_shown [] Null old.now.trees [] rows count_answer r.0 r.1
        refl,
    is_counted plan r.0 r.2,
  )

  pub all_counts_shown : AllByRecursion (IsPlanIn Counts plans) rows → (r : Row)
      → Has (old.now.trees plan_count.tree) r → (plan : Plan) × Has plans plan × IsCountRow plan r
  all_counts_shown shown r there =
      let plan = all_has (IsPlanIn Counts plans) rows (eval_all count_shown ([] ∷ r ∷ [])) shown
      (has_shown plan_count.tree [] count_shown [] Null old.now.trees [] rows count_answer r there
      refl) in
      (plan.0, plan.1, counts_so plan.0 r plan.2)

  pub all_shown_counts : ((r : Row) → Has (old.now.trees plan_count.tree) r
      → (plan : Plan) × Has plans plan × IsCountRow plan r)
      → AllByRecursion (IsPlanIn Counts plans) rows
  all_shown_counts only = all_from (IsPlanIn Counts plans) rows (λ row there.
      let r = shown_has plan_count.tree [] count_shown [] Null old.now.trees [] rows count_answer
      row there in
      let plan = only r.0 r.1 in
      (plan.0, plan.1, subst (ShowsCount plan.0) (sym r.3) (is_counted plan.0 r.0 plan.2)))

  pub counts_shown : AreShown Counts plans rows → KeepsCounts plans old.now.trees
  counts_shown shown = record {
    each = λ plan there. count_of_shown plan
        (all_has (IsShownIn Counts rows) plans plan shown.0 there);
    only = all_counts_shown shown.1;
  }

  pub shown_counts : KeepsCounts plans old.now.trees → AreShown Counts plans rows
  shown_counts kept = (
    all_from (IsShownIn Counts rows) plans (λ plan there. shown_of_count plan
        (kept.each plan there)),
    all_shown_counts kept.only,
  )

-- ---- a transaction that is let fall

pub let_fall : {S : Type 0} (g : Ghosts S) (old end : Held S) (mid : State) → IsIdle (state g old)
    → Survives (state g (record old { in_transaction = true })) mid (λ _. ⊥)
    → Survives mid (state g end) (λ _. ⊥) → (HasCleanDisk (state g end)
    → IsRolledBack mid (state g end)) → (state g end).in_transaction ≡ false
    → (HasCleanDisk mid → IsTrue mid.is_open → IsTrue (state g old).is_open
    × (mid.committed ≡ (state g old).committed)) → LooksAtTables (state g old) (state g end)
let_fall g old end mid idle inside undone rolled ended kept = record {
  idle = record {
    autocommit = ended;
    settled = λ clean o. let r = rolled clean in (r.undone o).0
        ∙ sym (r.undone o).1;
  };
  was_open = λ clean o. (kept (omega (arith, undone.clean, clean)) ((rolled clean).was_open o)).0;
  same = λ clean o.
      let r = rolled clean in
      let k = kept (omega (arith, undone.clean, clean)) (r.was_open o) in
      (r.undone o).0 ∙ (k.1 ∙ sym (idle.settled (omega (arith, inside.clean, undone.clean, clean))
      k.0));
  survives = survives_begin g old (state g end) (λ _. ⊥)
      (survives_then _ mid _ (λ _. ⊥) (λ _. ⊥) (λ _. ⊥) (λ _ db none. none) (λ _ db none. none)
      inside undone);
}
