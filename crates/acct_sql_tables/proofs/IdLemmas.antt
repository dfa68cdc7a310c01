-- Rowids that ascend distinguish rows.
use Rattle.std.proofs.Common.{◌≡◌, inl, inr, ℕ, ℤ, List, [], ◌∷◌, true, false, Bool, map}
use Rattle.std.proofs.Common.{flat_map, refl, sym, ap, subst, ◌∙◌, Ordering, Less, Equal, Greater}
use Rattle.std.proofs.Common.{true≢false, int_cmp}
use Rattle.std.specs.Ordering.{is_eq, eq_by_cmp, ordering_reverse}
use Rattle.std.specs.List.{AllByRecursion, IsDistinct}
use Rattle.std.specs.List.Sorted.{IsStrictlySortedBy}
use Rattle.std.specs.Cmp.{int_cmp_total}
use Rattle.std.proofs.lemmas.Cmp.{tied_itself}
use Rattle.std.proofs.lemmas.List.Sorted.{IsPermutation-sym}
use Rattle.std.proofs.lemmas.Map.Keys.{IsDistinct-from_sorted, IsDistinct-IsPermutation}
use Rattle.sqlite.specs.declared.types.Value.TheVariants.{Null, Int}
use Rattle.sqlite.specs.Order.{Row, column}
use Rattle.sqlite.specs.Tree.{Trees, rowid}
use Rattle.sqlite.specs.Edit.{id_in}
use Rattle.sqlite.specs.Term.{eval_all}
use Rattle.sqlite.specs.Query.{Query, Output, output, IsAnswerAs}
use Rattle.sqlite.specs.Schema.{Schema}
use Rattle.sqlite.specs.Store.{Ghosts}
use Rattle.sqlite.specs.Effect.{Database}
use Rattle.sqlite.specs.Held.{Held, state}
use Rattle.sqlite.specs.State.{State, Shown}
use Rattle.sqlite_rules.specs.Lists.{Has}
use Rattle.sqlite_rules.proofs.ListLemmas.{all_has}
use Rattle.acct_sql_tables.specs.Tidy.{IsTidy}
use Rattle.acct_sql_tables.specs.inner.Rising.{ShowsRising, shown_id, tree_of, rowids_of, HasTable}
use Rattle.acct_sql_tables.specs.declared.rowids.BookTable.{BookTable}
use Rattle.acct_sql_tables.specs.declared.rowids.BookTable.TheVariants.{Meta, Account, Voucher}
use Rattle.acct_sql_tables.specs.declared.rowids.BookTable.TheVariants.{Session}
use Rattle.acct_sql_tables.specs.declared.rowids.BookTable.TheVariants.{SessionPlan}
use Rattle.acct_sql_tables.proofs.QueryLemmas.{IsQueryIn, over_table, all_rows, has_shown}
use Rattle.acct_sql_tables.proofs.QueryLemmas.{answer_of}
use Rattle.acct_sql_tables.proofs.TextLemmas.{ids_shown, by_rowid, session_plan_rowids}
use Rattle.acct_sql_tables.proofs.OlderLemmas.{account_ids, voucher_ids, session_ids, number_ids}

module _ {X K : Type 0} (e : K → K → Bool) (flips : (x y : K) → e x y ≡ e y x) (key : X → K) where
  apart : (x : X) (xs : List X) (y : X) → AllByRecursion (λ k. e (key x) k ≡ false) (map key xs)
      → Has xs y → e (key x) (key y) ≡ false
  apart x [] y h there = absurd there
  apart x (z ∷ xs) y h (inl same) = ap (λ k. e (key x) (key k)) same ∙ h.0
  apart x (z ∷ xs) y h (inr later) = apart x xs y h.1 later

  -- if the keys differ, two members with one key are one
  one_of : (xs : List X) → IsDistinct e (map key xs) → (r s : X) → Has xs r → Has xs s
      → e (key r) (key s) ≡ true → r ≡ s
  unfolding IsDistinct
  one_of [] h r s there here same = absurd there
  one_of (x ∷ xs) h r s (inl first) (inl second) same = first ∙ sym second
  one_of (x ∷ xs) h r s (inl first) (inr later) same = absurd
      (true≢false (sym same ∙ (ap (λ k. e (key k) (key s)) first ∙ apart x xs s h.0 later)))
  one_of (x ∷ xs) h r s (inr later) (inl second) same = absurd
      (true≢false (sym same ∙ (flips (key r) (key s) ∙ (ap (λ k. e (key k) (key r)) second
      ∙ apart x xs r h.0 later))))
  one_of (x ∷ xs) h r s (inr early) (inr later) same = one_of xs h.1 r s early later same

map_map : {A B C : Type 0} (f : A → B) (g : B → C) (xs : List A) → map g (map f xs)
    ≡ map (λ x. g (f x)) xs
map_map f g [] = refl
map_map f g (x ∷ xs) = ap (λ l. g (f x) ∷ l) (map_map f g xs)

-- without WHERE each row is met once
each_once : (params : Row) (rows : List Row) → flat_map (λ r. (params ∷ r ∷ []) ∷ []) rows
    ≡ map (λ r. params ∷ r ∷ []) rows
each_once params [] = refl
each_once params (r ∷ rows) = ap (λ l. (params ∷ r ∷ []) ∷ l) (each_once params rows)

eq_flips : (m n : ℤ) → eq_by_cmp int_cmp m n ≡ eq_by_cmp int_cmp n m
eq_flips m n = ap is_eq (int_cmp_total.antisymm m n) ∙ turned (int_cmp n m)
  where
    turned : (o : Ordering) → is_eq (ordering_reverse o) ≡ is_eq o
    turned Less = refl
    turned Equal = refl
    turned Greater = refl

module _ (t : ℕ) (db : Trees) (rows : List Row) (a : IsAnswerAs Null
    (over_table t [] ids_shown by_rowid all_rows) db [] rows)
    (ints : AllByRecursion (λ row. column row 0 ≡ Int (shown_id row)) rows)
    (sorted : IsStrictlySortedBy int_cmp (map shown_id rows)) where
  abbrev q : Query
  q = over_table t [] ids_shown by_rowid all_rows

  abbrev e : Output → Output → Bool
  e o p = eq_by_cmp int_cmp (shown_id o.1) (shown_id p.1)

  distinct_map : {X : Type 0} (f : X → ℤ) (xs : List X) → IsDistinct (eq_by_cmp int_cmp) (map f xs)
      → IsDistinct (λ x y. eq_by_cmp int_cmp (f x) (f y)) xs
  unfolding IsDistinct
  distinct_map f [] h = h
  distinct_map f (x ∷ xs) h = (each xs h.0, distinct_map f xs h.1)
    where
      each : (ys : List _) → AllByRecursion (λ k. eq_by_cmp int_cmp (f x) k ≡ false) (map f ys)
          → AllByRecursion (λ y. eq_by_cmp int_cmp (f x) (f y) ≡ false) ys
      each [] all = all
      each (y ∷ ys) all = (all.0, each ys all.1)

  map_distinct : {X : Type 0} (f : X → ℤ) (xs : List X) → IsDistinct
      (λ x y. eq_by_cmp int_cmp (f x) (f y)) xs → IsDistinct (eq_by_cmp int_cmp) (map f xs)
  unfolding IsDistinct
  map_distinct f [] h = h
  map_distinct f (x ∷ xs) h = (each xs h.0, map_distinct f xs h.1)
    where
      each : (ys : List _) → AllByRecursion (λ y. eq_by_cmp int_cmp (f x) (f y) ≡ false) ys
          → AllByRecursion (λ k. eq_by_cmp int_cmp (f x) k ≡ false) (map f ys)
      each [] all = all
      each (y ∷ ys) all = (all.0, each ys all.1)

  ordered_distinct : IsDistinct e a.ordered
  ordered_distinct = distinct_map (λ o. shown_id o.1) a.ordered
      (subst (IsDistinct (eq_by_cmp int_cmp)) (ap (map shown_id) a.shown
      ∙ map_map (λ (o : Output). o.1) shown_id a.ordered)
      (IsDistinct-from_sorted int_cmp (map shown_id rows) sorted))

  kept_is : a.kept ≡ map (λ r. output q ([] ∷ r ∷ [])) (db t)
  kept_is = a.distinct ∙ (ap (map (output q)) (a.grouped ∙ each_once [] (db t))
      ∙ map_map (λ r. [] ∷ r ∷ []) (output q) (db t))

  ids_distinct : IsDistinct (eq_by_cmp int_cmp) (map (λ r. id_in (rowid r)) (db t))
  ids_distinct =
      let kept = IsDistinct-IsPermutation e (λ o p. eq_flips (shown_id o.1) (shown_id p.1))
      a.ordered a.kept (IsPermutation-sym a.kept a.ordered a.same) ordered_distinct in
      subst (IsDistinct (eq_by_cmp int_cmp)) (ap (map (λ (o : Output). shown_id o.1)) kept_is
      ∙ map_map (λ r. output q ([] ∷ r ∷ [])) (λ o. shown_id o.1) (db t))
      (map_distinct (λ (o : Output). shown_id o.1) a.kept kept)

  pub ids_tidy : IsTidy (db t)
  ids_tidy = record {
    ints = λ r h. all_has (λ row. column row 0 ≡ Int (shown_id row)) rows
        (eval_all ids_shown ([] ∷ r ∷ [])) ints (has_shown t [] ids_shown by_rowid Null db [] rows a
        r h refl);
    keyed = λ r s h k same. one_of (eq_by_cmp int_cmp) eq_flips (λ r. id_in (rowid r)) (db t)
        ids_distinct r s h k
        (ap (λ v. eq_by_cmp int_cmp (id_in (rowid r)) (id_in v)) (sym same)
        ∙ ap is_eq (tied_itself int_cmp_total (id_in (rowid r))));
  }

-- the query for the rowids of a table means that
pub rowids_shown : (table : BookTable) (schema : Schema) → HasTable table schema
    → IsQueryIn schema (rowids_of table) (tree_of table) [] ids_shown by_rowid all_rows
rowids_shown Meta schema has = number_ids schema has
rowids_shown Account schema has = account_ids schema has
rowids_shown Voucher schema has = voucher_ids schema has
rowids_shown Session schema has = session_ids schema has
rowids_shown SessionPlan schema has = subst (λ s. IsQueryIn s (rowids_of SessionPlan)
    (tree_of SessionPlan) [] ids_shown by_rowid all_rows) (sym has) session_plan_rowids

table_tidy : (table : BookTable) (old new : State) (rows : List Row)
    → AllByRecursion (λ row. column row 0 ≡ Int (shown_id row)) rows
    → IsStrictlySortedBy int_cmp (map shown_id rows) → HasTable table old.now.schema
    → Shown (rowids_of table) [] old new rows → IsTidy (old.now.trees (tree_of table))
table_tidy table old new rows ints sorted has h = ids_tidy (tree_of table) old.now.trees rows
    (answer_of (rowids_shown table old.now.schema has) [] old new rows refl h) ints sorted

-- ---- rows that are read one at a time

module _ {S : Type 0} (g : Ghosts S) (old new : Held S) where
  pub table_rises : (table : BookTable) → HasTable table (state g old).now.schema
      → ShowsRising g (rowids_of table) old new → IsTidy ((state g old).now.trees (tree_of table))
  table_rises table has h =
      let there : HasTable table (state g h.before).now.schema =
      subst (λ (d : Database). HasTable table d.schema) (sym h.same.0.now_is) has in
      subst (λ (d : Database). IsTidy (d.trees (tree_of table))) h.same.0.now_is
      (table_tidy table (state g h.before) (state g new) h.rows h.rising.ids h.rising.sorted there
      h.shown)
