-- The first row of an ordered query, and the least key after another.
use Rattle.std.proofs.Common.{◌≡◌, inl, ℕ, pos, List, [], ◌∷◌, map, take, true, false, Bool, Option}
use Rattle.std.proofs.Common.{Some, None, find, option_map, refl, sym, ap, subst, subst₂, ◌∙◌}
use Rattle.std.proofs.Common.{arith, Ordering, IsSorted, true≢false}
use Rattle.std.specs.Ordering.{is_lt}
use Rattle.std.proofs.lemmas.List.Sorted.{sorted_far}
use Rattle.std.proofs.lemmas.List.MinMax.{ranks_by}
use Rattle.sqlite.specs.declared.types.Value.{Value}
use Rattle.sqlite.specs.declared.types.Value.TheVariants.{Null, Int}
use Rattle.sqlite_value.specs.declared.keys.Key.{Key}
use Rattle.sqlite.specs.Collation.TheVariants.{Binary}
use Rattle.sqlite.specs.Order.{Row}
use Rattle.sqlite.specs.Tree.{Trees}
use Rattle.sqlite.specs.Term.{Term, lit, eval_all}
use Rattle.sqlite.specs.Query.{Query, Output, output, output_cmp, IsAnswerAs}
use Rattle.sqlite_rules.specs.Lists.{Has}
use Rattle.sqlite_rules.proofs.ListLemmas.{contains_had}
use Rattle.sqlite_sql.proofs.QueryLemmas.{output_cmp_total}
use Rattle.acct_sql_tables.proofs.QueryLemmas.{over_table, meets, ordered_has, has_ordered}
use Rattle.acct_sql_tables.proofs.FindLemmas.{IsOne, not_true, found_is, none_is}
use Rattle.acct_sql_tables.specs.inner.Next.{IsLeast}

abbrev pub one_row : Term
one_row = lit (Int (pos 1))

abbrev pub rising : Key
rising = record { collation = Binary; descending = false }

module _ (t : ℕ) (filter project : List Term) (order : List (Term × Key)) (lost : Value)
    (db : Trees) (params : Row) where
  abbrev first_query : Query
  first_query = over_table t filter project order one_row

  -- no row was shown, so none is met
  pub none_met : IsAnswerAs lost first_query db params [] → (r : Row) → Has (db t) r
      → meets t filter project order lost db params r ≡ true → ⊥
  none_met a r h passes = go a.ordered a.shown (has_ordered t filter project order lost db params
      one_row [] a r h passes)
    where
      go : (ordered : List Output) → [] ≡ take 1 (map (λ (o : Output). o.1) ordered)
          → Has ordered (output first_query (params ∷ r ∷ [])) → ⊥
      go [] is there = there
      go (o ∷ more) is there = cc

  -- the row that was shown is that of a row that is met, and none that is met precedes it
  pub least_met : (row : Row) (rest : List Row) → IsAnswerAs lost first_query db params (row ∷ rest)
      → (r : Row) × Has (db t) r × (meets t filter project order lost db params r ≡ true)
      × (row ≡ eval_all project (params ∷ r ∷ []))
      × ((s : Row) → Has (db t) s → meets t filter project order lost db params s ≡ true
      → is_lt (output_cmp first_query (output first_query (params ∷ s ∷ []))
      (output first_query (params ∷ r ∷ []))) ≡ false)
  least_met row rest a = go a.ordered refl a.shown
    where
      go : (ordered : List Output) → a.ordered ≡ ordered → row ∷ rest
          ≡ take 1 (map (λ (o : Output). o.1) ordered)
          → (r : Row) × Has (db t) r × (meets t filter project order lost db params r ≡ true)
          × (row ≡ eval_all project (params ∷ r ∷ []))
          × ((s : Row) → Has (db t) s → meets t filter project order lost db params s ≡ true
          → is_lt (output_cmp first_query (output first_query (params ∷ s ∷ []))
          (output first_query (params ∷ r ∷ []))) ≡ false)
      go [] is shown = absurd cc
      go (o ∷ more) is shown =
          let r = ordered_has t filter project order lost db params one_row (row ∷ rest) a o
          (subst (λ k. Has k o) (sym is) (inl refl)) in
          let here : row ≡ o.1 = cc in
          let up : IsSorted (output_cmp first_query) (o ∷ more) = subst
          (IsSorted (output_cmp first_query)) is a.sorted in (
            r.0,
            r.1,
            r.2,
            here ∙ ap (λ (p : Output). p.1) r.3,
            λ s there passes.
                let at = contains_had (o ∷ more) (output first_query (params ∷ s ∷ []))
                (subst (λ k. Has k (output first_query (params ∷ s ∷ []))) is
                (has_ordered t filter project order lost db params one_row (row ∷ rest) a s there
                passes)) in
                subst₂ (λ x y. is_lt (output_cmp first_query x y) ≡ false) at.2 r.3
                (sorted_far (λ x y. is_lt (output_cmp first_query x y))
                (ranks_by (output_cmp_total first_query) (λ x. x)) (o ∷ more) up 0 at.0
                (output first_query (params ∷ s ∷ [])) (omega arith) at.1),
          )

-- ---- the least key

-- what distinguishes the rows of a table, how its keys are ordered, and which of them are met
module _ {K X : Type 0} (cmp : K → K → Ordering) (holds : K → Row → Bool) (read : Row → X) (t : ℕ)
    (filter project : List Term) (order : List (Term × Key)) (db : Trees) (params : Row)
    (past : K → Type 0)
    (keyed : (r : Row) → Has (db t) r → (k : K) × (holds k r ≡ true))
    (one : (k : K) → IsOne (holds k) (db t))
    (met_past : (k : K) (r : Row) → holds k r ≡ true → meets t filter project order Null db params r
    ≡ true → past k)
    (past_met : (k : K) (r : Row) → holds k r ≡ true → past k
    → meets t filter project order Null db params r ≡ true)
    (ranked : (j k : K) (r s : Row) → holds j r ≡ true → holds k s ≡ true → past j → past k
    → output_cmp (over_table t filter project order one_row)
    (output (over_table t filter project order one_row) (params ∷ r ∷ []))
    (output (over_table t filter project order one_row) (params ∷ s ∷ [])) ≡ cmp j k) where
  abbrev at_key : K → Option X
  at_key k = option_map read (find (holds k) (db t))

  unmet : (k : K) → ((r : Row) → Has (db t) r → holds k r ≡ true → ⊥) → at_key k ≡ None
  unmet k none = ap (option_map read) (none_is (holds k) (db t) (λ r h. not_true _ (none r h)))

  pub none_next : IsAnswerAs Null (over_table t filter project order one_row) db params []
      → IsLeast cmp at_key past None
  none_next a k later = unmet k (λ r h mine. none_met t filter project order Null db params a r h
      (past_met k r mine later))

  pub some_next : (row : Row) (rest : List Row) → IsAnswerAs Null
      (over_table t filter project order one_row) db params (row ∷ rest)
      → (k : K) × (r : Row) × Has (db t) r × (holds k r ≡ true)
      × (row ≡ eval_all project (params ∷ r ∷ [])) × IsLeast cmp at_key past (Some (k, read r))
  some_next row rest a =
      let r = least_met t filter project order Null db params row rest a in
      let k = keyed r.0 r.1 in
      let later = met_past k.0 r.0 k.1 r.2 in
      let found = found_is (holds k.0) (db t) r.0 r.1 k.1
      (λ s h passes. one k.0 s r.0 h r.1 passes k.1) in (
        k.0,
        r.0,
        r.1,
        k.1,
        r.3,
        (
          ap (option_map read) found,
          later,
          λ j past_j less. unmet j (λ s h mine.
              true≢false (sym (ap is_lt (ranked j k.0 s r.0 mine k.1 past_j later ∙ less))
              ∙ r.4 s h (past_met j s mine past_j))),
        ),
      )
