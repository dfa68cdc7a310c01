-- Rows whose ids rise, one more at a time.
use Rattle.std.proofs.Common.{◌≡◌, ◌⊎◌, inl, inr, ℕ, ℤ, List, [], ◌∷◌, ◌++◌, Option, Some, None}
use Rattle.std.proofs.Common.{map, int_cmp, refl, sym, ap, subst, subst₂, ◌∙◌, Less, false, arith}
use Rattle.std.specs.List.{AllByRecursion}
use Rattle.std.specs.List.Sorted.{IsStrictlySortedBy}
use Rattle.std.specs.Cmp.{int_cmp_total}
use Rattle.std.proofs.lemmas.List.{map-append}
use Rattle.sqlite.specs.declared.types.Value.TheVariants.{Int}
use Rattle.sqlite.specs.Order.{Row, column}
use Rattle.sqlite.specs.Edit.{id_in}
use Rattle.sqlite.specs.Store.{Ghosts}
use Rattle.sqlite.specs.Held.{Held, state}
use Rattle.sqlite.specs.State.{HasCleanDisk, IsUnchanged, IsRolledBack, Survives}
use Rattle.sqlite.specs.State.{CommitsShowing, Fails}
use Rattle.sqlite.specs.declared.error.Error.{Error}
use Rattle.sqlite.specs.Given.{HasGiven, HasBegun, Advances}
use Rattle.sqlite.specs.Listing.{understood}
use Rattle.sqlite.proofs.Callers.{IsPlain, begun_plain, unchanged_then}
use Rattle.sqlite_trees.proofs.ListLemmas.{all-append}
use Rattle.acct_sql_tables.specs.Look.{IsIdle, LooksAtTables}
use Rattle.acct_sql_tables.specs.inner.Rising.{AreRising, IsAbove, ShowsRising, shown_id}
use Rattle.acct_sql_tables.proofs.ListLemmas.{ascends}
use Rattle.acct_sql_tables.proofs.LookLemmas.{looks, looks_then, commits_nothing, plain_here}

-- the last row, if there is one, begins with this id
abbrev pub EndsAt : Option ℤ → List Row → Type 0
EndsAt None rows = rows ≡ []
EndsAt (Some id) rows = (front : List Row) × (row : Row) × (rows ≡ front ++ row ∷ [])
    × (shown_id row ≡ id)

pub none_rise : AreRising []
unfolding IsStrictlySortedBy
none_rise = record { ids = tt; sorted = tt }

module _ (rows : List Row) (row : Row) (id : ℤ) (is : column row 0 ≡ Int id) where
  id_is : shown_id row ≡ id
  id_is = ap id_in is

  more_ids : AllByRecursion (λ r. column r 0 ≡ Int (shown_id r)) rows
      → AllByRecursion (λ r. column r 0 ≡ Int (shown_id r)) (rows ++ row ∷ [])
  more_ids h = all-append (λ r. column r 0 ≡ Int (shown_id r)) rows (row ∷ []) h
      (is ∙ ap Int (sym id_is), tt)

  more_sorted : (last : Option ℤ) → EndsAt last rows → IsAbove last id
      → IsStrictlySortedBy int_cmp (map shown_id rows)
      → IsStrictlySortedBy int_cmp (map shown_id (rows ++ row ∷ []))
  unfolding IsStrictlySortedBy
  more_sorted None ends above h = subst
      (λ l. IsStrictlySortedBy int_cmp (map shown_id (l ++ row ∷ []))) (sym ends) (tt, tt)
  more_sorted (Some before) ends above h =
      let keys : map shown_id rows ≡ map shown_id ends.0 ++ shown_id ends.1 ∷ [] =
      ap (map shown_id) ends.2 ∙ map-append shown_id ends.0 (ends.1 ∷ []) in
      let all : map shown_id (rows ++ row ∷ [])
      ≡ (map shown_id ends.0 ++ shown_id ends.1 ∷ []) ++ shown_id row ∷ [] =
      map-append shown_id rows (row ∷ []) ∙ ap (λ l. l ++ shown_id row ∷ []) keys in
      let less : int_cmp (shown_id ends.1) (shown_id row) ≡ Less =
      subst₂ (λ a b. int_cmp a b ≡ Less) (sym ends.3) (sym id_is) above in
      subst (IsStrictlySortedBy int_cmp) (sym all) (ascends int_cmp int_cmp_total
      (map shown_id ends.0) (shown_id ends.1) (shown_id row)
      (subst (IsStrictlySortedBy int_cmp) keys h) less)

  pub more_rise : (last : Option ℤ) → EndsAt last rows → IsAbove last id → AreRising rows
      → AreRising (rows ++ row ∷ [])
  more_rise last ends above h = record {
    ids = more_ids h.ids;
    sorted = more_sorted last ends above h.sorted;
  }

  pub more_end : EndsAt (Some id) (rows ++ row ∷ [])
  more_end = (rows, row, refl, id_is)

-- ---- a query whose rows have risen so far

module _ {S : Type 0} (g : Ghosts S) (sql : List ℕ) where
  -- it has given rows whose ids rise up to this one, and nothing has changed
  pub record HasRisen (old now : Held S) (last : Option ℤ) : Type 0 where
    pub looks : LooksAtTables (state g old) (state g now)
    pub same : HasCleanDisk (state g now) → IsUnchanged (state g old) (state g now)
    pub given : HasCleanDisk (state g now) → (rows : List Row) × HasGiven g sql [] now rows
        × AreRising rows × EndsAt last rows

  pub risen_first : (old new : Held S) → IsIdle (state g old)
      → (HasCleanDisk (state g old) → IsPlain (understood (state g old).now.schema sql))
      → (HasCleanDisk (state g new) → HasBegun g sql [] old new)
      → ((state g old).in_transaction ≡ false → (state g new).in_transaction ≡ false)
      → Survives (state g old) (state g new) (CommitsShowing sql [] (state g old))
      → HasRisen old new None
  risen_first old new idle plain begun mode survives =
      let began = λ (clean : HasCleanDisk (state g new)). begun_plain g sql [] old new
      (plain_here sql [] (state g old) (state g new) plain survives clean) (begun clean) in
      record {
        looks = looks (state g old) (state g new) idle (λ clean. inl (began clean).1) mode
            (commits_nothing sql [] (state g old) (state g new) plain survives);
        same = λ clean. (began clean).1;
        given = λ clean. ([], (began clean).0, none_rise, refl);
      }

  module _ (old now new : Held S) (last : Option ℤ) (so_far : HasRisen old now last)
      (mode : (state g now).in_transaction ≡ false → (state g new).in_transaction ≡ false)
      (survives : Survives (state g now) (state g new) (λ _. ⊥)) where
    early : HasCleanDisk (state g new) → HasCleanDisk (state g now)
    early clean = omega (arith, survives.clean, clean)

    pub looks_on : (HasCleanDisk (state g new) → IsUnchanged (state g now) (state g new)
        ⊎ IsRolledBack (state g now) (state g new)) → LooksAtTables (state g old) (state g new)
    looks_on quiet = looks_then (state g old) (state g now) (state g new) so_far.looks
        (looks (state g now) (state g new) so_far.looks.idle quiet mode survives)

    pub failed_looks : (e : Error) → (HasCleanDisk (state g new)
        → Fails (state g now) (state g new) ⊥ e ⊎ IsUnchanged (state g now) (state g new))
        → LooksAtTables (state g old) (state g new)
    failed_looks e failed = looks_on (λ clean. turned (failed clean))
      where
        turned : Fails (state g now) (state g new) ⊥ e ⊎ IsUnchanged (state g now) (state g new)
            → IsUnchanged (state g now) (state g new) ⊎ IsRolledBack (state g now) (state g new)
        turned (inl fails) = inr fails.3
        turned (inr same) = inl same

    module _ (same : HasCleanDisk (state g new) → IsUnchanged (state g now) (state g new)) where
      pub risen_more : (row : Row) (id : ℤ) → column row 0 ≡ Int id → IsAbove last id
          → (HasCleanDisk (state g new) → Advances g now new (Some row))
          → HasRisen old new (Some id)
      risen_more row id is above goes = record {
        looks = looks_on (λ clean. inl (same clean));
        same = λ clean. unchanged_then (state g old) (state g now) (state g new)
            (so_far.same (early clean)) (same clean);
        given = λ clean. let was = so_far.given (early clean) in (
          was.0 ++ row ∷ [],
          goes clean sql [] was.0 was.1,
          more_rise was.0 row id is last was.3 above was.2,
          more_end was.0 row id is,
        );
      }

      pub risen_all : (HasCleanDisk (state g new) → Advances g now new None)
          → HasCleanDisk (state g new) → ShowsRising g sql old new
      risen_all goes clean = let was = so_far.given (early clean) in record {
        rows = was.0;
        rising = was.2;
        before = now;
        same = so_far.same (early clean);
        shown = goes clean sql [] was.0 was.1;
      }
