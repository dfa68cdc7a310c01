-- The plan of a session that is read before it is set.
use Rattle.std.proofs.Common.{◌≡◌, ℕ, List, [], ◌∷◌, Bool, true, false, cond, Option}
use Rattle.std.proofs.Common.{Some, None, Ok, IsTrue, find, option_map, refl, sym, ap, subst, ◌∙◌}
use Rattle.std.specs.Map.{update}
use Rattle.sqlite.specs.declared.types.Value.TheVariants.{Text, Blob}
use Rattle.sqlite.specs.Order.{Row, column}
use Rattle.sqlite.specs.Effect.{Database}
use Rattle.sqlite.specs.State.{State, ExecutesInside, IsUnchanged, Shown}
use Rattle.sqlite_value.specs.Order.{bytes}
use Rattle.sqlite_rules.specs.Lists.{Has}
use Rattle.acct_book.specs.declared.key.Key.{Key}
use Rattle.acct_book.specs.Row.{RowFacts}
use Rattle.acct_book.specs.Content.{same_key, key_of}
use Rattle.acct_book.proofs.Keys.{key_is}
use Rattle.acct_sql_tables.specs.Tables.{session_plan, meta, price_plan, plan_count}
use Rattle.acct_sql_tables.specs.Columns.{session_plan_columns}
use Rattle.acct_sql_tables.specs.Content.{content_without_plans, plans_in_tables, is_session}
use Rattle.acct_sql_tables.specs.Content.{without_plan}
use Rattle.acct_sql_tables.specs.Book.{IsBook, HasSamePlans}
use Rattle.acct_sql_tables.specs.inner.Inside.{HasMade, HasMadeBare, HasPlanOf, HasSetPlan}
use Rattle.acct_sql_tables.specs.inner.Inside.{with_row}
use Rattle.acct_sql_tables.specs.declared.statements.TheConstants as texts
use Rattle.acct_sql_tables.proofs.FindLemmas.{find_has, none_has}
use Rattle.acct_sql_tables.proofs.MadeLemmas.{made_plan, made_new_plan, made_with_plan}
use Rattle.acct_sql_tables.proofs.MadeLemmas.{same_plans_then}
use Rattle.acct_sql_tables.proofs.PlanReadLemmas.{plan_found}

-- a plan that is kept already is set
kept_set : (plans : Key → Option (List ℕ)) (at : Key) (class : List ℕ) → plans at ≡ Some class
    → (key : Key) → plans key ≡ update same_key plans at (Some class) key
kept_set plans at class kept key = go (same_key at key) refl
  where
    go : (b : Bool) → same_key at key ≡ b → plans key ≡ cond b (Some class) (plans key)
    go true is = ap plans (sym (key_is at key is)) ∙ kept
    go false is = refl

-- a row is set whose plan is kept already
pub made_with_kept : (row : RowFacts) (old mid : State)
    → HasMadeBare (λ c. with_row c (without_plan row)) old mid → HasPlanOf row old
    → HasMade (λ c. with_row c row) old mid
made_with_kept row old mid first kept = made_with_plan row old mid mid first (record {
  shows = record {
    was_open = first.shows.is_open;
    is_open = first.shows.is_open;
    now_is = refl;
    committed_is = refl;
    mode = first.shows.mode;
  };
  book = first.book;
  content = refl;
  plans = λ i key. kept_set (plans_in_tables mid.now.trees) (key_of row) row.plan
      (ap (λ plans. plans (key_of row)) first.plans ∙ kept) key i;
  same_plans = record { number = refl; prices = refl; counts = refl };
})

none_mapped : {X Y : Type 0} (f : X → Y) (o : Option X) → option_map f o ≡ None → o ≡ None
none_mapped f None h = refl
none_mapped f (Some x) h = absurd cc

some_mapped : {X Y : Type 0} (f : X → Y) (o : Option X) (y : Y) → option_map f o ≡ Some y
    → (x : X) × (o ≡ Some x)
some_mapped f None y h = absurd cc
some_mapped f (Some x) y h = (x, refl)

module _ (row : RowFacts) (old mid : State) (rows : List Row) (book : IsBook old.now)
    (on : IsTrue old.in_transaction) (same : IsUnchanged old mid)
    (shown : Shown texts.PLAN_OF_SESSION.now (Text row.client ∷ Blob row.session ∷ []) old mid rows)
  where
    abbrev kept : List Row
    kept = old.now.trees session_plan.tree

    -- the query showed the plan that is kept
    first_kept : (first : Row) (more : List Row) → rows ≡ first ∷ more
        → plans_in_tables old.now.trees (key_of row) ≡ Some (bytes (column first 0))
    first_kept first more is = sym (plan_found (key_of row) old mid (first ∷ more) book
        (subst (λ rs. Shown texts.PLAN_OF_SESSION.now (Text row.client ∷ Blob row.session ∷ []) old
        mid rs) is shown))

    -- the tables are as they were
    mid_book : IsBook mid.now
    mid_book = subst IsBook (sym same.0.now_is) book

    looked : HasSamePlans old.now.trees mid.now.trees
    looked = record {
      number = ap (λ (d : Database). d.trees meta.tree) same.0.now_is;
      prices = ap (λ (d : Database). d.trees price_plan.tree) same.0.now_is;
      counts = ap (λ (d : Database). d.trees plan_count.tree) same.0.now_is;
    }

    -- it is the one to be set
    pub plan_stays : (first : Row) (more : List Row) → rows ≡ first ∷ more
        → column first 0 ≡ Blob row.plan → HasSetPlan (key_of row) row.plan old mid
    plan_stays first more is mine = record {
      shows = record {
        was_open = same.0.was_open;
        is_open = same.0.is_open;
        now_is = refl;
        committed_is = same.0.committed_is;
        mode = same.0.mode ∙ on;
      };
      book = mid_book;
      content = ap (λ (d : Database). content_without_plans d.trees) same.0.now_is;
      plans = ap (λ (d : Database). plans_in_tables d.trees) same.0.now_is ∙ (λ i key. kept_set
          (plans_in_tables old.now.trees) (key_of row) row.plan
          (first_kept first more is ∙ ap (λ v. Some (bytes v)) mine) key i);
      same_plans = looked;
    }

    -- what is set since the query is set since before it
    set_then : (new : State) → HasSetPlan (key_of row) row.plan mid new
        → HasSetPlan (key_of row) row.plan old new
    set_then new made = record {
      shows = record {
        was_open = same.0.was_open;
        is_open = made.shows.is_open;
        now_is = refl;
        committed_is = made.shows.committed_is ∙ same.0.committed_is;
        mode = made.shows.mode;
      };
      book = made.book;
      content = made.content ∙ ap (λ (d : Database). content_without_plans d.trees) same.0.now_is;
      plans = made.plans ∙ ap (λ (d : Database). update same_key (plans_in_tables d.trees)
          (key_of row) (Some row.plan)) same.0.now_is;
      same_plans = same_plans_then old.now.trees mid.now.trees new.now.trees
          looked made.same_plans;
    }

    -- another is kept
    pub plan_replaced : (new : State) (count : ℕ) (first : Row) (more : List Row)
        → rows ≡ first ∷ more
        → ExecutesInside 0 texts.SET_SESSION_PLAN.now (session_plan_columns row) mid new (Ok count)
        → HasSetPlan (key_of row) row.plan old new
    plan_replaced new count first more is ran =
        let found = some_mapped (λ r. bytes (column r 3)) (find (is_session (key_of row)) kept)
        (bytes (column first 0)) (first_kept first more is) in
        let here = find_has (is_session (key_of row)) kept found.0 found.1 in
        set_then new (made_plan row mid new count (λ o. mid_book) found.0
        (subst (λ (d : Database). Has (d.trees session_plan.tree) found.0) (sym same.0.now_is)
        here.0) here.1 ran)

    -- none is kept
    pub plan_added : (new : State) (count : ℕ) → rows ≡ []
        → ExecutesInside 0 texts.NEW_SESSION_PLAN.now (session_plan_columns row) mid new (Ok count)
        → HasSetPlan (key_of row) row.plan old new
    plan_added new count none ran =
        let missing = none_mapped (λ r. bytes (column r 3)) (find (is_session (key_of row)) kept)
        (sym (plan_found (key_of row) old mid [] book (subst (λ rs. Shown texts.PLAN_OF_SESSION.now
        (Text row.client ∷ Blob row.session ∷ []) old mid rs) none shown))) in
        set_then new (made_new_plan row mid new count (λ o. mid_book)
        (subst (λ (d : Database). (r : Row) → Has (d.trees session_plan.tree) r
        → is_session (key_of row) r ≡ false) (sym same.0.now_is)
        (none_has (is_session (key_of row)) kept missing)) ran)
