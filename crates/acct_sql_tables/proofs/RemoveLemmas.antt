-- The statements that remove a session and its plan, as what they make of the content of a book.
use Rattle.std.proofs.Common.{◌≡◌, ℕ, List, [], ◌∷◌, ◌++◌, Bool, true, false, cond, None, Some}
use Rattle.std.proofs.Common.{Option, Ok, IsTrue, find, option_map, refl, sym, ap, subst, ◌∙◌}
use Rattle.std.proofs.Common.{true≢false, arith}
use Rattle.std.specs.List.{list_all}
use Rattle.std.specs.Map.{update}
use Rattle.std.proofs.lemmas.Bool.{and_parts}
use Rattle.sqlite.specs.declared.types.Value.TheVariants.{Null, Text, Blob}
use Rattle.sqlite.specs.Order.{Row, column}
use Rattle.sqlite.specs.Term.{holds}
use Rattle.sqlite.specs.State.{State, ExecutesInside}
use Rattle.sqlite_value.specs.Order.{bytes}
use Rattle.sqlite_schema.specs.declared.schema.Keys.TheVariants.{Enforced}
use Rattle.acct_book.specs.declared.key.Key.{Key}
use Rattle.acct_book.specs.Row.{RowFacts}
use Rattle.acct_book.specs.Content.{Content, same_key, key_of, rows_without, with_forward}
use Rattle.acct_book.proofs.Keys.{key_is, key_refl}
use Rattle.acct_sql_tables.specs.Tables.{book_schema, session, session_plan}
use Rattle.acct_sql_tables.specs.Content.{content_in_tables, content_without_plans, plans_in_tables}
use Rattle.acct_sql_tables.specs.Content.{is_session}
use Rattle.acct_sql_tables.specs.Content.{with_plan, with_plans, with_list, listed_in_tables}
use Rattle.acct_sql_tables.specs.Book.{IsBook}
use Rattle.acct_sql_tables.specs.inner.Inside.{without_keys, without_rows, with_row, HasMade}
use Rattle.acct_sql_tables.specs.inner.Inside.{HasMadeBare, HasRemovedPlan, HasRemoved}
use Rattle.acct_sql_tables.specs.declared.statements.TheConstants as texts
use Rattle.acct_sql_tables.proofs.TextLemmas as t
use Rattle.acct_sql_tables.proofs.TextLemmas.{session_filter, ids_shown}
use Rattle.acct_sql_tables.proofs.StatementLemmas.{deletes}
use Rattle.acct_sql_tables.proofs.WriteLemmas.{delete_left, delete_tidy}
use Rattle.acct_sql_tables.proofs.FindLemmas.{IsOne, IsLeft, find_left, none_is, not_true}
use Rattle.acct_sql_tables.proofs.ValueLemmas.{equal_text, text_equal, equal_blob, blob_equal}
use Rattle.acct_sql_tables.proofs.KeyLemmas.{one_session, one_session_plan}
use Rattle.acct_sql_tables.proofs.MadeLemmas.{IsBookIf, after_session, after_plan, same_plans}
use Rattle.acct_sql_tables.proofs.MadeLemmas.{same_plans_then, rows_changed, with_all, bare_same}
use Rattle.acct_sql_tables.proofs.MadeLemmas.{made_then}
use Rattle.acct_sql_tables.proofs.SessionLemmas as s
use Rattle.acct_sql_tables.proofs.SessionLemmas.{key_here, here_key, one_key}
use Rattle.acct_sql_tables.proofs.SessionPlanLemmas as p

-- ---- the rows of a table whose key is that of a session

abbrev pub key_values : Key → Row
key_values key = Text key.client ∷ Blob key.session ∷ []

-- the row is met by the statement
abbrev is_taken : Key → Row → Bool
is_taken key r = list_all (holds (key_values key ∷ r ∷ [])) session_filter

taken_key : (key : Key) (r : Row) → is_taken key r ≡ true → is_session key r ≡ true
taken_key key r h =
    let one = and_parts _ _ h in
    let two = and_parts _ _ one.1 in
    here_key key r (equal_text (column r 1) key.client one.0)
    (equal_blob (column r 2) key.session two.0)

key_taken : (key : Key) (r : Row) → is_session key r ≡ true → is_taken key r ≡ true
key_taken key r h = let k = key_here key r h in rw (
  k.0,
  k.1,
  text_equal key.client,
  blob_equal key.session,
) refl

mapped_none : {X Y : Type 0} (f : X → Y) (b : Bool) (o : Option X) → option_map f (cond b None o)
    ≡ cond b None (option_map f o)
mapped_none f true o = refl
mapped_none f false o = refl

module _ (key : Key) (rows next : List Row) (one : (k : Key) → IsOne (is_session k) rows)
    (left : IsLeft (is_taken key) rows next) where
  found_left : (other : Key) → find (is_session other) next
      ≡ cond (same_key key other) None (find (is_session other) rows)
  found_left other = go (same_key key other) refl
    where
      go : (b : Bool) → same_key key other ≡ b → find (is_session other) next
          ≡ cond b None (find (is_session other) rows)
      go true is = none_is (is_session other) next (λ r h. not_true _ (λ passes.
          let mine = subst (λ k. is_session k r ≡ true) (sym (key_is key other is)) passes in
          true≢false (sym (key_taken key r mine) ∙ (left.back r h).1)))
      go false is = find_left (is_session other) (is_taken key) rows next (one other)
          (λ r h mine. not_true _ (λ passes.
          let same = one_key key other r (taken_key key r passes) mine in
          true≢false (sym (key_refl other) ∙ (ap (λ k. same_key k other) (sym same) ∙ is)))) left

  -- nothing is found under the key, and all else as before
  read_left : {X : Type 0} (f : Row → X) (other : Key) → option_map f (find (is_session other) next)
      ≡ update same_key (λ k. option_map f (find (is_session k) rows)) key None other
  read_left f other = ap (option_map f) (found_left other)
      ∙ mapped_none f (same_key key other) (find (is_session other) rows)

-- ---- the two statements

pub removed_row : (key : Key) (old new : State) (count : ℕ) → IsBookIf old
    → ExecutesInside 0 texts.REMOVE_SESSION.now (key_values key) old new (Ok count)
    → HasMadeBare (λ c. without_rows c (key ∷ [])) old new
removed_row key old new count books h =
    let book = books h.1.was_open in
    let params = key_values key in
    let done = deletes 4 session.name session.tree session.columns (1 ∷ 2 ∷ []) refl (λ db. refl)
    (λ taken news. refl) texts.REMOVE_SESSION.now session_filter ids_shown params old new count
    t.remove_session_is t.remove_session_plain book.schema h.0 in
    let accounts = done.applies.tables.1.1.0 (λ e. absurd (omega (arith, e))) in
    let vouchers = done.applies.tables.1.1.1.0 (λ e. absurd (omega (arith, e))) in
    let plans = done.applies.tables.1.1.1.1.1.1.0 (λ e. absurd (omega (arith, e))) in
    let tidy = delete_tidy book_schema Enforced session session_filter ids_shown Null old.now.trees
    new.now.trees params done.answer done.selects (λ r. refl) book.sessions done.applies in
    let left = delete_left book_schema Enforced session session_filter ids_shown Null old.now.trees
    new.now.trees params done.answer done.selects (λ r. refl) book.sessions done.applies in
    record {
      shows = h.1;
      book = after_session old.now new.now book done.schema done.sound tidy accounts vouchers plans;
      content = rows_changed old.now.trees new.now.trees
          (update same_key (s.rows_in (old.now.trees session.tree)) key None)
          (read_left key (old.now.trees session.tree) (new.now.trees session.tree)
          (one_session old.now book) left _) accounts vouchers;
      plans = ap p.plans_in plans;
      same_plans = same_plans 8 old.now.trees new.now.trees (omega arith)
          (λ e. absurd (omega (arith, e))) done.applies.tables;
    }

pub removed_plan : (key : Key) (old new : State) (count : ℕ) → IsBookIf old
    → ExecutesInside 0 texts.REMOVE_SESSION_PLAN.now (key_values key) old new (Ok count)
    → HasRemovedPlan key old new
removed_plan key old new count books h =
    let book = books h.1.was_open in
    let params = key_values key in
    let done = deletes 6 session_plan.name session_plan.tree session_plan.columns (1 ∷ 2 ∷ []) refl
    (λ db. refl) (λ taken news. refl) texts.REMOVE_SESSION_PLAN.now session_filter ids_shown params
    old new count t.remove_session_plan_is t.remove_session_plan_plain book.schema h.0 in
    let accounts = done.applies.tables.1.1.0 (λ e. absurd (omega (arith, e))) in
    let vouchers = done.applies.tables.1.1.1.0 (λ e. absurd (omega (arith, e))) in
    let sessions = done.applies.tables.1.1.1.1.0 (λ e. absurd (omega (arith, e))) in
    let tidy = delete_tidy book_schema Enforced session_plan session_filter ids_shown Null
    old.now.trees new.now.trees params done.answer done.selects (λ r. refl) book.plans
    done.applies in
    let left = delete_left book_schema Enforced session_plan session_filter ids_shown Null
    old.now.trees new.now.trees params done.answer done.selects (λ r. refl) book.plans
    done.applies in
    record {
      shows = h.1;
      book = after_plan old.now new.now book done.schema done.sound tidy accounts vouchers sessions;
      content = bare_same old.now.trees new.now.trees accounts vouchers sessions;
      plans = λ i other. read_left key (old.now.trees session_plan.tree)
          (new.now.trees session_plan.tree) (one_session_plan old.now book) left
          (λ r. bytes (column r 3)) other i;
      same_plans = same_plans 14 old.now.trees new.now.trees (omega arith)
          (λ e. absurd (omega (arith, e))) done.applies.tables;
    }

-- ---- one after another

-- the session's row, and then its plan
pub removed_one : (key : Key) (old mid new : State)
    → HasMadeBare (λ c. without_rows c (key ∷ [])) old mid → HasRemovedPlan key mid new
    → HasRemoved (key ∷ []) old new
removed_one key old mid new first second = record {
  shows = record {
    was_open = first.shows.was_open;
    is_open = second.shows.is_open;
    now_is = refl;
    committed_is = second.shows.committed_is ∙ first.shows.committed_is;
    mode = second.shows.mode;
  };
  book = second.book;
  content = second.content ∙ first.content;
  plans = second.plans ∙ ap (λ plans. without_keys plans (key ∷ [])) first.plans;
  same_plans = same_plans_then old.now.trees mid.now.trees new.now.trees first.same_plans
      second.same_plans;
}

-- before the first of them
pub removed_none : (s : State) → IsTrue s.is_open → IsTrue s.in_transaction → IsBook s.now
    → HasRemoved [] s s
removed_none s is_open on book = record {
  shows = record {
    was_open = is_open;
    is_open = is_open;
    now_is = refl;
    committed_is = refl;
    mode = on;
  };
  book = book;
  content = refl;
  plans = refl;
  same_plans = record { number = refl; prices = refl; counts = refl };
}

without_more : {X : Type 0} (at : Key → Option X) (keys : List Key) (key : Key)
    → without_keys at (keys ++ key ∷ []) ≡ without_keys (without_keys at keys) (key ∷ [])
without_more at [] key = refl
without_more at (gone ∷ keys) key = without_more (update same_key at gone None) keys key

rows_without_more : (content : Content) (keys : List Key) (key : Key)
    → without_rows content (keys ++ key ∷ []) ≡ without_rows (without_rows content keys) (key ∷ [])
rows_without_more content keys key = λ i. record {
  rows = without_more content.rows keys key i;
  balances = content.balances;
  topups = content.topups;
  plans = content.plans;
}

-- one more
pub removed_more : (keys : List Key) (key : Key) (old mid new : State) → HasRemoved keys old mid
    → HasRemoved (key ∷ []) mid new → HasRemoved (keys ++ key ∷ []) old new
removed_more keys key old mid new first second = record {
  shows = record {
    was_open = first.shows.was_open;
    is_open = second.shows.is_open;
    now_is = refl;
    committed_is = second.shows.committed_is ∙ first.shows.committed_is;
    mode = second.shows.mode;
  };
  book = second.book;
  content = second.content ∙ (ap (λ c. without_rows c (key ∷ [])) first.content
      ∙ sym (rows_without_more (content_without_plans old.now.trees) keys key));
  plans = second.plans ∙ (ap (λ plans. without_keys plans (key ∷ [])) first.plans
      ∙ sym (without_more (plans_in_tables old.now.trees) keys key));
  same_plans = same_plans_then old.now.trees mid.now.trees new.now.trees first.same_plans
      second.same_plans;
}

-- ---- the content

planned_if : (plan : Option (List ℕ)) (row : Option RowFacts) (b : Bool)
    → option_map (with_plan (cond b None plan)) (cond b None row)
    ≡ cond b None (option_map (with_plan plan) row)
planned_if plan row true = refl
planned_if plan row false = refl

-- a session that was removed with its plan has no row
planned_left : (plans : Key → Option (List ℕ)) (rows : Key → Option RowFacts) (keys : List Key)
    (key : Key) → option_map (with_plan (without_keys plans keys key)) (without_keys rows keys key)
    ≡ without_keys (λ k. option_map (with_plan (plans k)) (rows k)) keys key
planned_left plans rows [] key = refl
planned_left plans rows (gone ∷ keys) key =
    planned_left (update same_key plans gone None) (update same_key rows gone None) keys key
    ∙ ap (λ at. without_keys at keys key)
    (λ i k. planned_if (plans k) (rows k) (same_key gone k) i)

with_plans_left : (plans : Key → Option (List ℕ)) (c : Content) (keys : List Key)
    → with_plans (without_keys plans keys) (without_rows c keys)
    ≡ without_rows (with_plans plans c) keys
with_plans_left plans c keys = λ i. record {
  rows = λ key. planned_left plans c.rows keys key i;
  balances = c.balances;
  topups = c.topups;
  plans = c.plans;
}

removed_made : (keys : List Key) (old new : State) → HasRemoved keys old new
    → HasMade (λ c. without_rows c keys) old new
removed_made keys old new removed = record {
  shows = removed.shows;
  book = removed.book;
  content = with_all old.now.trees new.now.trees removed.same_plans removed.plans removed.content
      ∙ ap (with_list (listed_in_tables old.now.trees)) (with_plans_left
      (plans_in_tables old.now.trees) (content_without_plans old.now.trees) keys);
  same_plans = removed.same_plans;
}

-- ---- sessions that are carried forward

rows_without_is : (rows : Key → Option RowFacts) (keys : List Key)
    → without_keys rows keys ≡ rows_without rows keys
rows_without_is rows [] = refl
rows_without_is rows (key ∷ keys) = rows_without_is (update same_key rows key None) keys

forward_is : (content : Content) (gone : List Key) (row : RowFacts)
    → with_row (without_rows content gone) row ≡ with_forward content gone row
forward_is content gone row = λ i. record {
  rows = update same_key (rows_without_is content.rows gone i) (key_of row) (Some row);
  balances = content.balances;
  topups = content.topups;
  plans = content.plans;
}

-- their rows and plans are removed, and then a row is set
pub made_forward : (gone : List Key) (row : RowFacts) (old mid new : State)
    → HasRemoved gone old mid → HasMade (λ c. with_row c row) mid new
    → HasMade (λ c. with_forward c gone row) old new
made_forward gone row old mid new removed set =
    let made = made_then old mid new (λ c. without_rows c gone) (λ c. with_row c row)
    (removed_made gone old mid removed) set in
    record {
      shows = made.shows;
      book = made.book;
      content = made.content ∙ forward_is (content_in_tables old.now.trees) gone row;
      same_plans = made.same_plans;
    }
