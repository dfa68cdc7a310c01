-- The statements that write `session_plan`, as what they make of the plans of the sessions.
use Rattle.std.proofs.Common.{◌≡◌, ◌≢◌, ℕ, List, [], ◌∷◌, drop, Bool, true, false, cond, Some}
use Rattle.std.proofs.Common.{Option, find, option_map, refl, sym, ap, subst, ◌∙◌, true≢false}
use Rattle.std.proofs.lemmas.Bool.{and_parts}
use Rattle.std.specs.Map.{update}
use Rattle.sqlite.specs.declared.types.Value.TheVariants.{Null, Int}
use Rattle.sqlite.specs.Order.{Row, column}
use Rattle.sqlite.specs.Term.{eval_all}
use Rattle.sqlite.specs.Edit.{next_rowid}
use Rattle.sqlite.specs.Kind.TheVariants as kind
use Rattle.sqlite.specs.Cast.{cast, cast_row}
use Rattle.sqlite.specs.State.{State}
use Rattle.sqlite_value.specs.Order.{bytes}
use Rattle.sqlite_schema.specs.declared.schema.Keys.TheVariants.{Enforced}
use Rattle.sqlite_rules.specs.Lists.{Has}
use Rattle.acct_book.specs.declared.key.Key.{Key}
use Rattle.acct_book.specs.Row.{RowFacts}
use Rattle.acct_book.specs.Content.{same_key, key_of}
use Rattle.acct_book.proofs.Keys.{key_is, key_refl}
use Rattle.acct_sql_tables.specs.Tables.{book_schema, session_plan}
use Rattle.acct_sql_tables.specs.Columns.{session_plan_columns}
use Rattle.acct_sql_tables.specs.Content.{is_session}
use Rattle.acct_sql_tables.specs.Book.{IsBook}
use Rattle.acct_sql_tables.proofs.TextLemmas.{session_filter, plan_project}
use Rattle.acct_sql_tables.proofs.QueryLemmas.{meets, shown_has, has_shown}
use Rattle.acct_sql_tables.proofs.StatementLemmas.{HasUpdated, HasInserted}
use Rattle.acct_sql_tables.proofs.WriteLemmas.{update_mapped, inserted, insert_added}
use Rattle.acct_sql_tables.proofs.FindLemmas.{not_true, found_is, find_has, find_mapped, find_added}
use Rattle.acct_sql_tables.proofs.FindLemmas.{unchanged, none_shown, some_shown, IsMapped, IsAdded}
use Rattle.acct_sql_tables.proofs.ValueLemmas.{equal_text, text_equal, equal_blob, blob_equal}
use Rattle.acct_sql_tables.proofs.ValueLemmas.{cast_null}
use Rattle.acct_sql_tables.proofs.KeyLemmas.{one_session_plan}
use Rattle.acct_sql_tables.proofs.SessionLemmas.{key_here, here_key, one_key}

abbrev pub IsUpdated : Row → State → State → ℕ → Type 0
IsUpdated params old new count = HasUpdated 6 session_plan.name session_plan.tree
    session_plan.columns (1 ∷ 2 ∷ []) refl (λ db. refl) (λ taken news. refl) session_filter
    plan_project params old new count

abbrev pub IsInserted : Row → State → State → Type 0
IsInserted source old new = HasInserted 6 session_plan.name session_plan.tree session_plan.columns
    (1 ∷ 2 ∷ []) refl (λ db. refl) (λ taken news. refl) source old new

abbrev pub plans_in : List Row → Key → Option (List ℕ)
plans_in rows key = option_map (λ r. bytes (column r 3)) (find (is_session key) rows)

module _ (row : RowFacts) (old new : State) (count : ℕ) (book : IsBook old.now)
    (done : IsUpdated (session_plan_columns row) old new count) where
  abbrev params : Row
  params = session_plan_columns row

  abbrev met : Row → Bool
  met = meets session_plan.tree session_filter plan_project [] Null old.now.trees params

  abbrev made : Row → Row
  made r = cast_row session_plan (drop 1 (eval_all plan_project (params ∷ r ∷ [])))

  abbrev step : Row → Row
  step r = cond (met r) (made r) r

  mapped : IsMapped step (old.now.trees session_plan.tree) (new.now.trees session_plan.tree)
  mapped = update_mapped book_schema Enforced session_plan session_filter plan_project Null
      old.now.trees new.now.trees params done.answer done.selects (λ r. refl) (λ r. refl)
      book.plans done.applies

  met_key : (r : Row) → met r ≡ true → is_session (key_of row) r ≡ true
  met_key r h =
      let one = and_parts _ _ h in
      let two = and_parts _ _ one.1 in
      here_key (key_of row) r (equal_text (column r 1) row.client one.0)
      (equal_blob (column r 2) row.session two.0)

  key_met : (r : Row) → is_session (key_of row) r ≡ true → met r ≡ true
  key_met r h = let k = key_here (key_of row) r h in rw (
    k.0,
    k.1,
    text_equal row.client,
    blob_equal row.session,
  ) refl

  made_is : (r : Row) → is_session (key_of row) r ≡ true → made r
      ≡ cast kind.Integer (column r 0) ∷ session_plan_columns row
  made_is r h =
      let k = key_here (key_of row) r h in
      rw (k.0, k.1) refl

  keeps : (key : Key) (r : Row) → is_session key (step r) ≡ is_session key r
  keeps key r = go (met r) refl
    where
      go : (b : Bool) → met r ≡ b → is_session key (cond b (made r) r) ≡ is_session key r
      go true is =
          let mine = met_key r is in
          let k = key_here (key_of row) r mine in
          ap (is_session key) (made_is r mine) ∙ rw (k.0, k.1) refl
      go false is = refl

  found : (key : Key) → find (is_session key) (new.now.trees session_plan.tree)
      ≡ option_map step (find (is_session key) (old.now.trees session_plan.tree))
  found key = find_mapped (is_session key) step (old.now.trees session_plan.tree)
      (new.now.trees session_plan.tree) (one_session_plan old.now book key)
      (λ r h. keeps key r) mapped

  -- other sessions stay
  pub set_other : (key : Key) → same_key (key_of row) key ≡ false
      → plans_in (new.now.trees session_plan.tree) key ≡ plans_in
      (old.now.trees session_plan.tree) key
  set_other key apart =
      ap (option_map (λ r. bytes (column r 3))) (found key
      ∙ unchanged step (find (is_session key) (old.now.trees session_plan.tree)) (λ r is.
      let here = find_has (is_session key) (old.now.trees session_plan.tree) r is in
      let unmet = not_true (met r) (λ h. true≢false (sym (key_refl key)
      ∙ (ap (λ k. same_key k key) (sym (one_key (key_of row) key r (met_key r h) here.1))
      ∙ apart))) in
      ap (λ b. cond b (made r) r) unmet))

  unmet : count ≡ 0 → (r : Row) → Has (old.now.trees session_plan.tree) r → met r ≡ false
  unmet nothing r h = not_true (met r) (λ passes. none_shown done.answer count done.counted nothing
      _ (has_shown session_plan.tree session_filter plan_project [] Null old.now.trees params
      done.answer done.selects r h passes))

  -- a row that has the key is met
  pub kept_met : (r : Row) → Has (old.now.trees session_plan.tree) r
      → is_session (key_of row) r ≡ true → count ≢ 0
  kept_met r h mine nothing = true≢false (sym (key_met r mine) ∙ unmet nothing r h)

  -- a row was met, so it is the new one
  pub set_plan : count ≢ 0 → (key : Key) → plans_in (new.now.trees session_plan.tree) key
      ≡ update same_key (plans_in (old.now.trees session_plan.tree)) (key_of row)
      (Some row.plan) key
  set_plan some key = go (same_key (key_of row) key) refl
      (some_shown done.answer count done.counted some)
    where
      go : (b : Bool) → same_key (key_of row) key ≡ b → (r : Row) × Has done.answer r
          → plans_in (new.now.trees session_plan.tree) key ≡ cond b (Some row.plan) (plans_in
          (old.now.trees session_plan.tree) key)
      go true is shown =
          let r = shown_has session_plan.tree session_filter plan_project [] Null old.now.trees
          params
          done.answer done.selects shown.0 shown.1 in
          let mine = met_key r.0 r.2 in
          let at = found_is (is_session (key_of row)) (old.now.trees session_plan.tree) r.0 r.1 mine
          (λ s h passes. one_session_plan old.now book (key_of row) s r.0 h r.1 passes mine) in
          let made_here : step r.0 ≡ cast kind.Integer
          (column r.0 0) ∷ session_plan_columns row = ap
          (λ b. cond b (made r.0) r.0) r.2 ∙ made_is r.0 mine in
          let here : plans_in (new.now.trees session_plan.tree) (key_of row) ≡ Some row.plan =
          ap (option_map (λ r. bytes (column r 3)))
          (found (key_of row) ∙ (ap (option_map step) at ∙ ap Some made_here)) in
          subst (λ k. plans_in (new.now.trees session_plan.tree) k ≡ Some row.plan) (key_is
          (key_of row) key is) here
      go false is shown = set_other key is

module _ (row : RowFacts) (old new : State) (book : IsBook old.now)
    (done : IsInserted (Null ∷ session_plan_columns row) old new)
    (fresh : (r : Row) → Has (old.now.trees session_plan.tree) r → is_session (key_of row) r
    ≡ false) where
  abbrev put : Row
  put = inserted book_schema Enforced session_plan old.now.trees new.now.trees
      (Null ∷ session_plan_columns row) refl done.applies

  pub put_is : put ≡ Int (next_rowid (old.now.trees session_plan.tree)) ∷ session_plan_columns row
  put_is = rw cast_null refl

  added : IsAdded put (old.now.trees session_plan.tree) (new.now.trees session_plan.tree)
  added = insert_added book_schema Enforced session_plan old.now.trees new.now.trees
      (Null ∷ session_plan_columns row) refl done.applies

  put_key : (key : Key) → is_session key put ≡ same_key (key_of row) key
  put_key key = ap (is_session key) put_is

  found_now : (key : Key) → find (is_session key) (new.now.trees session_plan.tree)
      ≡ cond (is_session key put) (Some put) (find (is_session key)
      (old.now.trees session_plan.tree))
  found_now key = find_added (is_session key) put (old.now.trees session_plan.tree)
      (new.now.trees session_plan.tree) (one_session_plan old.now book key)
      (λ is r h. subst (λ k. is_session k r ≡ false) (key_is (key_of row) key
      (sym (put_key key) ∙ is)) (fresh r h)) added

  shown_if : (b : Bool) (x : Row) (o : Option Row) → bytes (column x 3) ≡ row.plan
      → option_map (λ r. bytes (column r 3)) (cond b (Some x) o)
      ≡ cond b (Some row.plan) (option_map (λ r. bytes (column r 3)) o)
  shown_if true x o is = ap Some is
  shown_if false x o is = refl

  pub new_plan : (key : Key) → plans_in (new.now.trees session_plan.tree) key
      ≡ update same_key (plans_in (old.now.trees session_plan.tree)) (key_of row)
      (Some row.plan) key
  new_plan key =
      ap (option_map (λ r. bytes (column r 3))) (found_now key)
      ∙ (shown_if (is_session key put) put (find (is_session key) (old.now.trees session_plan.tree))
      (ap (λ r. bytes (column r 3)) put_is)
      ∙ ap (λ b. cond b (Some row.plan) (plans_in (old.now.trees session_plan.tree) key))
      (put_key key))
