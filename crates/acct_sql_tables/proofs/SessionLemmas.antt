-- The statements that write `session`, as what they make of the content.
use Rattle.std.proofs.Common.{◌≡◌, ◌≢◌, ℕ, pos, List, [], ◌∷◌, drop, Bool, true, false, cond, Some}
use Rattle.std.proofs.Common.{Option, find, option_map, refl, sym, ap, subst, ◌∙◌, true≢false}
use Rattle.std.proofs.lemmas.Bool.{and_parts}
use Rattle.std.specs.Map.{update}
use Rattle.sqlite.specs.declared.types.Value.TheVariants.{Null, Int, Text, Blob}
use Rattle.sqlite.specs.Order.{Row, column}
use Rattle.sqlite.specs.Term.{Term, eval_all}
use Rattle.sqlite.specs.Edit.{next_rowid}
use Rattle.sqlite.specs.Kind.TheVariants as kind
use Rattle.sqlite.specs.Cast.{cast, cast_row}
use Rattle.sqlite.specs.State.{State}
use Rattle.sqlite_schema.specs.declared.schema.Keys.TheVariants.{Enforced}
use Rattle.sqlite_rules.specs.Lists.{Has}
use Rattle.acct_book.specs.declared.key.Key.{Key}
use Rattle.acct_book.specs.declared.row.SessionState.{SessionState}
use Rattle.acct_book.specs.declared.row.SessionState.TheVariants.{Live, Closed, Stopped}
use Rattle.acct_book.specs.Row.{RowFacts}
use Rattle.acct_book.specs.Content.{same_key, key_of}
use Rattle.acct_book.proofs.Keys.{key_is, key_refl}
use Rattle.acct_sql_tables.specs.Tables.{book_schema, session}
use Rattle.acct_sql_tables.specs.Columns.{session_columns, session_in_columns, columns, state_in}
use Rattle.acct_sql_tables.specs.Columns.{code_of}
use Rattle.acct_sql_tables.specs.Columns.{cause_in, framed_in, framed_octets}
use Rattle.acct_sql_tables.specs.Content.{is_session}
use Rattle.acct_sql_tables.specs.Content.{without_plan}
use Rattle.acct_sql_tables.specs.Book.{IsBook}
use Rattle.acct_sql_tables.proofs.TextLemmas.{session_filter, session_project}
use Rattle.acct_sql_tables.proofs.QueryLemmas.{meets, shown_has, has_shown}
use Rattle.acct_sql_tables.proofs.StatementLemmas.{HasUpdated, HasInserted}
use Rattle.acct_sql_tables.proofs.WriteLemmas.{update_mapped, inserted, insert_added}
use Rattle.acct_sql_tables.proofs.FindLemmas.{not_true, found_is, find_has, find_mapped, find_added}
use Rattle.acct_sql_tables.proofs.FindLemmas.{unchanged, none_shown, some_shown, IsMapped, IsAdded}
use Rattle.acct_sql_tables.proofs.ValueLemmas.{equal_text, text_equal, equal_blob, blob_equal}
use Rattle.acct_sql_tables.proofs.ValueLemmas.{text_is}
use Rattle.acct_sql_tables.proofs.ValueLemmas.{is_its_text, blob_is, is_its_blob, cast_int}
use Rattle.acct_sql_tables.proofs.ValueLemmas.{cast_null}
use Rattle.acct_sql_tables.proofs.KeyLemmas.{one_session}

abbrev pub IsUpdatedBy : List Term → List Term → Row → State → State → ℕ → Type 0
IsUpdatedBy filter project params old new count = HasUpdated 4 session.name session.tree
    session.columns (1 ∷ 2 ∷ []) refl (λ db. refl) (λ taken news. refl) filter project params old
    new count

abbrev pub IsUpdated : Row → State → State → ℕ → Type 0
IsUpdated params old new count = IsUpdatedBy session_filter session_project params old new count

abbrev pub IsInserted : Row → State → State → Type 0
IsInserted source old new = HasInserted 4 session.name session.tree session.columns
    (1 ∷ 2 ∷ []) refl (λ db. refl) (λ taken news. refl) source old new

state_back : (state : SessionState) → state_in (Int (pos (code_of state))) ≡ state
state_back Live = refl
state_back Closed = refl
state_back Stopped = refl

cause_back : (state : SessionState) (cause : ℕ) → cause_in (Int (pos (code_of state)))
    (Int (pos cause)) ≡ cause
cause_back Live cause = refl
cause_back Closed cause = refl
cause_back Stopped cause = refl

-- the columns of a row read back as it
pub read_back : (row : RowFacts) (id : _) → framed_in (framed_octets row.framed) ≡ row.framed
    → session_in_columns (columns (id ∷ session_columns row)) ≡ without_plan row
read_back row id framed = rw (state_back row.state, cause_back row.state row.cause, framed) refl

-- the row that has a key is found by it alone
pub key_here : (key : Key) (r : Row) → is_session key r ≡ true → (column r 1 ≡ Text key.client)
    × (column r 2 ≡ Blob key.session)
key_here key r h = let parts = and_parts _ _ h in (
  text_is key.client (column r 1) parts.0,
  blob_is key.session (column r 2) parts.1,
)

pub here_key : (key : Key) (r : Row) → column r 1 ≡ Text key.client → column r 2 ≡ Blob key.session
    → is_session key r ≡ true
here_key key r a b = rw (a, b, is_its_text key.client, is_its_blob key.session) refl

same_text : (s t : List ℕ) → Text s ≡ Text t → s ≡ t
same_text s t e = cc

same_blob : (s t : List ℕ) → Blob s ≡ Blob t → s ≡ t
same_blob s t e = cc

-- two keys of one row are one
pub one_key : (a b : Key) (r : Row) → is_session a r ≡ true → is_session b r ≡ true → a ≡ b
one_key a b r h k =
    let x = key_here a r h in
    let y = key_here b r k in
    let client : a.client ≡ b.client = same_text a.client b.client (sym x.0 ∙ y.0) in
    let id : a.session ≡ b.session = same_blob a.session b.session (sym x.1 ∙ y.1) in
    λ i. record { client = client i; session = id i }

abbrev pub rows_in : List Row → Key → Option RowFacts
rows_in rows key = option_map (λ r. session_in_columns (columns r)) (find (is_session key) rows)

module _ (row : RowFacts) (old new : State) (count : ℕ) (book : IsBook old.now)
    (framed : framed_in (framed_octets row.framed) ≡ row.framed)
    (done : IsUpdated (session_columns row) old new count) where
  abbrev params : Row
  params = session_columns row

  abbrev met : Row → Bool
  met = meets session.tree session_filter session_project [] Null old.now.trees params

  abbrev made : Row → Row
  made r = cast_row session (drop 1 (eval_all session_project (params ∷ r ∷ [])))

  abbrev step : Row → Row
  step r = cond (met r) (made r) r

  mapped : IsMapped step (old.now.trees session.tree) (new.now.trees session.tree)
  mapped = update_mapped book_schema Enforced session session_filter session_project Null
      old.now.trees new.now.trees params done.answer done.selects (λ r. refl) (λ r. refl)
      book.sessions done.applies

  met_key : (r : Row) → met r ≡ true → is_session (key_of row) r ≡ true
  met_key r h =
      let one = and_parts _ _ h in
      let two = and_parts _ _ one.1 in
      here_key (key_of row) r (equal_text (column r 1) row.client one.0)
      (equal_blob (column r 2) row.session two.0)

  key_met : (r : Row) → is_session (key_of row) r ≡ true → met r ≡ true
  key_met r h = let k = key_here (key_of row) r h in rw (
    k.0,
    k.1,
    text_equal row.client,
    blob_equal row.session,
  ) refl

  made_is : (r : Row) → is_session (key_of row) r ≡ true → made r
      ≡ cast kind.Integer (column r 0) ∷ session_columns row
  made_is r h =
      let k = key_here (key_of row) r h in
      rw (
        k.0,
        k.1,
        cast_int (pos row.input),
        cast_int (pos row.output),
        cast_int (pos row.seconds),
        cast_int (pos row.first),
        cast_int (pos row.last),
        cast_int (pos (code_of row.state)),
        cast_int (pos row.cause),
      ) refl

  keeps : (key : Key) (r : Row) → is_session key (step r) ≡ is_session key r
  keeps key r = go (met r) refl
    where
      go : (b : Bool) → met r ≡ b → is_session key (cond b (made r) r) ≡ is_session key r
      go true is =
          let mine = met_key r is in
          let k = key_here (key_of row) r mine in
          ap (is_session key) (made_is r mine) ∙ rw (k.0, k.1) refl
      go false is = refl

  found : (key : Key) → find (is_session key) (new.now.trees session.tree)
      ≡ option_map step (find (is_session key) (old.now.trees session.tree))
  found key = find_mapped (is_session key) step (old.now.trees session.tree)
      (new.now.trees session.tree) (one_session old.now book key) (λ r h. keeps key r) mapped

  -- other sessions stay
  pub set_other : (key : Key) → same_key (key_of row) key ≡ false
      → rows_in (new.now.trees session.tree) key ≡ rows_in (old.now.trees session.tree) key
  set_other key apart =
      ap (option_map (λ r. session_in_columns (columns r))) (found key
      ∙ unchanged step (find (is_session key) (old.now.trees session.tree)) (λ r is.
      let here = find_has (is_session key) (old.now.trees session.tree) r is in
      let unmet = not_true (met r) (λ h. true≢false (sym (key_refl key)
      ∙ (ap (λ k. same_key k key) (sym (one_key (key_of row) key r (met_key r h) here.1))
      ∙ apart))) in
      ap (λ b. cond b (made r) r) unmet))

  unmet : count ≡ 0 → (r : Row) → Has (old.now.trees session.tree) r → met r ≡ false
  unmet nothing r h = not_true (met r) (λ passes. none_shown done.answer count done.counted nothing
      _ (has_shown session.tree session_filter session_project [] Null old.now.trees params
      done.answer done.selects r h passes))

  -- no row was met, and nothing has changed
  pub set_none : count ≡ 0 → (key : Key) → rows_in (new.now.trees session.tree) key
      ≡ rows_in (old.now.trees session.tree) key
  set_none nothing key =
      ap (option_map (λ r. session_in_columns (columns r))) (found key
      ∙ unchanged step (find (is_session key) (old.now.trees session.tree)) (λ r is.
      ap (λ b. cond b (made r) r) (unmet nothing r (find_has (is_session key)
      (old.now.trees session.tree) r is).0)))

  -- no row has the key
  pub none_kept : count ≡ 0 → (r : Row) → Has (new.now.trees session.tree) r
      → is_session (key_of row) r ≡ false
  none_kept nothing r h = not_true _ (λ passes.
      let b = mapped.back r h in
      let was : is_session (key_of row) b.0 ≡ true = sym (keeps (key_of row) b.0)
      ∙ (ap (is_session (key_of row)) (sym b.2) ∙ passes) in
      true≢false (sym (key_met b.0 was) ∙ unmet nothing b.0 b.1))

  -- a row was met, so it is the new one
  pub set_row : count ≢ 0 → (key : Key) → rows_in (new.now.trees session.tree) key
      ≡ update same_key (rows_in (old.now.trees session.tree)) (key_of row) (Some
      (without_plan row)) key
  set_row some key = go (same_key (key_of row) key) refl
      (some_shown done.answer count done.counted some)
    where
      go : (b : Bool) → same_key (key_of row) key ≡ b → (r : Row) × Has done.answer r
          → rows_in (new.now.trees session.tree) key ≡ cond b (Some (without_plan row)) (rows_in
          (old.now.trees session.tree) key)
      go true is shown =
          let r = shown_has session.tree session_filter session_project [] Null old.now.trees params
          done.answer done.selects shown.0 shown.1 in
          let mine = met_key r.0 r.2 in
          let at = found_is (is_session (key_of row)) (old.now.trees session.tree) r.0 r.1 mine
          (λ s h passes. one_session old.now book (key_of row) s r.0 h r.1 passes mine) in
          let made_here : step r.0 ≡ cast kind.Integer (column r.0 0) ∷ session_columns row = ap
          (λ b. cond b (made r.0) r.0) r.2 ∙ made_is r.0 mine in
          let here : rows_in (new.now.trees session.tree) (key_of row) ≡ Some (without_plan row) =
          ap (option_map (λ r. session_in_columns (columns r)))
          (found (key_of row) ∙ (ap (option_map step) at ∙ ap Some made_here))
          ∙ ap Some (read_back row (cast kind.Integer (column r.0 0)) framed) in
          subst (λ k. rows_in (new.now.trees session.tree) k ≡ Some (without_plan row)) (key_is
          (key_of row) key is) here
      go false is shown = set_other key is

module _ (row : RowFacts) (old new : State) (book : IsBook old.now)
    (framed : framed_in (framed_octets row.framed) ≡ row.framed)
    (done : IsInserted (Null ∷ session_columns row) old new)
    (fresh : (r : Row) → Has (old.now.trees session.tree) r → is_session (key_of row) r
    ≡ false) where
  abbrev put : Row
  put = inserted book_schema Enforced session old.now.trees new.now.trees
      (Null ∷ session_columns row) refl done.applies

  pub put_is : put ≡ Int (next_rowid (old.now.trees session.tree)) ∷ session_columns row
  put_is = rw (
    cast_null,
    cast_int (pos row.input),
    cast_int (pos row.output),
    cast_int (pos row.seconds),
    cast_int (pos row.first),
    cast_int (pos row.last),
    cast_int (pos (code_of row.state)),
    cast_int (pos row.cause),
  ) refl

  added : IsAdded put (old.now.trees session.tree) (new.now.trees session.tree)
  added = insert_added book_schema Enforced session old.now.trees new.now.trees
      (Null ∷ session_columns row) refl done.applies

  put_key : (key : Key) → is_session key put ≡ same_key (key_of row) key
  put_key key = ap (is_session key) put_is

  found_now : (key : Key) → find (is_session key) (new.now.trees session.tree)
      ≡ cond (is_session key put) (Some put) (find (is_session key) (old.now.trees session.tree))
  found_now key = find_added (is_session key) put (old.now.trees session.tree)
      (new.now.trees session.tree) (one_session old.now book key)
      (λ is r h. subst (λ k. is_session k r ≡ false) (key_is (key_of row) key
      (sym (put_key key) ∙ is)) (fresh r h)) added

  shown_if : (b : Bool) (x : Row) (o : Option Row) → session_in_columns (columns x)
      ≡ without_plan row
      → option_map (λ r. session_in_columns (columns r)) (cond b (Some x) o)
      ≡ cond b (Some (without_plan row)) (option_map (λ r. session_in_columns (columns r)) o)
  shown_if true x o is = ap Some is
  shown_if false x o is = refl

  pub new_row : (key : Key) → rows_in (new.now.trees session.tree) key
      ≡ update same_key (rows_in (old.now.trees session.tree)) (key_of row) (Some
      (without_plan row)) key
  new_row key =
      ap (option_map (λ r. session_in_columns (columns r))) (found_now key)
      ∙ (shown_if (is_session key put) put (find (is_session key) (old.now.trees session.tree))
      (ap (λ r. session_in_columns (columns r)) put_is ∙ read_back row
      (Int (next_rowid (old.now.trees session.tree))) framed)
      ∙ ap (λ b. cond b (Some (without_plan row)) (rows_in (old.now.trees session.tree) key))
      (put_key key))
