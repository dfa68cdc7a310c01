-- The statements that write `account`, as what they make of the content.
use Rattle.std.proofs.Common.{◌≡◌, ◌≢◌, ℕ, ℤ, List, [], ◌∷◌, drop, Bool, true, false, cond, Some}
use Rattle.std.proofs.Common.{Option, find, option_map, refl, sym, ap, subst, ◌∙◌, true≢false}
use Rattle.std.proofs.Common.{bytes_eq}
use Rattle.std.proofs.lemmas.Bool.{and_parts}
use Rattle.std.specs.Map.{update}
use Rattle.sqlite.specs.declared.types.Value.TheVariants.{Null, Int, Blob}
use Rattle.sqlite.specs.Order.{Row, column}
use Rattle.sqlite.specs.Term.{eval_all}
use Rattle.sqlite.specs.Edit.{next_rowid}
use Rattle.sqlite.specs.Cast.{cast_row}
use Rattle.sqlite.specs.State.{State}
use Rattle.sqlite_schema.specs.declared.schema.Keys.TheVariants.{Enforced}
use Rattle.sqlite_rules.specs.Lists.{Has}
use Rattle.acct_book.proofs.Keys.{octets_are, octets_refl}
use Rattle.acct_sql_tables.specs.Tables.{book_schema, account}
use Rattle.acct_sql_tables.specs.Columns.{int_in, is_blob}
use Rattle.acct_sql_tables.specs.Content.{is_account}
use Rattle.acct_sql_tables.specs.Book.{IsBook}
use Rattle.acct_sql_tables.proofs.TextLemmas.{name_filter, balance_project}
use Rattle.acct_sql_tables.proofs.QueryLemmas.{meets, shown_has, has_shown}
use Rattle.acct_sql_tables.proofs.StatementLemmas.{HasUpdated, HasInserted}
use Rattle.acct_sql_tables.proofs.WriteLemmas.{update_mapped, inserted, insert_added}
use Rattle.acct_sql_tables.proofs.FindLemmas.{not_true, found_is, find_has, find_mapped, find_added}
use Rattle.acct_sql_tables.proofs.FindLemmas.{unchanged, none_shown, some_shown, IsMapped, IsAdded}
use Rattle.acct_sql_tables.proofs.ValueLemmas.{equal_blob, blob_equal, blob_is, is_its_blob}
use Rattle.acct_sql_tables.proofs.ValueLemmas.{cast_int}
use Rattle.acct_sql_tables.proofs.ValueLemmas.{cast_null}
use Rattle.acct_sql_tables.proofs.KeyLemmas.{one_account}

abbrev pub IsUpdated : Row → State → State → ℕ → Type 0
IsUpdated params old new count = HasUpdated 2 account.name account.tree account.columns
    (1 ∷ []) refl (λ db. refl) (λ taken news. refl) name_filter balance_project params old new count

abbrev pub IsInserted : Row → State → State → Type 0
IsInserted source old new = HasInserted 2 account.name account.tree account.columns (1 ∷ []) refl
    (λ db. refl) (λ taken news. refl) source old new

same_blob : (s t : List ℕ) → Blob s ≡ Blob t → s ≡ t
same_blob s t e = cc

one_key : (a b : List ℕ) (r : Row) → is_account a r ≡ true → is_account b r ≡ true → a ≡ b
one_key a b r h k = same_blob a b (sym (blob_is a (column r 1) h) ∙ blob_is b (column r 1) k)

abbrev pub balances_in : List Row → List ℕ → Option ℤ
balances_in rows name = option_map (λ r. int_in (column r 2)) (find (is_account name) rows)

module _ (name : List ℕ) (n : ℤ) (old new : State) (count : ℕ) (book : IsBook old.now)
    (done : IsUpdated (Blob name ∷ Int n ∷ []) old new count) where
  abbrev params : Row
  params = Blob name ∷ Int n ∷ []

  abbrev met : Row → Bool
  met = meets account.tree name_filter balance_project [] Null old.now.trees params

  abbrev made : Row → Row
  made r = cast_row account (drop 1 (eval_all balance_project (params ∷ r ∷ [])))

  abbrev step : Row → Row
  step r = cond (met r) (made r) r

  mapped : IsMapped step (old.now.trees account.tree) (new.now.trees account.tree)
  mapped = update_mapped book_schema Enforced account name_filter balance_project Null old.now.trees
      new.now.trees params done.answer done.selects (λ r. refl) (λ r. refl) book.accounts
      done.applies

  met_key : (r : Row) → met r ≡ true → is_account name r ≡ true
  met_key r h = ap (is_blob name) (equal_blob (column r 1) name (and_parts _ _ h).0)
      ∙ is_its_blob name

  key_met : (r : Row) → is_account name r ≡ true → met r ≡ true
  key_met r h = rw (blob_is name (column r 1) h, blob_equal name) refl

  keeps : (key : List ℕ) (r : Row) → is_account key (step r) ≡ is_account key r
  keeps key r = go (met r)
    where
      go : (b : Bool) → is_account key (cond b (made r) r) ≡ is_account key r
      go true = refl
      go false = refl

  found : (key : List ℕ) → find (is_account key) (new.now.trees account.tree)
      ≡ option_map step (find (is_account key) (old.now.trees account.tree))
  found key = find_mapped (is_account key) step (old.now.trees account.tree)
      (new.now.trees account.tree) (one_account old.now book key) (λ r h. keeps key r) mapped

  set_other : (key : List ℕ) → bytes_eq name key ≡ false → balances_in (new.now.trees account.tree)
      key ≡ balances_in (old.now.trees account.tree) key
  set_other key apart =
      ap (option_map (λ r. int_in (column r 2))) (found key
      ∙ unchanged step (find (is_account key) (old.now.trees account.tree)) (λ r is.
      let here = find_has (is_account key) (old.now.trees account.tree) r is in
      let unmet = not_true (met r) (λ h. true≢false (sym (octets_refl key)
      ∙ (ap (λ k. bytes_eq k key) (sym (one_key name key r (met_key r h) here.1)) ∙ apart)))
      in
      ap (λ b. cond b (made r) r) unmet))

  unmet : count ≡ 0 → (r : Row) → Has (old.now.trees account.tree) r → met r ≡ false
  unmet nothing r h = not_true (met r) (λ passes. none_shown done.answer count done.counted nothing
      _ (has_shown account.tree name_filter balance_project [] Null old.now.trees params done.answer
      done.selects r h passes))

  -- no row was met, and nothing has changed
  pub set_none : count ≡ 0 → (key : List ℕ) → balances_in (new.now.trees account.tree) key
      ≡ balances_in (old.now.trees account.tree) key
  set_none nothing key =
      ap (option_map (λ r. int_in (column r 2))) (found key
      ∙ unchanged step (find (is_account key) (old.now.trees account.tree)) (λ r is.
      ap (λ b. cond b (made r) r) (unmet nothing r (find_has (is_account key)
      (old.now.trees account.tree) r is).0)))

  -- no row has the name
  pub none_kept : count ≡ 0 → (r : Row) → Has (new.now.trees account.tree) r → is_account name r
      ≡ false
  none_kept nothing r h = not_true _ (λ passes.
      let b = mapped.back r h in
      let was : is_account name b.0 ≡ true = sym (keeps name b.0)
      ∙ (ap (is_account name) (sym b.2) ∙ passes) in
      true≢false (sym (key_met b.0 was) ∙ unmet nothing b.0 b.1))

  -- a row was met, so it has the new balance
  pub set_balance : count ≢ 0 → (key : List ℕ) → balances_in (new.now.trees account.tree) key
      ≡ update bytes_eq (balances_in (old.now.trees account.tree)) name (Some n) key
  set_balance some key = go (bytes_eq name key) refl (some_shown done.answer count done.counted
      some)
    where
      go : (b : Bool) → bytes_eq name key ≡ b → (r : Row) × Has done.answer r
          → balances_in (new.now.trees account.tree) key ≡ cond b (Some n) (balances_in
          (old.now.trees account.tree) key)
      go true is shown =
          let r = shown_has account.tree name_filter balance_project [] Null old.now.trees params
          done.answer done.selects shown.0 shown.1 in
          let mine = met_key r.0 r.2 in
          let at = found_is (is_account name) (old.now.trees account.tree) r.0 r.1 mine
          (λ s h passes. one_account old.now book name s r.0 h r.1 passes mine) in
          let value : int_in (column (step r.0) 2) ≡ n = ap
          (λ b. int_in (column (cond b (made r.0) r.0) 2)) r.2 ∙ ap int_in (cast_int n) in
          let here : balances_in (new.now.trees account.tree) name ≡ Some n = ap
          (option_map (λ r. int_in (column r 2))) (found name ∙ ap (option_map step) at)
          ∙ ap Some value in
          subst (λ k. balances_in (new.now.trees account.tree) k ≡ Some n) (octets_are name key is)
          here
      go false is shown = set_other key is

module _ (name : List ℕ) (n : ℤ) (old new : State) (book : IsBook old.now)
    (done : IsInserted (Null ∷ Blob name ∷ Int n ∷ []) old new)
    (fresh : (r : Row) → Has (old.now.trees account.tree) r → is_account name r ≡ false) where
  abbrev put : Row
  put = inserted book_schema Enforced account old.now.trees new.now.trees
      (Null ∷ Blob name ∷ Int n ∷ []) refl done.applies

  pub put_is : put ≡ Int (next_rowid (old.now.trees account.tree)) ∷ Blob name ∷ Int n ∷ []
  put_is = rw (cast_null, cast_int n) refl

  added : IsAdded put (old.now.trees account.tree) (new.now.trees account.tree)
  added = insert_added book_schema Enforced account old.now.trees new.now.trees
      (Null ∷ Blob name ∷ Int n ∷ []) refl done.applies

  put_key : (key : List ℕ) → is_account key put ≡ bytes_eq name key
  put_key key = ap (is_account key) put_is

  found_now : (key : List ℕ) → find (is_account key) (new.now.trees account.tree)
      ≡ cond (is_account key put) (Some put) (find (is_account key) (old.now.trees account.tree))
  found_now key = find_added (is_account key) put (old.now.trees account.tree)
      (new.now.trees account.tree) (one_account old.now book key)
      (λ is r h. subst (λ k. is_account k r ≡ false) (octets_are name key (sym (put_key key) ∙ is))
      (fresh r h)) added

  shown_if : (b : Bool) (x : Row) (o : Option Row) → int_in (column x 2) ≡ n
      → option_map (λ r. int_in (column r 2)) (cond b (Some x) o)
      ≡ cond b (Some n) (option_map (λ r. int_in (column r 2)) o)
  shown_if true x o is = ap Some is
  shown_if false x o is = refl

  pub new_balance : (key : List ℕ) → balances_in (new.now.trees account.tree) key
      ≡ update bytes_eq (balances_in (old.now.trees account.tree)) name (Some n) key
  new_balance key =
      ap (option_map (λ r. int_in (column r 2))) (found_now key)
      ∙ (shown_if (is_account key put) put (find (is_account key) (old.now.trees account.tree))
      (ap (λ r. int_in (column r 2)) put_is)
      ∙ ap (λ b. cond b (Some n) (balances_in (old.now.trees account.tree) key)) (put_key key))
