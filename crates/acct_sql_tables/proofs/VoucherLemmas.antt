-- The statements that write `voucher`, as what they make of the content.
use Rattle.std.proofs.Common.{◌≡◌, ◌≢◌, ℕ, pos, List, [], ◌∷◌, drop, Bool, true, false, cond, Some}
use Rattle.std.proofs.Common.{Option, find, option_map, refl, sym, ap, subst, ◌∙◌, true≢false}
use Rattle.std.proofs.Common.{bytes_eq}
use Rattle.std.proofs.lemmas.Bool.{and_parts}
use Rattle.std.specs.Map.{update}
use Rattle.sqlite.specs.declared.types.Value.TheVariants.{Null, Int, Text}
use Rattle.sqlite.specs.Order.{Row, column}
use Rattle.sqlite.specs.Term.{eval_all}
use Rattle.sqlite.specs.Edit.{next_rowid}
use Rattle.sqlite.specs.Kind.TheVariants as kind
use Rattle.sqlite.specs.Cast.{cast, cast_row}
use Rattle.sqlite.specs.State.{State}
use Rattle.sqlite_schema.specs.declared.schema.Keys.TheVariants.{Enforced}
use Rattle.sqlite_rules.specs.Lists.{Has}
use Rattle.acct_book.proofs.Keys.{octets_are, octets_refl}
use Rattle.acct_model.specs.Vouchers.{TopUpFacts}
use Rattle.acct_sql_tables.specs.Tables.{book_schema, voucher}
use Rattle.acct_sql_tables.specs.Columns.{topup_in_columns, topup_columns, columns, is_text}
use Rattle.acct_sql_tables.specs.Content.{is_voucher}
use Rattle.acct_sql_tables.specs.Book.{IsBook}
use Rattle.acct_sql_tables.proofs.TextLemmas.{name_filter, topup_project}
use Rattle.acct_sql_tables.proofs.QueryLemmas.{meets, shown_has, has_shown}
use Rattle.acct_sql_tables.proofs.StatementLemmas.{HasUpdated, HasInserted}
use Rattle.acct_sql_tables.proofs.WriteLemmas.{update_mapped, inserted, insert_added}
use Rattle.acct_sql_tables.proofs.FindLemmas.{not_true, found_is, find_has, find_mapped, find_added}
use Rattle.acct_sql_tables.proofs.FindLemmas.{unchanged, none_shown, some_shown, IsMapped, IsAdded}
use Rattle.acct_sql_tables.proofs.ValueLemmas.{equal_text, text_equal, text_is, is_its_text}
use Rattle.acct_sql_tables.proofs.ValueLemmas.{cast_int}
use Rattle.acct_sql_tables.proofs.ValueLemmas.{cast_null}
use Rattle.acct_sql_tables.proofs.KeyLemmas.{one_voucher}

abbrev pub IsUpdated : Row → State → State → ℕ → Type 0
IsUpdated params old new count = HasUpdated 3 voucher.name voucher.tree voucher.columns
    (1 ∷ []) refl (λ db. refl) (λ taken news. refl) name_filter topup_project params old new count

abbrev pub IsInserted : Row → State → State → Type 0
IsInserted source old new = HasInserted 3 voucher.name voucher.tree voucher.columns (1 ∷ []) refl
    (λ db. refl) (λ taken news. refl) source old new

same_text : (s t : List ℕ) → Text s ≡ Text t → s ≡ t
same_text s t e = cc

one_key : (a b : List ℕ) (r : Row) → is_voucher a r ≡ true → is_voucher b r ≡ true → a ≡ b
one_key a b r h k = same_text a b (sym (text_is a (column r 1) h) ∙ text_is b (column r 1) k)

abbrev pub topups_in : List Row → List ℕ → Option TopUpFacts
topups_in rows name = option_map (λ r. topup_in_columns (columns r)) (find (is_voucher name) rows)

module _ (topup : TopUpFacts) (old new : State) (count : ℕ) (book : IsBook old.now)
    (done : IsUpdated (topup_columns topup) old new count) where
  abbrev params : Row
  params = topup_columns topup

  abbrev met : Row → Bool
  met = meets voucher.tree name_filter topup_project [] Null old.now.trees params

  abbrev made : Row → Row
  made r = cast_row voucher (drop 1 (eval_all topup_project (params ∷ r ∷ [])))

  abbrev step : Row → Row
  step r = cond (met r) (made r) r

  mapped : IsMapped step (old.now.trees voucher.tree) (new.now.trees voucher.tree)
  mapped = update_mapped book_schema Enforced voucher name_filter topup_project Null old.now.trees
      new.now.trees params done.answer done.selects (λ r. refl) (λ r. refl) book.vouchers
      done.applies

  met_key : (r : Row) → met r ≡ true → is_voucher topup.voucher r ≡ true
  met_key r h = ap (is_text topup.voucher) (equal_text (column r 1) topup.voucher
      (and_parts _ _ h).0) ∙ is_its_text topup.voucher

  key_met : (r : Row) → is_voucher topup.voucher r ≡ true → met r ≡ true
  key_met r h = rw (text_is topup.voucher (column r 1) h, text_equal topup.voucher) refl

  keeps : (key : List ℕ) (r : Row) → is_voucher key (step r) ≡ is_voucher key r
  keeps key r = go (met r) refl
    where
      go : (b : Bool) → met r ≡ b → is_voucher key (cond b (made r) r) ≡ is_voucher key r
      go true is = let here = text_is topup.voucher (column r 1) (met_key r is) in rw here refl
      go false is = refl

  made_is : (r : Row) → is_voucher topup.voucher r ≡ true → made r
      ≡ cast kind.Integer (column r 0) ∷ topup_columns topup
  made_is r h = rw (
    text_is topup.voucher (column r 1) h,
    cast_int (pos topup.sum),
    cast_int (pos topup.when),
  ) refl

  found : (key : List ℕ) → find (is_voucher key) (new.now.trees voucher.tree)
      ≡ option_map step (find (is_voucher key) (old.now.trees voucher.tree))
  found key = find_mapped (is_voucher key) step (old.now.trees voucher.tree)
      (new.now.trees voucher.tree) (one_voucher old.now book key) (λ r h. keeps key r) mapped

  set_other : (key : List ℕ) → bytes_eq topup.voucher key ≡ false
      → topups_in (new.now.trees voucher.tree) key ≡ topups_in (old.now.trees voucher.tree) key
  set_other key apart =
      ap (option_map (λ r. topup_in_columns (columns r))) (found key
      ∙ unchanged step (find (is_voucher key) (old.now.trees voucher.tree)) (λ r is.
      let here = find_has (is_voucher key) (old.now.trees voucher.tree) r is in
      let unmet = not_true (met r) (λ h. true≢false (sym (octets_refl key)
      ∙ (ap (λ k. bytes_eq k key) (sym (one_key topup.voucher key r (met_key r h) here.1))
      ∙ apart))) in
      ap (λ b. cond b (made r) r) unmet))

  unmet : count ≡ 0 → (r : Row) → Has (old.now.trees voucher.tree) r → met r ≡ false
  unmet nothing r h = not_true (met r) (λ passes. none_shown done.answer count done.counted nothing
      _ (has_shown voucher.tree name_filter topup_project [] Null old.now.trees params done.answer
      done.selects r h passes))

  -- no row was met, and nothing has changed
  pub set_none : count ≡ 0 → (key : List ℕ) → topups_in (new.now.trees voucher.tree) key
      ≡ topups_in (old.now.trees voucher.tree) key
  set_none nothing key =
      ap (option_map (λ r. topup_in_columns (columns r))) (found key
      ∙ unchanged step (find (is_voucher key) (old.now.trees voucher.tree)) (λ r is.
      ap (λ b. cond b (made r) r) (unmet nothing r (find_has (is_voucher key)
      (old.now.trees voucher.tree) r is).0)))

  -- no row has the topup.voucher
  pub none_kept : count ≡ 0 → (r : Row) → Has (new.now.trees voucher.tree) r
      → is_voucher topup.voucher r ≡ false
  none_kept nothing r h = not_true _ (λ passes.
      let b = mapped.back r h in
      let was : is_voucher topup.voucher b.0 ≡ true = sym (keeps topup.voucher b.0)
      ∙ (ap (is_voucher topup.voucher) (sym b.2) ∙ passes) in
      true≢false (sym (key_met b.0 was) ∙ unmet nothing b.0 b.1))

  -- a row was met, so it has the new balance
  pub set_topup : count ≢ 0 → (key : List ℕ) → topups_in (new.now.trees voucher.tree) key
      ≡ update bytes_eq (topups_in (old.now.trees voucher.tree)) topup.voucher (Some topup) key
  set_topup some key = go (bytes_eq topup.voucher key) refl
      (some_shown done.answer count done.counted some)
    where
      go : (b : Bool) → bytes_eq topup.voucher key ≡ b → (r : Row) × Has done.answer r
          → topups_in (new.now.trees voucher.tree) key ≡ cond b (Some topup) (topups_in
          (old.now.trees voucher.tree) key)
      go true is shown =
          let r = shown_has voucher.tree name_filter topup_project [] Null old.now.trees params
          done.answer done.selects shown.0 shown.1 in
          let mine = met_key r.0 r.2 in
          let at = found_is (is_voucher topup.voucher) (old.now.trees voucher.tree) r.0 r.1 mine
          (λ s h passes. one_voucher old.now book topup.voucher s r.0 h r.1 passes mine) in
          let value : topup_in_columns (columns (step r.0)) ≡ topup = ap
          (λ b. topup_in_columns (columns (cond b (made r.0) r.0))) r.2
          ∙ ap (λ r. topup_in_columns (columns r)) (made_is r.0 mine) in
          let here : topups_in (new.now.trees voucher.tree) topup.voucher
          ≡ Some topup = ap (option_map (λ r. topup_in_columns (columns r)))
          (found topup.voucher ∙ ap (option_map step) at) ∙ ap Some value in
          subst (λ k. topups_in (new.now.trees voucher.tree) k
          ≡ Some topup) (octets_are topup.voucher key is) here
      go false is shown = set_other key is

module _ (topup : TopUpFacts) (old new : State) (book : IsBook old.now)
    (done : IsInserted (Null ∷ topup_columns topup) old new)
    (fresh : (r : Row) → Has (old.now.trees voucher.tree) r → is_voucher topup.voucher r
    ≡ false) where
  abbrev put : Row
  put = inserted book_schema Enforced voucher old.now.trees new.now.trees
      (Null ∷ topup_columns topup) refl done.applies

  pub put_is : put ≡ Int (next_rowid (old.now.trees voucher.tree)) ∷ topup_columns topup
  put_is = rw (cast_null, cast_int (pos topup.sum), cast_int (pos topup.when)) refl

  added : IsAdded put (old.now.trees voucher.tree) (new.now.trees voucher.tree)
  added = insert_added book_schema Enforced voucher old.now.trees new.now.trees
      (Null ∷ topup_columns topup) refl done.applies

  put_key : (key : List ℕ) → is_voucher key put ≡ bytes_eq topup.voucher key
  put_key key = ap (is_voucher key) put_is

  found_now : (key : List ℕ) → find (is_voucher key) (new.now.trees voucher.tree)
      ≡ cond (is_voucher key put) (Some put) (find (is_voucher key) (old.now.trees voucher.tree))
  found_now key = find_added (is_voucher key) put (old.now.trees voucher.tree)
      (new.now.trees voucher.tree) (one_voucher old.now book key)
      (λ is r h. subst (λ k. is_voucher k r ≡ false) (octets_are topup.voucher key
      (sym (put_key key) ∙ is)) (fresh r h)) added

  shown_if : (b : Bool) (x : Row) (o : Option Row) → topup_in_columns (columns x) ≡ topup
      → option_map (λ r. topup_in_columns (columns r)) (cond b (Some x) o)
      ≡ cond b (Some topup) (option_map (λ r. topup_in_columns (columns r)) o)
  shown_if true x o is = ap Some is
  shown_if false x o is = refl

  pub new_topup : (key : List ℕ) → topups_in (new.now.trees voucher.tree) key
      ≡ update bytes_eq (topups_in (old.now.trees voucher.tree)) topup.voucher (Some topup) key
  new_topup key =
      ap (option_map (λ r. topup_in_columns (columns r))) (found_now key)
      ∙ (shown_if (is_voucher key put) put (find (is_voucher key) (old.now.trees voucher.tree))
      (ap (λ r. topup_in_columns (columns r)) put_is)
      ∙ ap (λ b. cond b (Some topup) (topups_in (old.now.trees voucher.tree) key)) (put_key key))
