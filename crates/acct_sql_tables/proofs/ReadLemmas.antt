-- What queries show of a book, and that they change nothing.
use Rattle.std.proofs.Common.{◌≡◌, inl, inr, ℕ, List, [], ◌∷◌, true, Option, Some, None, Ok, Err}
use Rattle.std.proofs.Common.{Result, IsTrue, IsOk, OnOk, IfOk, IfErr, ◌⊎◌, slice_get}
use Rattle.std.proofs.Common.{option_map, refl, sym, ap, subst, arith, ◌∙◌}
use Rattle.std.proofs.lemmas.Bool.{and_parts}
use Rattle.sqlite.specs.declared.types.Value.TheVariants.{Null, Text, Blob}
use Rattle.sqlite.specs.declared.error.Error.{Error}
use Rattle.sqlite.specs.Order.{Row, column}
use Rattle.sqlite.specs.Query.{IsAnswerAs}
use Rattle.sqlite.specs.Effect.{Database}
use Rattle.sqlite.specs.Store.{Ghosts}
use Rattle.sqlite.specs.Held.{Held, state}
use Rattle.sqlite.specs.State.{State, IsUnchanged, KeepsCommit, Fails, Shown, ShowsRows}
use Rattle.sqlite.specs.State.{FailsToQuery, FailsToShow, IsNotRun, IsTooLate}
use Rattle.sqlite.specs.Listing.{understood}
use Rattle.sqlite.proofs.Callers.{IsPlain}
use Rattle.sqlite_schema.specs.declared.command.Returning.{Returning}
use Rattle.sqlite_resolve.specs.declared.compiled.Compiled.{Compiled}
use Rattle.acct_book.specs.declared.key.Key.{Key}
use Rattle.acct_book.specs.Row.{RowFacts}
use Rattle.acct_model.specs.Vouchers.{TopUpFacts}
use Rattle.acct_book.specs.Book.{Reads}
use Rattle.acct_book.specs.declared.book.Unavailable.{Unavailable}
use Rattle.acct_sql_tables.specs.Tables.{book_schema, account, voucher, session}
use Rattle.acct_sql_tables.specs.Tables.{meta, price_plan, plan_count}
use Rattle.acct_sql_tables.specs.Columns.{session_in_columns, topup_in_columns, columns, int_in}
use Rattle.acct_sql_tables.specs.Content.{is_session, is_account, is_voucher, content_in_tables}
use Rattle.acct_sql_tables.specs.Content.{content_without_plans}
use Rattle.acct_sql_tables.specs.Book.{IsBook, IsResting, IsOpenBook, content_at, is_sound_at}
use Rattle.acct_sql_tables.specs.Book.{is_open_at}
use Rattle.acct_sql_tables.specs.Book.{is_steady_at, left_at, LeavesPlans}
use Rattle.acct_sql_tables.proofs.MadeLemmas.{same_plans_then}
use Rattle.acct_sql_tables.specs.inner.Inside.{HasMade}
use Rattle.acct_sql_tables.specs.Book.{HasReadBook}
use Rattle.acct_sql_tables.specs.inner.AtRest.{HasShown, HasFirst, row_found}
use Rattle.acct_sql_tables.specs.inner.AtRest.{bare_at, IsAtRest, ReadsAtRest, StaysAtRest}
use Rattle.acct_sql_tables.specs.inner.AtRest.{WritesAtRest}
use Rattle.acct_sql_tables.specs.declared.statements.TheConstants as texts
use Rattle.acct_sql_tables.proofs.CommitLemmas.{of_ok, unavailable}
use Rattle.acct_sql_tables.proofs.TextLemmas as t
use Rattle.acct_sql_tables.proofs.QueryLemmas.{over_table, all_rows, meets, shown_has, has_shown}
use Rattle.acct_sql_tables.proofs.QueryLemmas.{answer_of}
use Rattle.acct_sql_tables.proofs.FindLemmas.{not_true, found_is, none_is}
use Rattle.acct_sql_tables.proofs.ValueLemmas.{equal_blob, blob_equal, equal_text, text_equal}
use Rattle.acct_sql_tables.proofs.ValueLemmas.{is_its_text}
use Rattle.acct_sql_tables.proofs.ValueLemmas.{is_its_blob, blob_is, text_is}
use Rattle.acct_sql_tables.proofs.KeyLemmas.{one_session, one_account, one_voucher}
use Rattle.acct_sql_tables.proofs.SessionLemmas.{key_here}
use Rattle.sqlite.proofs.StateLemmas.{survives_then}
use Rattle.acct_sql_tables.proofs.StepLemmas.{rolled_keeps, unchanged_keeps}

-- ---- what is shown

pub session_found : (key : Key) (old new : State) (rows : List Row) → IsBook old.now
    → Shown texts.SESSION_OF_KEY.now (Text key.client ∷ Blob key.session ∷ []) old new rows
    → row_found (λ r. session_in_columns (column r)) rows
    ≡ (content_without_plans old.now.trees).rows key
session_found key old new rows book h =
    go rows (answer_of t.session_of_key (Text key.client ∷ Blob key.session ∷ []) old new rows
    book.schema h)
  where
    go : (shown : List Row) → IsAnswerAs Null (over_table session.tree t.session_filter
        t.session_shown [] all_rows) old.now.trees (Text key.client ∷ Blob key.session ∷ []) shown
        → row_found (λ r. session_in_columns (column r)) shown
        ≡ (content_without_plans old.now.trees).rows key
    go [] a = sym (ap (option_map (λ r. session_in_columns (columns r)))
        (none_is (is_session key) (old.now.trees session.tree) (λ r there. not_true _ (λ mine.
        let k = key_here key r mine in
        let passes : meets session.tree t.session_filter t.session_shown [] Null old.now.trees
        (Text key.client ∷ Blob key.session ∷ []) r ≡ true = rw
        (k.0, k.1, text_equal key.client, blob_equal key.session) refl in
        has_shown session.tree t.session_filter t.session_shown [] Null old.now.trees
        (Text key.client ∷ Blob key.session ∷ []) [] a r there passes))))
    go (row ∷ more) a =
        let r = shown_has session.tree t.session_filter t.session_shown [] Null old.now.trees
        (Text key.client ∷ Blob key.session ∷ []) (row ∷ more) a row (inl refl) in
        let one = and_parts _ _ r.2 in
        let two = and_parts _ _ one.1 in
        let client = equal_text (column r.0 1) key.client one.0 in
        let id = equal_blob (column r.0 2) key.session two.0 in
        let mine : is_session key r.0 ≡ true = rw (
          client,
          id,
          is_its_text key.client,
          is_its_blob key.session,
        ) refl in
        let found = found_is (is_session key) (old.now.trees session.tree) r.0 r.1 mine
        (λ s there passes. one_session old.now book key s r.0 there r.1 passes mine) in
        ap (λ x. Some (session_in_columns (column x))) r.3 ∙ sym
        (ap (option_map (λ r. session_in_columns (columns r))) found)

pub balance_found : (name : List ℕ) (old new : State) (rows : List Row) → IsBook old.now
    → Shown texts.BALANCE_OF_ACCOUNT.now (Blob name ∷ []) old new rows
    → row_found (λ r. int_in (column r 0)) rows ≡ (content_in_tables old.now.trees).balances name
balance_found name old new rows book h =
    go rows (answer_of t.balance_of_account (Blob name ∷ []) old new rows book.schema h)
  where
    go : (shown : List Row) → IsAnswerAs Null (over_table account.tree t.name_filter t.balance_shown
        [] all_rows) old.now.trees (Blob name ∷ []) shown
        → row_found (λ r. int_in (column r 0)) shown ≡ (content_in_tables old.now.trees).balances
        name
    go [] a = sym (ap (option_map (λ r. int_in (column r 2)))
        (none_is (is_account name) (old.now.trees account.tree) (λ r there. not_true _ (λ mine.
        let passes : meets account.tree t.name_filter t.balance_shown [] Null old.now.trees
        (Blob name ∷ []) r ≡ true = rw (blob_is name (column r 1) mine, blob_equal name) refl in
        has_shown account.tree t.name_filter t.balance_shown [] Null old.now.trees
        (Blob name ∷ []) [] a r there passes))))
    go (row ∷ more) a =
        let r = shown_has account.tree t.name_filter t.balance_shown [] Null old.now.trees
        (Blob name ∷ []) (row ∷ more) a row (inl refl) in
        let named = equal_blob (column r.0 1) name (and_parts _ _ r.2).0 in
        let mine : is_account name r.0 ≡ true = rw (named, is_its_blob name) refl in
        let found = found_is (is_account name) (old.now.trees account.tree) r.0 r.1 mine
        (λ s there passes. one_account old.now book name s r.0 there r.1 passes mine) in
        ap (λ x. Some (int_in (column x 0))) r.3 ∙ sym (ap (option_map (λ r. int_in (column r 2)))
        found)

pub topup_found : (number : List ℕ) (old new : State) (rows : List Row) → IsBook old.now
    → Shown texts.TOPUP_OF_NUMBER.now (Text number ∷ []) old new rows
    → row_found (λ r. topup_in_columns (column r)) rows ≡ (content_in_tables old.now.trees).topups
    number
topup_found number old new rows book h =
    go rows (answer_of t.topup_of_number (Text number ∷ []) old new rows book.schema h)
  where
    go : (shown : List Row) → IsAnswerAs Null (over_table voucher.tree t.name_filter t.topup_shown
        [] all_rows) old.now.trees (Text number ∷ []) shown
        → row_found (λ r. topup_in_columns (column r)) shown
        ≡ (content_in_tables old.now.trees).topups number
    go [] a = sym (ap (option_map (λ r. topup_in_columns (columns r)))
        (none_is (is_voucher number) (old.now.trees voucher.tree) (λ r there. not_true _ (λ mine.
        let passes : meets voucher.tree t.name_filter t.topup_shown [] Null old.now.trees
        (Text number ∷ []) r ≡ true = rw (text_is number (column r 1) mine, text_equal number) refl
        in
        has_shown voucher.tree t.name_filter t.topup_shown [] Null old.now.trees (Text number ∷ [])
        [] a r there passes))))
    go (row ∷ more) a =
        let r = shown_has voucher.tree t.name_filter t.topup_shown [] Null old.now.trees
        (Text number ∷ []) (row ∷ more) a row (inl refl) in
        let named = equal_text (column r.0 1) number (and_parts _ _ r.2).0 in
        let mine : is_voucher number r.0 ≡ true = rw (named, is_its_text number) refl in
        let found = found_is (is_voucher number) (old.now.trees voucher.tree) r.0 r.1 mine
        (λ s there passes. one_voucher old.now book number s r.0 there r.1 passes mine) in
        ap (λ x. Some (topup_in_columns (column x))) r.3 ∙ sym (ap (option_map
        (λ r. topup_in_columns (columns r))) found)

-- ---- a query in a transaction that is rolled back

shows_keeps : (old new : State) (sql : List ℕ) (c : Compiled) (params : Row) (rows : List Row)
    (r : Option Returning) → old.in_transaction ≡ true → ShowsRows old new sql c params rows r
    → KeepsCommit old new
shows_keeps old new sql c params rows None on h = unchanged_keeps old new h.3
shows_keeps old new sql c params rows (Some what) on h = record
    { was_open = λ _. h.1.shown.was_open; committed = λ _. rw on at h.1.shown.committed_is }

shown_keeps : (sql : List ℕ) (params : Row) (old new : State) (rows : List Row) → old.in_transaction
    ≡ true → Shown sql params old new rows → KeepsCommit old new
unfolding Shown
shown_keeps sql params old new rows on h = shows_keeps old new sql h.0 _ rows h.0.returning on h.2

fails_keeps : (old new : State) (P : Type 0) (e : Error) → Fails old new P e → KeepsCommit old new
fails_keeps old new P e h = rolled_keeps old new h.3

runs_keeps : (old new : State) (sql : List ℕ) (c : Compiled) (params : Row) (e : Error)
    (r : Option Returning) → FailsToShow old new sql c params e r → KeepsCommit old new
runs_keeps old new sql c params e None h = unchanged_keeps old new h.3
runs_keeps old new sql c params e (Some what) (inl refused) = unchanged_keeps old new refused.1
runs_keeps old new sql c params e (Some what) (inr failed) = fails_keeps old new _ e failed

pub query_keeps : (sql : List ℕ) (params : Row) (old new : State) (e : Error)
    → FailsToQuery sql params old new e → KeepsCommit old new
unfolding FailsToQuery IsNotRun
query_keeps sql params old new e (inl (inl refused)) = unchanged_keeps old new refused.1
query_keeps sql params old new e (inl (inr failed)) = fails_keeps old new _ e failed
query_keeps sql params old new e (inr h) = runs_keeps old new sql h.0 _ e h.0.returning h.2

open_shown : (old new : State) (sql : List ℕ) (c : Compiled) (params : Row) (rows : List Row)
    (r : Option Returning) → ShowsRows old new sql c params rows r → IsTrue old.is_open
    × IsTrue new.is_open
open_shown old new sql c params rows None h = (h.3.0.was_open, h.3.0.is_open)
open_shown old new sql c params rows (Some what) h = (h.1.shown.was_open, h.1.shown.is_open)

pub shown_open : (sql : List ℕ) (params : Row) (old new : State) (rows : List Row)
    → Shown sql params old new rows → IsTrue old.is_open × IsTrue new.is_open
unfolding Shown
shown_open sql params old new rows h = open_shown old new sql h.0 _ rows h.0.returning h.2

-- ---- a query as a write that changes nothing

rows_same : (old new : State) (sql : List ℕ) (c : Compiled) (params : Row) (rows : List Row)
    (r : Option Returning) → r ≡ None → ShowsRows old new sql c params rows r → IsUnchanged old new
rows_same old new sql c params rows None none h = h.3
rows_same old new sql c params rows (Some what) none h = absurd (cc)

pub shown_same : (sql : List ℕ) (params : Row) (old new : State) (rows : List Row)
    → IsPlain (understood old.now.schema sql) → Shown sql params old new rows → IsUnchanged old new
unfolding Shown
shown_same sql params old new rows plain h = rows_same old new sql h.0 _ rows h.0.returning
    (subst IsPlain h.1.is plain).0 h.2

pub look_made : (sql : List ℕ) (params : Row) (old new : State) (rows : List Row)
    → (IsTrue old.is_open → IsBook old.now) → IsPlain (understood book_schema sql)
    → IsTrue old.in_transaction
    → Shown sql params old new rows → HasMade (λ c. c) old new
look_made sql params old new rows books plain on h =
    let book = books (shown_open sql params old new rows h).0 in
    let same = shown_same sql params old new rows (subst (λ schema. IsPlain (understood schema sql))
    (sym book.schema) plain) h in
    record {
      shows = record {
        was_open = same.0.was_open;
        is_open = same.0.is_open;
        now_is = refl;
        committed_is = same.0.committed_is;
        mode = same.0.mode ∙ on;
      };
      book = subst IsBook (sym same.0.now_is) book;
      content = ap (λ (d : Database). content_in_tables d.trees) same.0.now_is;
      same_plans = record {
        number = ap (λ (d : Database). d.trees meta.tree) same.0.now_is;
        prices = ap (λ (d : Database). d.trees price_plan.tree) same.0.now_is;
        counts = ap (λ (d : Database). d.trees plan_count.tree) same.0.now_is;
      };
    }

pub look_same : (sql : List ℕ) (params : Row) (old new : State) (rows : List Row)
    → (IsTrue old.is_open → IsBook old.now) → IsPlain (understood book_schema sql)
    → Shown sql params old new rows → new.now ≡ old.now
look_same sql params old new rows books plain h =
    let book = books (shown_open sql params old new rows h).0 in
    (shown_same sql params old new rows (subst (λ schema. IsPlain (understood schema sql))
    (sym book.schema) plain) h).0.now_is

pub look_kept : (sql : List ℕ) (params : Row) (old new : State) {V : Type 0} (items : V → List Row)
    (r : Result V Error) → IsTrue old.in_transaction
    → IfOk r (λ rows. Shown sql params old new (items rows))
    → IfErr r (λ e. FailsToQuery sql params old new e ⊎ IsTooLate sql params old new e)
    → KeepsCommit old new
look_kept sql params old new items (Ok rows) on ok err = shown_keeps sql params old new (items rows)
    on ok
look_kept sql params old new items (Err e) on ok (inl failed) = query_keeps sql params old new e
    failed
look_kept sql params old new items (Err e) on ok (inr late) = unchanged_keeps old new late.5

pub answered : {T E : Type 0} {P Q : Type 0} (r : Result T E) → (P → Q) → OnOk r P → OnOk r Q
answered (Ok x) f p = f p
answered (Err e) f p = tt

-- what changed nothing is a read
pub read_of : {S T E : Type 0} (g : Ghosts S) (old new : Held S) (result : Result T E)
    → IsResting (state g old) → (IsTrue (state g old).is_open
    → (state g old).may_leave (state g old).committed.trees)
    → (IsOpenBook (state g new) → (state g new).now ≡ (state g old).now)
    → WritesAtRest g old new (λ c. c) result → ReadsAtRest g old new result
read_of {T = T} {E = E} g old new result resting stays tables w = record {
  resting = w.resting;
  read = record {
    was_sound = w.wrote.was_sound;
    was_open = w.wrote.was_open;
    keeps_steady = w.wrote.keeps_steady;
    answers = w.wrote.answers;
    same = λ o. ap (λ (d : Database). content_in_tables d.trees) (tables o);
    adds_none = λ clean c left. elim (w.wrote.adds_written clean c left) [
      | inl was ↦ was
      | inr same ↦ (
        (state g old).committed.trees,
        stays same.0.0.1,
        same.1
            ∙ ap (λ (d : Database). content_in_tables d.trees) same.0.1,
      )
    ];
  };
  tables = tables;
  plans = w.plans;
}

-- what is made of the rows changes nothing either
pub read_on : {S T U E F : Type 0} (g : Ghosts S) (old new : Held S) (rows : Result T E)
    (result : Result U F) → IsOk rows → HasReadBook g old new rows → HasReadBook g old new result
read_on {U = U} {F = F} g old new rows result is h = record {
  was_sound = h.was_sound;
  was_open = h.was_open;
  keeps_steady = h.keeps_steady;
  answers = λ clean. on_any result (of_ok rows is (h.answers clean));
  same = h.same;
  adds_none = h.adds_none;
}
  where
    on_any : {P : Type 0} (r : Result U F) → P → OnOk r P
    on_any (Ok x) p = p
    on_any (Err e) p = tt

-- the same read, with the book's error as its result
pub read_told : {S T U E : Type 0} (g : Ghosts S) (old inside new : Held S) (r : Result T E)
    → inside ≡ old → HasReadBook g inside new r
    → Reads {T = U} {E = Unavailable} (content_at g) (is_sound_at g) (is_open_at g) (is_steady_at g)
    (left_at g) old new (Err unavailable)
read_told {U = U} g old inside new r same w =
    let h = subst (λ k. HasReadBook g k new r) same w in
    record {
      was_sound = h.was_sound;
      was_open = h.was_open;
      keeps_steady = h.keeps_steady;
      answers = λ clean. tt;
      same = h.same;
      adds_none = h.adds_none;
    }

-- and of one that succeeded, with any answer
pub read_done : {S T U E : Type 0} (g : Ghosts S) (old inside new : Held S) (r : Result T E) (x : T)
    (told : U) → inside ≡ old → r ≡ Ok x → HasReadBook g inside new r
    → Reads {T = U} {E = Unavailable} (content_at g) (is_sound_at g) (is_open_at g)
    (is_steady_at g) (left_at g) old new (Ok told)
read_done {T = T} {E = E} g old inside new r x told same is w =
    let h = subst (λ k. HasReadBook g {T = T} {E = E} k new (Ok x)) same
    (subst (λ (k : Result T E). HasReadBook g inside new k) is w) in
    record {
      was_sound = h.was_sound;
      was_open = h.was_open;
      keeps_steady = h.keeps_steady;
      answers = h.answers;
      same = h.same;
      adds_none = h.adds_none;
    }

pub leaves_told : {S : Type 0} (g : Ghosts S) (old inside new : Held S) → inside ≡ old
    → LeavesPlans (state g inside) (state g new) → LeavesPlans (state g old) (state g new)
leaves_told g old inside new same leaves =
    subst (λ k. LeavesPlans (state g k) (state g new)) same leaves

pub if_same : {T E : Type 0} (r d : Result T E) (P : T → Type 0) → OnOk r (r ≡ d) → IfOk d P
    → IfOk r P
if_same (Ok x) d P same h = subst (λ q. IfOk q P) (sym same) h
if_same (Err e) d P same h = tt

-- what was read of the first row, or of none
pub first_is : {X : Type 0} (read : Row → X) (rows front : List Row) (o : Option Row)
    (target : Option X) → front ≡ rows → o ≡ slice_get front 0 → row_found read rows ≡ target
    → option_map read o ≡ target
first_is read rows front o target same first found = ap (option_map read)
    (first ∙ ap (λ (l : List Row). slice_get l 0) same) ∙ found

module _ {S : Type 0} (g : Ghosts S) (old : Held S) where
  pub session_shown : (key : Key) (rows : List Row) → IsBook (state g old).now
      → HasShown g old texts.SESSION_OF_KEY.now (Text key.client ∷ Blob key.session ∷ []) rows
      → row_found (λ r. session_in_columns (column r)) rows ≡ (bare_at g old).rows key
  session_shown key rows book h = session_found key (state g (record old { in_transaction = true }))
      (state g h.0) rows book h.1

  pub balance_shown : (name : List ℕ) (rows : List Row) → IsBook (state g old).now
      → HasShown g old texts.BALANCE_OF_ACCOUNT.now (Blob name ∷ []) rows
      → row_found (λ r. int_in (column r 0)) rows ≡ (content_at g old).balances name
  balance_shown name rows book h = balance_found name (state g
      (record old { in_transaction = true })) (state g h.0) rows book h.1

  pub topup_shown : (number : List ℕ) (rows : List Row) → IsBook (state g old).now
      → HasShown g old texts.TOPUP_OF_NUMBER.now (Text number ∷ []) rows
      → row_found (λ r. topup_in_columns (column r)) rows ≡ (content_at g old).topups number
  topup_shown number rows book h = topup_found number (state g
      (record old { in_transaction = true })) (state g h.0) rows book h.1

  pub session_first : (key : Key) (o : Option RowFacts) → IsBook (state g old).now
      → HasFirst g old texts.SESSION_OF_KEY.now (Text key.client ∷ Blob key.session ∷ [])
      (λ r. session_in_columns (column r)) o → o ≡ (bare_at g old).rows key
  session_first key o book h = sym h.2 ∙ session_shown key h.0 book h.1

  pub topup_first : (number : List ℕ) (o : Option TopUpFacts) → IsBook (state g old).now
      → HasFirst g old texts.TOPUP_OF_NUMBER.now (Text number ∷ []) (λ r. topup_in_columns
      (column r)) o → o ≡ (content_at g old).topups number
  topup_first number o book h = sym h.2 ∙ topup_shown number h.0 book h.1

-- one read after another
pub read_then : {S T U E F : Type 0} (g : Ghosts S) (old mid new : Held S) (first : Result T E)
    (second : Result U F) → HasReadBook g old mid first → HasReadBook g mid new second
    → HasReadBook g old new second
read_then g old mid new first second a b = record {
  was_sound = λ s. a.was_sound (b.was_sound s);
  was_open = λ o. a.was_open (b.was_open o);
  keeps_steady = λ s. b.keeps_steady (a.keeps_steady s);
  answers = b.answers;
  same = λ o. b.same o ∙ a.same (b.was_open o);
  adds_none = λ s c left. a.adds_none (b.was_sound s) c (b.adds_none s c left);
}

pub plans_then : {S : Type 0} (g : Ghosts S) (old mid new : Held S)
    → (is_open_at g mid → (state g mid).now ≡ (state g old).now)
    → (is_open_at g mid → is_open_at g old) → (is_open_at g new → is_open_at g mid)
    → LeavesPlans (state g old) (state g mid) → LeavesPlans (state g mid) (state g new)
    → LeavesPlans (state g old) (state g new)
plans_then g old mid new tables was_open then_open a b = record {
  shows = λ o. same_plans_then (state g old).now.trees (state g mid).now.trees
      (state g new).now.trees (a.shows (then_open o)) (b.shows o);
  survives = survives_then (state g old) (state g mid) (state g new)
      _ _ _ (λ _ db same. same)
      (λ _ db same. (
        was_open same.0,
        same_plans_then (state g old).now.trees
            (state g mid).now.trees db (a.shows same.0) same.1,
      ))
      a.survives b.survives;
}

-- ---- reads of a book that is at rest

-- before the first of them
pub stays_first : {S : Type 0} (g : Ghosts S) (old : Held S) → IsAtRest g old
    → StaysAtRest g old old
stays_first g old resting = record {
  resting = resting;
  read = record {
    was_sound = λ s. s;
    was_open = λ o. o;
    keeps_steady = λ s. s;
    answers = λ s. tt;
    same = λ o. refl;
    adds_none = λ s c left. left;
  };
  tables = λ o. refl;
  plans = record {
    shows = λ o. record { number = refl; prices = refl; counts = refl };
    survives = record {
      clean = omega arith;
      shield = λ h. h;
      counts = omega arith;
      limit = refl;
      closes = λ clean o. inl o;
      crash = λ clean db left. inl left;
    };
  };
}

-- after one more
pub stays_more : {S T E : Type 0} (g : Ghosts S) (old mid new : Held S) (more : Result T E)
    → StaysAtRest g old mid → ReadsAtRest g mid new more → StaysAtRest g old new
stays_more g old mid new more a b = record {
  resting = b.resting;
  read = record {
    was_sound = λ s. a.read.was_sound (b.read.was_sound s);
    was_open = λ o. a.read.was_open (b.read.was_open o);
    keeps_steady = λ s. b.read.keeps_steady (a.read.keeps_steady s);
    answers = λ s. tt;
    same = λ o. b.read.same o ∙ a.read.same (b.read.was_open o);
    adds_none = λ s c left. a.read.adds_none (b.read.was_sound s) c (b.read.adds_none s c left);
  };
  tables = λ o. b.tables o ∙ a.tables (b.read.was_open o);
  plans = plans_then g old mid new a.tables a.read.was_open b.read.was_open a.plans b.plans;
}

-- they are a read whose answer says that the book is open
pub stays_read : {S T E : Type 0} (g : Ghosts S) (old new : Held S) (result : Result T E)
    → StaysAtRest g old new → (is_sound_at g new → OnOk result (is_open_at g new))
    → ReadsAtRest g old new result
stays_read g old new result a answers = record {
  resting = a.resting;
  read = record {
    was_sound = a.read.was_sound;
    was_open = a.read.was_open;
    keeps_steady = a.read.keeps_steady;
    answers = answers;
    same = a.read.same;
    adds_none = a.read.adds_none;
  };
  tables = a.tables;
  plans = a.plans;
}
