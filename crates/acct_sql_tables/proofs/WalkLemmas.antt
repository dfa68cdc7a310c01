-- What the queries of the walks show of a book.
use Rattle.std.proofs.Common.{◌≡◌, ◌⊎◌, inl, inr, ℕ, ℤ, List, [], ◌∷◌, true, Bool}
use Rattle.std.proofs.Common.{Option, Some, None, option_map, refl, sym, ap, ap₂, subst, ◌∙◌}
use Rattle.std.proofs.Common.{Ordering, Less, Equal, Greater, true≢false}
use Rattle.std.specs.Ordering.{is_gt, ordering_then, ordering_reverse}
use Rattle.std.specs.Cmp.Lexicographic.{nat_list_cmp_total}
use Rattle.std.proofs.lemmas.Cmp.{tied_itself}
use Rattle.std.proofs.lemmas.Bool.{and_parts, and_from}
use Rattle.std.proofs.lemmas.Map.Lookups.{exact_bytes}
use Rattle.sqlite.specs.declared.types.Value.{Value}
use Rattle.sqlite.specs.declared.types.Value.TheVariants.{Null, Text, Blob}
use Rattle.sqlite_value.specs.declared.keys.Key.{Key as Direction}
use Rattle.sqlite_value.specs.Order.{bytes}
use Rattle.sqlite_value.proofs.OrderLemmas.{value_cmp-Blob, value_cmp-Text}
use Rattle.sqlite.specs.Collation.TheVariants.{Binary}
use Rattle.sqlite_sql.specs.declared.ops.BinaryOp.TheVariants.{Compare}
use Rattle.sqlite_sql.specs.declared.ops.CompareOp.TheVariants.{Gt}
use Rattle.sqlite_sql.specs.Ops.{binary, is_true, from_truth}
use Rattle.sqlite.specs.Order.{Row, column, value_cmp}
use Rattle.sqlite.specs.Tree.{Trees}
use Rattle.sqlite.specs.Term.{Term, lit, col, op2, eval_all}
use Rattle.sqlite.specs.Query.{Query, IsAnswerAs}
use Rattle.sqlite.specs.Program.{overlay}
use Rattle.sqlite.specs.Effect.{Database}
use Rattle.sqlite.specs.Store.{Ghosts}
use Rattle.sqlite.specs.Held.{Held, state}
use Rattle.sqlite.specs.State.{State, Shown}
use Rattle.acct_book.specs.declared.key.Key.{Key}
use Rattle.acct_book.specs.Content.{key_of}
use Rattle.acct_book.specs.Row.{RowFacts}
use Rattle.acct_model.specs.Vouchers.{TopUpFacts}
use Rattle.acct_book.specs.Maps.{octets_cmp, key_cmp}
use Rattle.acct_book.specs.Walk.{IsPast, IsNext, IsNextRow, IsNextBalance, IsNextTopUp}
use Rattle.acct_sql_tables.specs.Tables.{account, voucher, session}
use Rattle.acct_sql_tables.specs.Columns.{session_in_columns, topup_in_columns, columns, int_in}
use Rattle.acct_sql_tables.specs.Content.{is_session, is_account, is_voucher, content_in_tables}
use Rattle.acct_sql_tables.specs.Content.{content_without_plans}
use Rattle.acct_sql_tables.specs.Book.{IsBook, content_at}
use Rattle.acct_sql_tables.specs.inner.Columns.{account_in_columns}
use Rattle.acct_sql_tables.specs.inner.AtRest.{HasFirst, row_found, bare_at}
use Rattle.acct_sql_tables.specs.inner.Next.{IsLeast, IsWithin, IsBeyond}
use Rattle.acct_sql_tables.specs.declared.statements.TheConstants as texts
use Rattle.acct_sql_tables.proofs.TextLemmas as t
use Rattle.acct_sql_tables.proofs.TextLemmas.{session_shown, topup_shown, account_shown}
use Rattle.acct_sql_tables.proofs.TextLemmas.{within_filter}
use Rattle.acct_sql_tables.proofs.TextLemmas.{is_after, by_name, by_key, by_id}
use Rattle.acct_sql_tables.proofs.QueryLemmas.{over_table, meets, answer_of}
use Rattle.acct_sql_tables.proofs.NextLemmas.{one_row, none_next, some_next}
use Rattle.acct_sql_tables.proofs.ValueLemmas.{equal_text, text_equal, blob_is, text_is}
use Rattle.acct_sql_tables.proofs.KeyLemmas.{one_session, one_account, one_voucher}
use Rattle.acct_sql_tables.proofs.KeyedLemmas.{keyed_session, keyed_account, keyed_voucher}
use Rattle.acct_sql_tables.proofs.SessionLemmas.{key_here}

-- ---- SQL's > on texts and blobs

pub greater_is : (o : Ordering) → is_true (from_truth (Some (is_gt o))) ≡ true → o ≡ Greater
greater_is Less h = absurd (true≢false (sym h))
greater_is Equal h = absurd (true≢false (sym h))
greater_is Greater h = refl

pub is_greater : (o : Ordering) → o ≡ Greater → is_true (from_truth (Some (is_gt o))) ≡ true
is_greater o is = ap (λ o. is_true (from_truth (Some (is_gt o)))) is

turned : (a b : List ℕ) → octets_cmp b a ≡ Greater → octets_cmp a b ≡ Less
turned a b is = nat_list_cmp_total.antisymm a b ∙ ap ordering_reverse is

back : (a b : List ℕ) → octets_cmp a b ≡ Less → octets_cmp b a ≡ Greater
back a b is = nat_list_cmp_total.antisymm b a ∙ ap ordering_reverse is

abbrev pub above : Value → Value → Bool
above v w = is_true (binary (Compare Gt Binary) v w)

blob_above : (k after : List ℕ) → above (Blob k) (Blob after) ≡ true → octets_cmp after k ≡ Less
unfolding binary
blob_above k after h = turned after k (sym (value_cmp-Blob k after) ∙ greater_is _ h)

above_blob : (k after : List ℕ) → octets_cmp after k ≡ Less → above (Blob k) (Blob after) ≡ true
unfolding binary
above_blob k after h = is_greater _ (value_cmp-Blob k after ∙ back after k h)

text_above : (k after : List ℕ) → above (Text k) (Text after) ≡ true → octets_cmp after k ≡ Less
unfolding binary
text_above k after h = turned after k (sym (value_cmp-Text k after) ∙ greater_is _ h)

above_text : (k after : List ℕ) → octets_cmp after k ≡ Less → above (Text k) (Text after) ≡ true
unfolding binary
above_text k after h = is_greater _ (value_cmp-Text k after ∙ back after k h)

-- ---- the orders

pub then_equal : (o : Ordering) → ordering_then o Equal ≡ o
then_equal Less = refl
then_equal Equal = refl
then_equal Greater = refl

blobs_ranked : (j k : List ℕ) (v w : Value) → v ≡ Blob j → w ≡ Blob k
    → ordering_then (value_cmp v w) Equal ≡ octets_cmp j k
blobs_ranked j k v w p q = ap₂ (λ a b. ordering_then (value_cmp a b) Equal) p q
    ∙ (then_equal _ ∙ value_cmp-Blob j k)

texts_ranked : (j k : List ℕ) (v w : Value) → v ≡ Text j → w ≡ Text k
    → ordering_then (value_cmp v w) Equal ≡ octets_cmp j k
texts_ranked j k v w p q = ap₂ (λ a b. ordering_then (value_cmp a b) Equal) p q
    ∙ (then_equal _ ∙ value_cmp-Text j k)

text_ranked : (j k : List ℕ) (v w : Value) → v ≡ Text j → w ≡ Text k → value_cmp v w
    ≡ octets_cmp j k
text_ranked j k v w p q = ap₂ value_cmp p q ∙ value_cmp-Text j k

pub next_is : {K X : Type 0} (cmp : K → K → Ordering) (at : K → Option X) (after : Option K)
    (o : Option (K × X)) → IsLeast cmp at (IsPast cmp after) o → IsNext cmp at after o
next_is cmp at after None h = h
next_is cmp at after (Some (k, x)) h = h

-- ---- accounts

abbrev pub account_in : Row → List ℕ × ℤ
account_in r = account_in_columns (column r)

module _ (db : Database) (book : IsBook db) (filter : List Term) (params : Row)
    (ahead : List ℕ → Type 0)
    (met_ahead : (k : List ℕ) (r : Row) → is_account k r ≡ true
    → meets account.tree filter account_shown by_name Null db.trees params r ≡ true → ahead k)
    (ahead_met : (k : List ℕ) (r : Row) → is_account k r ≡ true → ahead k
    → meets account.tree filter account_shown by_name Null db.trees params r ≡ true) where
  account_least : (rows : List Row) → IsAnswerAs Null (over_table account.tree filter account_shown
      by_name one_row) db.trees params rows → IsLeast octets_cmp (content_in_tables
      db.trees).balances ahead (row_found account_in rows)
  account_least [] a = none_next octets_cmp is_account (λ r. int_in (column r 2)) account.tree
      filter account_shown by_name db.trees params ahead (keyed_account db book)
      (one_account db book) met_ahead ahead_met
      (λ j k r s mine yours later far. blobs_ranked j k _ _ (blob_is j (column r 1) mine)
      (blob_is k (column s 1) yours)) a
  account_least (row ∷ rest) a =
      let it = some_next octets_cmp is_account (λ r. int_in (column r 2)) account.tree filter
      account_shown by_name db.trees params ahead (keyed_account db book) (one_account db book)
      met_ahead ahead_met
      (λ j k r s mine yours later far. blobs_ranked j k _ _ (blob_is j (column r 1) mine)
      (blob_is k (column s 1) yours)) row rest a in
      let name : bytes (column it.1 1) ≡ it.0 = ap bytes (blob_is it.0 (column it.1 1) it.3) in
      let shown : account_in row ≡ (it.0, int_in (column it.1 2)) = ap account_in it.4
      ∙ ap (λ n. (n, int_in (column it.1 2))) name in
      subst (λ o. IsLeast octets_cmp (content_in_tables db.trees).balances ahead (Some o))
      (sym shown) it.5

-- ---- top-ups

module _ (db : Database) (book : IsBook db) (filter : List Term) (params : Row)
    (ahead : List ℕ → Type 0)
    (met_ahead : (k : List ℕ) (r : Row) → is_voucher k r ≡ true
    → meets voucher.tree filter topup_shown by_name Null db.trees params r ≡ true → ahead k)
    (ahead_met : (k : List ℕ) (r : Row) → is_voucher k r ≡ true → ahead k
    → meets voucher.tree filter topup_shown by_name Null db.trees params r ≡ true) where
  abbrev numbered : TopUpFacts → List ℕ × TopUpFacts
  numbered t = (t.voucher, t)

  topup_least : (rows : List Row) → IsAnswerAs Null (over_table voucher.tree filter topup_shown
      by_name one_row) db.trees params rows
      → IsLeast octets_cmp (content_in_tables db.trees).topups ahead
      (option_map numbered (row_found (λ r. topup_in_columns (column r)) rows))
  topup_least [] a = none_next octets_cmp is_voucher (λ r. topup_in_columns
      (columns r)) voucher.tree filter topup_shown by_name db.trees params ahead (keyed_voucher db
      book) (one_voucher db book) met_ahead ahead_met
      (λ j k r s mine yours later far. texts_ranked j k _ _ (text_is j (column r 1) mine)
      (text_is k (column s 1) yours)) a
  topup_least (row ∷ rest) a =
      let it = some_next octets_cmp is_voucher (λ r. topup_in_columns (columns r)) voucher.tree
      filter topup_shown by_name db.trees params ahead (keyed_voucher db book) (one_voucher db book)
      met_ahead ahead_met
      (λ j k r s mine yours later far. texts_ranked j k _ _ (text_is j (column r 1) mine)
      (text_is k (column s 1) yours)) row rest a in
      let number : bytes (column it.1 1) ≡ it.0 = ap bytes (text_is it.0 (column it.1 1) it.3) in
      let shown : numbered (topup_in_columns (column row)) ≡ (
        it.0,
        topup_in_columns
            (columns it.1),
      ) = ap (λ r. numbered (topup_in_columns (column r))) it.4
      ∙ ap (λ n. (n, topup_in_columns (columns it.1))) number in
      subst (λ o. IsLeast octets_cmp (content_in_tables db.trees).topups ahead (Some o))
      (sym shown) it.5

-- ---- sessions

abbrev pub keyed_row : RowFacts → Key × RowFacts
keyed_row row = (key_of row, row)

module _ (db : Database) (book : IsBook db) (filter : List Term) (order : List (Term × Direction))
    (params : Row) (ahead : Key → Type 0)
    (met_ahead : (k : Key) (r : Row) → is_session k r ≡ true
    → meets session.tree filter session_shown order Null db.trees params r ≡ true → ahead k)
    (ahead_met : (k : Key) (r : Row) → is_session k r ≡ true → ahead k
    → meets session.tree filter session_shown order Null db.trees params r ≡ true)
    (ranked : (j k : Key) (r s : Row) → is_session j r ≡ true → is_session k s ≡ true → ahead j
    → ahead k
    → Rattle.sqlite.specs.Query.output_cmp (over_table session.tree filter session_shown order
    one_row) (Rattle.sqlite.specs.Query.output (over_table session.tree filter session_shown order
    one_row) (params ∷ r ∷ []))
    (Rattle.sqlite.specs.Query.output (over_table session.tree filter session_shown order one_row)
    (params ∷ s ∷ [])) ≡ key_cmp j k) where
  session_least : (rows : List Row) → IsAnswerAs Null (over_table session.tree filter session_shown
      order one_row) db.trees params rows
      → IsLeast key_cmp (content_without_plans db.trees).rows ahead
      (option_map keyed_row (row_found (λ r. session_in_columns (column r)) rows))
  session_least [] a = none_next key_cmp is_session (λ r. session_in_columns
      (columns r)) session.tree filter session_shown order db.trees params ahead (keyed_session db
      book) (one_session db book) met_ahead ahead_met ranked a
  session_least (row ∷ rest) a =
      let it = some_next key_cmp is_session (λ r. session_in_columns (columns r)) session.tree
      filter session_shown order db.trees params ahead (keyed_session db book) (one_session db book)
      met_ahead ahead_met ranked row rest a in
      let k = key_here it.0 it.1 it.3 in
      let own : key_of (session_in_columns (columns it.1)) ≡ it.0 = λ i. record
      { client = bytes (k.0 i); session = bytes (k.1 i) } in
      let shown : keyed_row (session_in_columns (column row)) ≡ (
        it.0,
        session_in_columns
            (columns it.1),
      ) = ap (λ r. keyed_row (session_in_columns (column r))) it.4
      ∙ ap (λ n. (n, session_in_columns (columns it.1))) own in
      subst (λ o. IsLeast key_cmp (content_without_plans db.trees).rows ahead (Some o))
      (sym shown) it.5

by_both : (j k : Key) (r s : Row) → is_session j r ≡ true → is_session k s ≡ true
    → ordering_then (value_cmp (column r 1) (column s 1))
    (ordering_then (value_cmp (column r 2) (column s 2)) Equal) ≡ key_cmp j k
by_both j k r s mine yours =
    let a = key_here j r mine in
    let b = key_here k s yours in
    ap₂ ordering_then (text_ranked j.client k.client _ _ a.0 b.0)
    (blobs_ranked j.session k.session _ _ a.1 b.1)

same_client : (j k : Key) → j.client ≡ k.client → key_cmp j k ≡ octets_cmp j.session k.session
same_client j k same = ap (λ o. ordering_then o (octets_cmp j.session k.session))
    (ap (octets_cmp j.client) (sym same) ∙ tied_itself nat_list_cmp_total j.client)

by_ids : (after j k : Key) (r s : Row) → is_session j r ≡ true → is_session k s ≡ true
    → IsWithin after j → IsWithin after k → ordering_then (value_cmp (column r 2) (column s 2))
    Equal ≡ key_cmp j k
by_ids after j k r s mine yours near far = blobs_ranked j.session k.session _ _
    (key_here j r mine).1 (key_here k s yours).1 ∙ sym (same_client j k (sym near.0 ∙ far.0))

-- ---- what was shown

module _ (old new : State) (rows : List Row) (book : IsBook old.now) where
  pub first_account : Shown texts.FIRST_ACCOUNT.now [] old new rows
      → IsNext octets_cmp (content_in_tables old.now.trees).balances None (row_found account_in
      rows)
  first_account h =
      next_is octets_cmp (content_in_tables old.now.trees).balances None (row_found account_in rows)
      (account_least old.now book [] [] (λ k. Unit {0}) (λ k r mine met. tt) (λ k r mine far. refl)
      rows (answer_of t.first_account [] old new rows book.schema h))

  pub next_account : (after : List ℕ) → Shown texts.ACCOUNT_AFTER.now (Blob after ∷ []) old new rows
      → IsNext octets_cmp (content_in_tables old.now.trees).balances (Some after)
      (row_found account_in rows)
  next_account after h =
      let params = Blob after ∷ [] in
      next_is octets_cmp (content_in_tables old.now.trees).balances (Some after)
      (row_found account_in rows)
      (account_least old.now book (is_after 1 0 ∷ []) params (λ k. octets_cmp after k ≡ Less)
      (λ k r mine met. blob_above k after (subst (λ v. above v (Blob after) ≡ true)
      (blob_is k (column r 1) mine) (and_parts _ _ met).0))
      (λ k r mine far. and_from _ _ (subst (λ v. above v (Blob after) ≡ true)
      (sym (blob_is k (column r 1) mine)) (above_blob k after far)) refl)
      rows (answer_of t.account_after params old new rows book.schema h))

  pub first_topup : Shown texts.FIRST_TOPUP.now [] old new rows
      → IsNext octets_cmp (content_in_tables old.now.trees).topups None
      (option_map (λ t. (t.voucher, t)) (row_found (λ r. topup_in_columns (column r)) rows))
  first_topup h =
      next_is octets_cmp (content_in_tables old.now.trees).topups None _
      (topup_least old.now book [] [] (λ k. Unit {0}) (λ k r mine met. tt) (λ k r mine far. refl)
      rows (answer_of t.first_topup [] old new rows book.schema h))

  pub next_topup : (after : List ℕ) → Shown texts.TOPUP_AFTER.now (Text after ∷ []) old new rows
      → IsNext octets_cmp (content_in_tables old.now.trees).topups (Some after)
      (option_map (λ t. (t.voucher, t)) (row_found (λ r. topup_in_columns (column r)) rows))
  next_topup after h =
      let params = Text after ∷ [] in
      next_is octets_cmp (content_in_tables old.now.trees).topups (Some after) _
      (topup_least old.now book (is_after 1 0 ∷ []) params (λ k. octets_cmp after k ≡ Less)
      (λ k r mine met. text_above k after (subst (λ v. above v (Text after) ≡ true)
      (text_is k (column r 1) mine) (and_parts _ _ met).0))
      (λ k r mine far. and_from _ _ (subst (λ v. above v (Text after) ≡ true)
      (sym (text_is k (column r 1) mine)) (above_text k after far)) refl)
      rows (answer_of t.topup_after params old new rows book.schema h))

  abbrev shown_row : Option (Key × RowFacts)
  shown_row = option_map keyed_row (row_found (λ r. session_in_columns (column r)) rows)

  pub first_session : Shown texts.FIRST_SESSION.now [] old new rows
      → IsNext key_cmp (content_without_plans old.now.trees).rows None shown_row
  first_session h =
      next_is key_cmp (content_without_plans old.now.trees).rows None shown_row
      (session_least old.now book [] by_key [] (λ k. Unit {0}) (λ k r mine met. tt)
      (λ k r mine far. refl) (λ j k r s mine yours near far. by_both j k r s mine yours)
      rows (answer_of t.first_session [] old new rows book.schema h))

  pub session_within : (after : Key) → Shown texts.LATER_SESSION_OF_CLIENT.now
      (Text after.client ∷ Blob after.session ∷ []) old new rows
      → IsLeast key_cmp (content_without_plans old.now.trees).rows (IsWithin after) shown_row
  session_within after h =
      let params = Text after.client ∷ Blob after.session ∷ [] in
      session_least old.now book within_filter by_id params (IsWithin after)
      (λ k r mine met.
      let one = and_parts _ _ met in
      let two = and_parts _ _ one.1 in
      let at = key_here k r mine in (
        ap bytes (sym (equal_text (column r 1) after.client one.0) ∙ at.0),
        blob_above k.session after.session (subst (λ v. above v (Blob after.session) ≡ true)
            at.1 two.0),
      ))
      (λ k r mine near.
      let at = key_here k r mine in
      and_from _ _ (subst (λ v. Rattle.sqlite_schema.specs.Rules.equal Binary v
      (Text after.client) ≡ true) (ap Text near.0 ∙ sym at.0) (text_equal after.client))
      (and_from _ _ (subst (λ v. above v (Blob after.session) ≡ true) (sym at.1)
      (above_blob k.session after.session near.1)) refl))
      (by_ids after)
      rows (answer_of t.later_session_of_client params old new rows book.schema h)

  pub session_beyond : (after : List ℕ) → Shown texts.SESSION_OF_LATER_CLIENT.now (Text after ∷ [])
      old new rows → IsLeast key_cmp (content_without_plans old.now.trees).rows
      (IsBeyond after) shown_row
  session_beyond after h =
      let params = Text after ∷ [] in
      session_least old.now book (is_after 1 0 ∷ []) by_key params (IsBeyond after)
      (λ k r mine met. text_above k.client after (subst (λ v. above v (Text after) ≡ true)
      (key_here k r mine).0 (and_parts _ _ met).0))
      (λ k r mine far. and_from _ _ (subst (λ v. above v (Text after) ≡ true)
      (sym (key_here k r mine).0) (above_text k.client after far)) refl)
      (λ j k r s mine yours near far. by_both j k r s mine yours)
      rows (answer_of t.session_of_later_client params old new rows book.schema h)

-- ---- the same client's later sessions, and then later clients

-- a key past another is of the same client and later, or of a later client
split_past : (after j : Key) (o : Ordering) → octets_cmp after.client j.client ≡ o → key_cmp after j
    ≡ Less → IsWithin after j ⊎ IsBeyond after.client j
split_past after j Less is past = inr is
split_past after j Equal is past = inl (
  exact_bytes after.client j.client is,
  sym (ap (λ o. ordering_then o (octets_cmp after.session j.session)) is) ∙ past,
)
split_past after j Greater is past = absurd (let never : Greater
    ≡ Less = sym (ap (λ o. ordering_then o (octets_cmp after.session j.session)) is) ∙ past in cc)

within_past : (after j : Key) → IsWithin after j → key_cmp after j ≡ Less
within_past after j near = same_client after j near.0 ∙ near.1

beyond_past : (after j : Key) → IsBeyond after.client j → key_cmp after j ≡ Less
beyond_past after j far = ap (λ o. ordering_then o (octets_cmp after.session j.session)) far

-- a row of the same client is the next one
pub within_next : (at : Key → Option RowFacts) (after k : Key) (row : RowFacts)
    → IsLeast key_cmp at (IsWithin after) (Some (k, row))
    → IsNext key_cmp at (Some after) (Some (k, row))
within_next at after k row h = (
  h.0,
  within_past after k h.1,
  λ j past less. elim (split_past after j _ refl past) [
    | inl near ↦ h.2 j near less
    | inr far ↦ absurd (let never : Greater ≡ Less = sym (ap
        (λ o. ordering_then o (octets_cmp j.session k.session))
        (back k.client j.client (subst (λ c. octets_cmp c j.client ≡ Less) h.1.0 far)))
        ∙ less in cc)
  ],
)

-- if the client has no later session, the next is that of the next client
pub beyond_next : (at : Key → Option RowFacts) (after : Key) (o : Option (Key × RowFacts))
    → IsLeast key_cmp at (IsWithin after) None → IsLeast key_cmp at (IsBeyond after.client) o
    → IsNext key_cmp at (Some after) o
beyond_next at after None none h = λ j past. elim (split_past after j _ refl past)
    [ inl near ↦ none j near | inr far ↦ h j far ]
beyond_next at after (Some (k, row)) none h = (
  h.0,
  beyond_past after k h.1,
  λ j past less. elim (split_past after j _ refl past)
      [ inl near ↦ none j near | inr far ↦ h.2 j far less ],
)

-- ---- the first row that a connection shows

module _ {S : Type 0} (g : Ghosts S) (old : Held S) (book : IsBook (state g old).now) where
  abbrev begun : State
  begun = state g (record old { in_transaction = true })

  pub is_first_account : (kept : Option (List ℕ × ℤ)) (after : Option (List ℕ)) → after ≡ None
      → HasFirst g old texts.FIRST_ACCOUNT.now [] (λ r. account_in_columns (column r)) kept
      → IsNextBalance (content_at g old) after kept
  is_first_account kept after none h =
      subst (λ k. IsNextBalance (content_at g old) after k) h.2
      (subst (λ a. IsNextBalance (content_at g old) a (row_found account_in h.0)) (sym none)
      (first_account begun (state g h.1.0) h.0 book h.1.1))

  pub is_next_account : (kept : Option (List ℕ × ℤ)) (after : Option (List ℕ)) (name : List ℕ)
      → after ≡ Some name → HasFirst g old texts.ACCOUNT_AFTER.now (Blob name ∷ [])
      (λ r. account_in_columns (column r)) kept → IsNextBalance (content_at g old) after kept
  is_next_account kept after name some h =
      subst (λ k. IsNextBalance (content_at g old) after k) h.2
      (subst (λ a. IsNextBalance (content_at g old) a (row_found account_in h.0)) (sym some)
      (next_account begun (state g h.1.0) h.0 book name h.1.1))

  pub is_first_topup : (topup : Option TopUpFacts) (after : Option (List ℕ)) → after ≡ None
      → HasFirst g old texts.FIRST_TOPUP.now [] (λ r. topup_in_columns (column r)) topup
      → IsNextTopUp (content_at g old) after topup
  is_first_topup topup after none h =
      subst (λ t. IsNextTopUp (content_at g old) after t) h.2
      (subst (λ a. IsNextTopUp (content_at g old) a (row_found (λ r. topup_in_columns
      (column r)) h.0)) (sym none) (first_topup begun (state g h.1.0) h.0 book h.1.1))

  pub is_next_topup : (topup : Option TopUpFacts) (after : Option (List ℕ)) (number : List ℕ)
      → after ≡ Some number → HasFirst g old texts.TOPUP_AFTER.now (Text number ∷ [])
      (λ r. topup_in_columns (column r)) topup → IsNextTopUp (content_at g old) after topup
  is_next_topup topup after number some h =
      subst (λ t. IsNextTopUp (content_at g old) after t) h.2
      (subst (λ a. IsNextTopUp (content_at g old) a (row_found (λ r. topup_in_columns
      (column r)) h.0)) (sym some) (next_topup begun (state g h.1.0) h.0 book number h.1.1))

  pub is_first_session : (row : Option RowFacts) (after : Option Key) → after ≡ None
      → HasFirst g old texts.FIRST_SESSION.now [] (λ r. session_in_columns (column r)) row
      → IsNextRow (bare_at g old) after row
  is_first_session row after none h =
      subst (λ r. IsNextRow (bare_at g old) after r) h.2
      (subst (λ a. IsNextRow (bare_at g old) a (row_found (λ r. session_in_columns
      (column r)) h.0)) (sym none) (first_session begun (state g h.1.0) h.0 book h.1.1))

  pub is_within : (row : Option RowFacts) (after : Key)
      → HasFirst g old texts.LATER_SESSION_OF_CLIENT.now (Text after.client ∷ Blob after.session ∷
      []) (λ r. session_in_columns (column r)) row → IsLeast key_cmp (bare_at g old).rows
      (IsWithin after) (option_map keyed_row row)
  is_within row after h = subst (λ r. IsLeast key_cmp (bare_at g old).rows (IsWithin after)
      (option_map keyed_row r)) h.2 (session_within begun (state g h.1.0) h.0 book after h.1.1)

  pub is_beyond : (row : Option RowFacts) (after : List ℕ)
      → HasFirst g old texts.SESSION_OF_LATER_CLIENT.now (Text after ∷ []) (λ r. session_in_columns
      (column r)) row → IsLeast key_cmp (bare_at g old).rows (IsBeyond after)
      (option_map keyed_row row)
  is_beyond row after h = subst (λ r. IsLeast key_cmp (bare_at g old).rows (IsBeyond after)
      (option_map keyed_row r)) h.2 (session_beyond begun (state g h.1.0) h.0 book after h.1.1)
