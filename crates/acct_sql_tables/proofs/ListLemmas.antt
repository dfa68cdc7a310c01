-- What the queries of an account's lists show of a book.
use Rattle.std.proofs.Common.{◌≡◌, ℕ, ◌+◌, ◌-◌, ◌<◌, ◌≤◌, zero, suc, List, [], ◌∷◌, ◌++◌}
use Rattle.std.proofs.Common.{true, Option, Some, None, length, map, take, get_or, find}
use Rattle.std.proofs.Common.{option_map, refl, sym, ap, subst, ◌∙◌, Ordering, Less, bytes_eq}
use Rattle.std.proofs.Common.{IsTrue, arith}
use Rattle.std.specs.Prelude.{◌↔◌, Contains}
use Rattle.std.specs.List.{AllByRecursion}
use Rattle.std.specs.List.Sorted.{IsStrictlySortedBy}
use Rattle.std.specs.Cmp.{IsTotalOrder}
use Rattle.std.proofs.lemmas.Bool.{and_parts, and_from}
use Rattle.std.proofs.lemmas.List.{take_more, take_all, map-append}
use Rattle.std.proofs.lemmas.Slice.Eq.{bytes_eq-Decides}
use Rattle.sqlite.specs.declared.types.Value.TheVariants.{Null, Blob}
use Rattle.sqlite_value.specs.Order.{bytes}
use Rattle.sqlite.specs.Collation.TheVariants.{Binary}
use Rattle.sqlite.specs.Order.{Row, column}
use Rattle.sqlite.specs.Term.{Term, col}
use Rattle.sqlite.specs.Query.{IsAnswerAs}
use Rattle.sqlite.specs.Program.{overlay}
use Rattle.sqlite.specs.Store.{Ghosts}
use Rattle.sqlite.specs.Held.{Held, state}
use Rattle.sqlite.specs.State.{State, Shown}
use Rattle.sqlite_schema.specs.Rules.{equal}
use Rattle.sqlite_rules.specs.Lists.{Has}
use Rattle.sqlite_rules.proofs.ListLemmas.{has_contained, contains_had}
use Rattle.acct_model.specs.Vouchers.{TopUpFacts}
use Rattle.acct_book.specs.Row.{RowFacts}
use Rattle.acct_book.specs.Content.{key_of}
use Rattle.acct_book.specs.Maps.{octets_cmp, key_cmp}
use Rattle.acct_book.specs.Walk.{AreRowsOf, AreTopUpsOf}
use Rattle.acct_sql_tables.specs.Tables.{voucher, session}
use Rattle.acct_sql_tables.specs.Columns.{session_in_columns, topup_in_columns, columns}
use Rattle.acct_sql_tables.specs.Content.{is_session, is_voucher, content_in_tables}
use Rattle.acct_sql_tables.specs.Content.{content_without_plans}
use Rattle.acct_sql_tables.specs.Book.{IsBook, content_at}
use Rattle.acct_sql_tables.specs.inner.AtRest.{HasShown, bare_at}
use Rattle.acct_sql_tables.specs.declared.statements.TheConstants as texts
use Rattle.acct_sql_tables.proofs.TextLemmas.{session_shown, topup_shown, sessions_filter}
use Rattle.acct_sql_tables.proofs.TextLemmas.{topups_filter}
use Rattle.acct_sql_tables.proofs.TextLemmas.{by_key, by_name, sessions_of_account}
use Rattle.acct_sql_tables.proofs.TextLemmas.{topups_of_account}
use Rattle.acct_sql_tables.proofs.QueryLemmas.{over_table, all_rows, shown_has, has_shown}
use Rattle.acct_sql_tables.proofs.QueryLemmas.{answer_of}
use Rattle.acct_sql_tables.proofs.QueryLemmas.{has_mapped, map_has}
use Rattle.acct_sql_tables.proofs.FindLemmas.{find_has, found_is}
use Rattle.acct_sql_tables.proofs.ValueLemmas.{equal_blob, blob_equal, text_is}
use Rattle.acct_sql_tables.proofs.KeyLemmas.{one_session, one_voucher}
use Rattle.acct_sql_tables.proofs.KeyedLemmas.{keyed_session, keyed_voucher, session_account}
use Rattle.acct_sql_tables.proofs.KeyedLemmas.{voucher_account}
use Rattle.acct_sql_tables.proofs.SessionLemmas.{key_here}

pub found_row : {X : Type 0} (f : Row → X) (o : Option Row) (x : X) → option_map f o ≡ Some x
    → (r : Row) × (o ≡ Some r) × (f r ≡ x)
found_row f None x h = absurd cc
found_row f (Some r) x h = (r, refl, cc)

module _ (old new : State) (account : List ℕ) (shown : List Row) (book : IsBook old.now) where
  abbrev params : Row
  params = Blob account ∷ []

  abbrev db : Rattle.sqlite.specs.Tree.Trees
  db = old.now.trees

  abbrev read_session : Row → RowFacts
  read_session r = session_in_columns (column r)

  pub sessions_each : Shown texts.SESSIONS_OF_ACCOUNT.now (Blob account ∷ []) old new shown
      → (member : RowFacts) → Contains (map read_session shown) member
      ↔ (((content_without_plans db).rows (key_of member) ≡ Some member)
      × IsTrue (bytes_eq account member.account))
  sessions_each h member = (listed, unlisted)
    where
      answer : IsAnswerAs Null (over_table session.tree sessions_filter session_shown by_key
          all_rows) db params shown
      answer = answer_of sessions_of_account params old new shown book.schema h

      listed : Contains (map read_session shown) member →
          ((content_without_plans db).rows (key_of member) ≡ Some member)
          × IsTrue (bytes_eq account member.account)
      listed there =
          let at = has_mapped read_session shown member (has_contained (map read_session shown)
          member there) in
          let r = shown_has session.tree sessions_filter session_shown by_key Null db params shown
          answer at.0 at.1 in
          let is : member ≡ session_in_columns (columns r.0) = at.2 ∙ ap read_session r.3 in
          let k = keyed_session old.now book r.0 r.1 in
          let here = key_here k.0 r.0 k.1 in
          let own : k.0 ≡ key_of (session_in_columns (columns r.0)) = λ i. record
          { client = bytes (sym here.0 i); session = bytes (sym here.1 i) } in
          let found = ap (option_map (λ r. session_in_columns (columns r)))
          (found_is (is_session k.0) (db session.tree) r.0 r.1 k.1
          (λ s there passes. one_session old.now book k.0 s r.0 there r.1 passes k.1)) in
          let payer : column r.0 3 ≡ Blob account = equal_blob (column r.0 3) account
          (and_parts _ _ r.2).0 in (
            subst (λ m. (content_without_plans db).rows (key_of m) ≡ Some m) (sym is)
                (subst (λ key. (content_without_plans db).rows key ≡ Some (session_in_columns
                (columns r.0))) own found),
            (bytes_eq-Decides account member.account).1 (sym
                (ap (λ (m : RowFacts). m.account) is ∙ ap bytes payer)),
          )

      unlisted : ((content_without_plans db).rows (key_of member) ≡ Some member)
          × IsTrue (bytes_eq account member.account) → Contains (map read_session shown) member
      unlisted there =
          let r = found_row (λ r. session_in_columns (columns r)) (find (is_session (key_of member))
          (db session.tree)) member there.0 in
          let here = find_has (is_session (key_of member)) (db session.tree) r.0 r.1 in
          let payer = session_account old.now book r.0 here.0 in
          let same : account ≡ payer.0 = (bytes_eq-Decides account member.account).0 there.1
          ∙ (ap (λ (m : RowFacts). m.account) (sym r.2) ∙ ap bytes payer.1) in
          let passes : equal Binary (column r.0 3) (Blob account)
          ≡ true = subst (λ v. equal Binary v (Blob account) ≡ true)
          (ap Blob same ∙ sym payer.1) (blob_equal account) in
          let row = has_shown session.tree sessions_filter session_shown by_key Null db params shown
          answer r.0 here.0 (and_from _ _ passes refl) in
          contains_had (map read_session shown) member (subst (Has (map read_session shown)) r.2
          (map_has read_session shown _ row))

  abbrev read_topup : Row → TopUpFacts
  read_topup r = topup_in_columns (column r)

  pub topups_each : Shown texts.TOPUPS_OF_ACCOUNT.now (Blob account ∷ []) old new shown
      → (member : TopUpFacts) → Contains (map read_topup shown) member
      ↔ (((content_in_tables db).topups member.voucher ≡ Some member)
      × IsTrue (bytes_eq account member.account))
  topups_each h member = (listed, unlisted)
    where
      answer : IsAnswerAs Null (over_table voucher.tree topups_filter topup_shown by_name all_rows)
          db params shown
      answer = answer_of topups_of_account params old new shown book.schema h

      listed : Contains (map read_topup shown) member → ((content_in_tables db).topups
          member.voucher ≡ Some member) × IsTrue (bytes_eq account member.account)
      listed there =
          let at = has_mapped read_topup shown member (has_contained (map read_topup shown) member
          there) in
          let r = shown_has voucher.tree topups_filter topup_shown by_name Null db params shown
          answer at.0 at.1 in
          let is : member ≡ topup_in_columns (columns r.0) = at.2 ∙ ap read_topup r.3 in
          let k = keyed_voucher old.now book r.0 r.1 in
          let own : k.0 ≡ bytes (column r.0 1) = sym (ap bytes (text_is k.0 (column r.0 1) k.1)) in
          let found = ap (option_map (λ r. topup_in_columns (columns r)))
          (found_is (is_voucher k.0) (db voucher.tree) r.0 r.1 k.1
          (λ s there passes. one_voucher old.now book k.0 s r.0 there r.1 passes k.1)) in
          let payer : column r.0 2 ≡ Blob account = equal_blob (column r.0 2) account
          (and_parts _ _ r.2).0 in (
            subst (λ (m : TopUpFacts). (content_in_tables db).topups m.voucher ≡ Some m) (sym is)
                (subst (λ key. (content_in_tables db).topups key ≡ Some (topup_in_columns
                (columns r.0))) own found),
            (bytes_eq-Decides account member.account).1 (sym
                (ap (λ (m : TopUpFacts). m.account) is ∙ ap bytes payer)),
          )

      unlisted : ((content_in_tables db).topups member.voucher ≡ Some member)
          × IsTrue (bytes_eq account member.account) → Contains (map read_topup shown) member
      unlisted there =
          let r = found_row (λ r. topup_in_columns (columns r)) (find (is_voucher member.voucher)
          (db voucher.tree)) member there.0 in
          let here = find_has (is_voucher member.voucher) (db voucher.tree) r.0 r.1 in
          let payer = voucher_account old.now book r.0 here.0 in
          let same : account ≡ payer.0 = (bytes_eq-Decides account member.account).0 there.1
          ∙ (ap (λ (m : TopUpFacts). m.account) (sym r.2) ∙ ap bytes payer.1) in
          let passes : equal Binary (column r.0 2) (Blob account)
          ≡ true = subst (λ v. equal Binary v (Blob account) ≡ true)
          (ap Blob same ∙ sym payer.1) (blob_equal account) in
          let row = has_shown voucher.tree topups_filter topup_shown by_name Null db params shown
          answer r.0 here.0 (and_from _ _ passes refl) in
          contains_had (map read_topup shown) member (subst (Has (map read_topup shown)) r.2
          (map_has read_topup shown _ row))

-- ---- what a connection shows

module _ {S : Type 0} (g : Ghosts S) (old : Held S) (book : IsBook (state g old).now)
    (account : List ℕ) (shown : List Row) where
  pub rows_are : (rows : List RowFacts) → HasShown g old texts.SESSIONS_OF_ACCOUNT.now
      (Blob account ∷ []) shown → rows ≡ map (λ r. session_in_columns (column r)) shown
      → IsStrictlySortedBy key_cmp (map key_of rows) → AreRowsOf (bare_at g old) account rows
  rows_are rows h is sorted = record {
    in_order = sorted;
    each = λ member. subst (λ rs. Contains rs member ↔ (((bare_at g old).rows (key_of member)
        ≡ Some member) × IsTrue (bytes_eq account member.account))) (sym is)
        (sessions_each (state g (record old { in_transaction = true })) (state g h.0) account shown
        book h.1 member);
  }

  pub topups_are : (topups : List TopUpFacts) → HasShown g old texts.TOPUPS_OF_ACCOUNT.now
      (Blob account ∷ []) shown → topups ≡ map (λ r. topup_in_columns (column r)) shown
      → IsStrictlySortedBy octets_cmp (map (λ (t : TopUpFacts). t.voucher) topups)
      → AreTopUpsOf (content_at g old) account topups
  topups_are topups h is sorted = record {
    in_order = sorted;
    each = λ member. subst (λ ts. Contains ts member ↔ (((content_at g old).topups member.voucher
        ≡ Some member) × IsTrue (bytes_eq account member.account))) (sym is)
        (topups_each (state g (record old { in_transaction = true })) (state g h.0) account shown
        book h.1 member);
  }

-- ---- each before the next

module _ {K : Type 0} (cmp : K → K → Ordering) (total : IsTotalOrder cmp) where
  below_more : (x : K) (xs : List K) (last next : K) → AllByRecursion (λ y. cmp x y ≡ Less)
      (xs ++ last ∷ []) → cmp last next ≡ Less → AllByRecursion (λ y. cmp x y ≡ Less)
      ((xs ++ last ∷ []) ++ next ∷ [])
  below_more x [] last next h less = (h.0, (total.trans x last next h.0 less, tt))
  below_more x (y ∷ xs) last next h less = (h.0, below_more x xs last next h.1 less)

  pub ascends : (xs : List K) (last next : K) → IsStrictlySortedBy cmp (xs ++ last ∷ [])
      → cmp last next ≡ Less → IsStrictlySortedBy cmp ((xs ++ last ∷ []) ++ next ∷ [])
  unfolding IsStrictlySortedBy
  ascends [] last next h less = ((less, tt), (tt, tt))
  ascends (x ∷ xs) last next h less = (
    below_more x xs last next h.0 less,
    ascends xs last next h.1 less,
  )

  module _ {X : Type 0} (key : X → K) where
    pub ascends_first : (xs : List X) → IsStrictlySortedBy cmp (map key (take 1 xs))
    unfolding IsStrictlySortedBy
    ascends_first [] = tt
    ascends_first (x ∷ xs) = (tt, tt)

    -- the first ones ascend, and the next is above the last of them
    pub ascends_more : (xs : List X) (i : ℕ) (last next : X) → 0 < i → i < length xs → last
        ≡ get_or xs (i - 1) last → next ≡ get_or xs i next
        → IsStrictlySortedBy cmp (map key (take i xs))
        → cmp (key last) (key next) ≡ Less → IsStrictlySortedBy cmp (map key (take (i + 1) xs))
    ascends_more xs zero last next some within is will h less = absurd (omega arith)
    ascends_more xs (suc at) last next some within is will h less =
        let place : suc at - 1 ≡ at = omega arith in
        let was : last ≡ get_or xs at last = is ∙ ap (λ n. get_or xs n last) place in
        let up : suc at ≡ at + 1 = omega arith in
        let one : take (suc at) xs ≡ take at xs ++ last ∷ [] = ap (λ n. take n xs) up
        ∙ (take_more xs at last (omega arith) ∙ ap (λ x. take at xs ++ x ∷ []) (sym was)) in
        let two : take (suc at + 1) xs ≡ (take at xs ++ last ∷ []) ++ next ∷ [] = take_more xs
        (suc at) next within ∙ (ap (λ x. take (suc at) xs ++ x ∷ []) (sym will)
        ∙ ap (λ l. l ++ next ∷ []) one) in
        let keys : map key (take (suc at) xs) ≡ map key (take at xs) ++ key last ∷ [] = ap (map key)
        one ∙ map-append key (take at xs) (last ∷ []) in
        let all : map key (take (suc at + 1) xs) ≡ (map key (take at xs) ++ key last ∷ []) ++ key
        next ∷ [] =
        ap (map key) two ∙ (map-append key (take at xs ++ last ∷ []) (next ∷ [])
        ∙ ap (λ l. l ++ key next ∷ []) (map-append key (take at xs) (last ∷ []))) in
        subst (IsStrictlySortedBy cmp) (sym all) (ascends (map key (take at xs)) (key last)
        (key next) (subst (IsStrictlySortedBy cmp) keys h) less)

    pub ascends_all : (xs : List X) (i : ℕ) → length xs ≤ i
        → IsStrictlySortedBy cmp (map key (take i xs)) → IsStrictlySortedBy cmp (map key xs)
    ascends_all xs i whole h = subst (λ l. IsStrictlySortedBy cmp (map key l)) (take_all i xs whole)
        h
