-- What the query of an account's keys shows of a book.
use Rattle.std.proofs.Common.{◌≡◌, ℕ, List, [], ◌∷◌, true, Some, map, refl, sym, ap, subst, ◌∙◌}
use Rattle.std.proofs.Common.{find, option_map}
use Rattle.std.specs.Prelude.{◌↔◌, Contains}
use Rattle.std.specs.List.Sorted.{IsStrictlySortedBy}
use Rattle.std.proofs.lemmas.Bool.{and_parts, and_from}
use Rattle.sqlite.specs.declared.types.Value.TheVariants.{Null, Blob}
use Rattle.sqlite_value.specs.Order.{bytes}
use Rattle.sqlite.specs.Collation.TheVariants.{Binary}
use Rattle.sqlite.specs.Order.{Row, column}
use Rattle.sqlite.specs.Query.{IsAnswerAs}
use Rattle.sqlite.specs.Store.{Ghosts}
use Rattle.sqlite.specs.Held.{Held, state}
use Rattle.sqlite.specs.State.{State, Shown}
use Rattle.sqlite_schema.specs.Rules.{equal}
use Rattle.sqlite_rules.specs.Lists.{Has}
use Rattle.sqlite_rules.proofs.ListLemmas.{has_contained, contains_had}
use Rattle.acct_book.specs.declared.key.Key.{Key}
use Rattle.acct_book.specs.Row.{RowFacts}
use Rattle.acct_book.specs.Maps.{key_cmp}
use Rattle.acct_book.specs.Walk.{AreKeysOf}
use Rattle.acct_sql_tables.specs.Tables.{session}
use Rattle.acct_sql_tables.specs.Columns.{session_in_columns, columns}
use Rattle.acct_sql_tables.specs.Content.{is_session, content_without_plans, with_plan}
use Rattle.acct_sql_tables.specs.Book.{IsBook, content_at}
use Rattle.acct_sql_tables.specs.inner.AtRest.{HasShown, plans_at}
use Rattle.acct_sql_tables.specs.inner.Columns.{key_in_columns}
use Rattle.acct_sql_tables.specs.declared.statements.TheConstants as texts
use Rattle.acct_sql_tables.proofs.TextLemmas.{key_shown, sessions_filter, by_key, keys_of_account}
use Rattle.acct_sql_tables.proofs.QueryLemmas.{over_table, all_rows, shown_has, has_shown}
use Rattle.acct_sql_tables.proofs.QueryLemmas.{answer_of, has_mapped, map_has}
use Rattle.acct_sql_tables.proofs.FindLemmas.{find_has, found_is}
use Rattle.acct_sql_tables.proofs.ValueLemmas.{equal_blob, blob_equal}
use Rattle.acct_sql_tables.proofs.KeyLemmas.{one_session}
use Rattle.acct_sql_tables.proofs.KeyedLemmas.{keyed_session, session_account}
use Rattle.acct_sql_tables.proofs.SessionLemmas.{key_here}
use Rattle.acct_sql_tables.proofs.ListLemmas.{found_row}
use Rattle.acct_sql_tables.proofs.PlanReadLemmas.{own_account, session_was}

abbrev read_key : Row → Key
read_key r = key_in_columns (column r)

module _ (old new : State) (account : List ℕ) (shown : List Row) (book : IsBook old.now) where
  abbrev params : Row
  params = Blob account ∷ []

  abbrev db : Rattle.sqlite.specs.Tree.Trees
  db = old.now.trees

  abbrev HasRow : Key → Type 0
  HasRow key = (row : RowFacts) × ((content_without_plans db).rows key ≡ Some row)
      × (row.account ≡ account)

  keys_each : Shown texts.KEYS_OF_ACCOUNT.now (Blob account ∷ []) old new shown
      → (key : Key) → Contains (map read_key shown) key ↔ HasRow key
  keys_each h key = (listed, unlisted)
    where
      answer : IsAnswerAs Null (over_table session.tree sessions_filter key_shown by_key all_rows)
          db params shown
      answer = answer_of keys_of_account params old new shown book.schema h

      listed : Contains (map read_key shown) key → HasRow key
      listed there =
          let at = has_mapped read_key shown key (has_contained (map read_key shown) key there) in
          let r = shown_has session.tree sessions_filter key_shown by_key Null db params shown
          answer at.0 at.1 in
          let is : key ≡ record { client = bytes (column r.0 1); session = bytes (column r.0 2) } =
          at.2 ∙ ap read_key r.3 in
          let k = keyed_session old.now book r.0 r.1 in
          let here = key_here k.0 r.0 k.1 in
          let own : k.0 ≡ record
          { client = bytes (column r.0 1); session = bytes (column r.0 2) } = λ i. record
          { client = bytes (sym here.0 i); session = bytes (sym here.1 i) } in
          let found = ap (option_map (λ r. session_in_columns (columns r)))
          (found_is (is_session k.0) (db session.tree) r.0 r.1 k.1
          (λ s there passes. one_session old.now book k.0 s r.0 there r.1 passes k.1)) in
          let payer : column r.0 3 ≡ Blob account = equal_blob (column r.0 3) account
          (and_parts _ _ r.2).0 in (
            session_in_columns (columns r.0),
            subst (λ j. (content_without_plans db).rows j ≡ Some (session_in_columns
                (columns r.0))) (own ∙ sym is) found,
            ap bytes payer,
          )

      unlisted : HasRow key → Contains (map read_key shown) key
      unlisted there =
          let r = found_row (λ r. session_in_columns (columns r)) (find (is_session key)
          (db session.tree)) there.0 there.1 in
          let here = find_has (is_session key) (db session.tree) r.0 r.1 in
          let parts = key_here key r.0 here.1 in
          let payer = session_account old.now book r.0 here.0 in
          let same : account ≡ payer.0 = sym there.2
          ∙ (ap (λ (m : RowFacts). m.account) (sym r.2) ∙ ap bytes payer.1) in
          let passes : equal Binary (column r.0 3) (Blob account)
          ≡ true = subst (λ v. equal Binary v (Blob account) ≡ true)
          (ap Blob same ∙ sym payer.1) (blob_equal account) in
          let row = has_shown session.tree sessions_filter key_shown by_key Null db params shown
          answer r.0 here.0 (and_from _ _ passes refl) in
          let named : record { client = bytes (column r.0 1); session = bytes (column r.0 2) }
          ≡ key = λ i. record { client = bytes (parts.0 i); session = bytes (parts.1 i) } in
          contains_had (map read_key shown) key (subst (Has (map read_key shown)) named
          (map_has read_key shown _ row))

-- what a connection shows
module _ {S : Type 0} (g : Ghosts S) (old : Held S) (book : IsBook (state g old).now)
    (account : List ℕ) (shown : List Row) where
  pub keys_are : HasShown g old texts.KEYS_OF_ACCOUNT.now (Blob account ∷ []) shown
      → IsStrictlySortedBy key_cmp (map read_key shown)
      → AreKeysOf (content_at g old) account (map read_key shown)
  keys_are h sorted = record {
    in_order = sorted;
    each = λ key.
        let each = keys_each (state g (record old { in_transaction = true })) (state g h.0) account
        shown book h.1 key in
        let plan = plans_at g old key in (
          λ there.
              let bare = each.0 there in (
                with_plan plan bare.0,
                ap (option_map (with_plan plan)) bare.1,
                own_account plan bare.0 ∙ bare.2,
              ),
          λ there.
              let was = session_was plan ((content_without_plans (state g old).now.trees).rows key)
              there.0 there.1 in
              each.1 (
                was.0,
                was.1,
                sym (ap (λ (r : RowFacts). r.account) was.2 ∙ own_account plan was.0) ∙ there.2,
              ),
        );
  }
