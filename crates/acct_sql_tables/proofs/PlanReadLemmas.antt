-- Sessions that are read with their plans.
use Rattle.std.proofs.Common.{◌≡◌, inl, ℕ, ◌+◌, ◌<◌, List, [], ◌∷◌, ◌++◌, true, Option}
use Rattle.std.proofs.Common.{Some, None, map, take, length, slice_index_or}
use Rattle.std.proofs.Common.{option_map, refl, sym, ap, subst, ◌∙◌, Ordering, Less, bytes_eq}
use Rattle.std.proofs.Common.{IsTrue}
use Rattle.std.specs.Prelude.{Contains}
use Rattle.std.specs.List.Sorted.{IsStrictlySortedBy}
use Rattle.std.proofs.lemmas.Bool.{and_parts}
use Rattle.std.proofs.lemmas.List.{map_more}
use Rattle.sqlite.specs.declared.types.Value.TheVariants.{Null, Text, Blob}
use Rattle.sqlite.specs.Order.{Row, column}
use Rattle.sqlite.specs.Query.{IsAnswerAs}
use Rattle.sqlite.specs.Store.{Ghosts}
use Rattle.sqlite.specs.Held.{Held, state}
use Rattle.sqlite.specs.State.{State, Shown}
use Rattle.sqlite_value.specs.Order.{bytes}
use Rattle.sqlite_rules.specs.Lists.{Has}
use Rattle.sqlite_rules.proofs.ListLemmas.{has_contained, contains_had}
use Rattle.acct_book.specs.declared.key.Key.{Key}
use Rattle.acct_book.specs.Row.{RowFacts}
use Rattle.acct_book.specs.Content.{Content, key_of}
use Rattle.acct_book.specs.Maps.{key_cmp}
use Rattle.acct_book.specs.Walk.{AreRowsOf, IsNextRow, IsPast, IsNext}
use Rattle.acct_sql_tables.specs.Tables.{session_plan}
use Rattle.acct_sql_tables.specs.Content.{is_session, plans_in_tables, with_plan, with_plans}
use Rattle.acct_sql_tables.specs.Book.{IsBook}
use Rattle.acct_sql_tables.specs.Laws.{key_of-with_plan}
use Rattle.acct_sql_tables.specs.inner.AtRest.{HasShown, HasPlan, planned, row_found}
use Rattle.acct_sql_tables.specs.inner.AtRest.{plans_at}
use Rattle.acct_sql_tables.specs.inner.Next.{IsLeast}
use Rattle.acct_sql_tables.specs.declared.statements.TheConstants as texts
use Rattle.acct_sql_tables.proofs.TextLemmas as t
use Rattle.acct_sql_tables.proofs.QueryLemmas.{over_table, all_rows, meets, shown_has, has_shown}
use Rattle.acct_sql_tables.proofs.QueryLemmas.{answer_of, has_mapped, map_has}
use Rattle.acct_sql_tables.proofs.FindLemmas.{not_true, found_is, none_is}
use Rattle.acct_sql_tables.proofs.ValueLemmas.{equal_blob, blob_equal, equal_text, text_equal}
use Rattle.acct_sql_tables.proofs.ValueLemmas.{is_its_text}
use Rattle.acct_sql_tables.proofs.ValueLemmas.{is_its_blob}
use Rattle.acct_sql_tables.proofs.KeyLemmas.{one_session_plan}
use Rattle.acct_sql_tables.proofs.SessionLemmas.{key_here}
use Rattle.acct_sql_tables.proofs.WalkLemmas.{keyed_row, next_is}

-- ---- what the query for a plan shows

pub plan_found : (key : Key) (old new : State) (rows : List Row) → IsBook old.now
    → Shown texts.PLAN_OF_SESSION.now (Text key.client ∷ Blob key.session ∷ []) old new rows
    → row_found (λ r. bytes (column r 0)) rows ≡ plans_in_tables old.now.trees key
plan_found key old new rows book h =
    go rows (answer_of t.plan_of_session (Text key.client ∷ Blob key.session ∷ []) old new rows
    book.schema h)
  where
    go : (shown : List Row) → IsAnswerAs Null (over_table session_plan.tree t.session_filter
        t.plan_class_shown [] all_rows) old.now.trees
        (Text key.client ∷ Blob key.session ∷ []) shown
        → row_found (λ r. bytes (column r 0)) shown ≡ plans_in_tables old.now.trees key
    go [] a = sym (ap (option_map (λ r. bytes (column r 3)))
        (none_is (is_session key) (old.now.trees session_plan.tree) (λ r there. not_true _ (λ mine.
        let k = key_here key r mine in
        let passes : meets session_plan.tree t.session_filter t.plan_class_shown [] Null
        old.now.trees (Text key.client ∷ Blob key.session ∷ []) r ≡ true = rw
        (k.0, k.1, text_equal key.client, blob_equal key.session) refl in
        has_shown session_plan.tree t.session_filter t.plan_class_shown [] Null old.now.trees
        (Text key.client ∷ Blob key.session ∷ []) [] a r there passes))))
    go (row ∷ more) a =
        let r = shown_has session_plan.tree t.session_filter t.plan_class_shown [] Null
        old.now.trees (Text key.client ∷ Blob key.session ∷ []) (row ∷ more) a row (inl refl) in
        let one = and_parts _ _ r.2 in
        let two = and_parts _ _ one.1 in
        let client = equal_text (column r.0 1) key.client one.0 in
        let id = equal_blob (column r.0 2) key.session two.0 in
        let mine : is_session key r.0 ≡ true = rw (
          client,
          id,
          is_its_text key.client,
          is_its_blob key.session,
        ) refl in
        let found = found_is (is_session key) (old.now.trees session_plan.tree) r.0 r.1 mine
        (λ s there passes. one_session_plan old.now book key s r.0 there r.1 passes mine) in
        ap (λ x. Some (bytes (column x 0))) r.3 ∙ sym (ap (option_map (λ r. bytes (column r 3)))
        found)

module _ {S : Type 0} (g : Ghosts S) (old : Held S) where
  pub plan_shown : (key : Key) (rows : List Row) → IsBook (state g old).now
      → HasShown g old texts.PLAN_OF_SESSION.now (Text key.client ∷ Blob key.session ∷ []) rows
      → row_found (λ r. bytes (column r 0)) rows ≡ plans_at g old key
  plan_shown key rows book h = plan_found key (state g (record old { in_transaction = true }))
      (state g h.0) rows book h.1

-- ---- one session

-- a plan leaves a session its account
pub own_account : (plan : Option (List ℕ)) (bare : RowFacts) → (with_plan plan bare).account
    ≡ bare.account
own_account None bare = refl
own_account (Some class) bare = refl

-- the session of a key with its plan, by the plan of its own key
pub row_planned : (plans : Key → Option (List ℕ)) (key : Key) (bare : Option RowFacts)
    → ((one : RowFacts) → bare ≡ Some one → key_of one ≡ key)
    → option_map (planned plans) bare ≡ option_map (with_plan (plans key)) bare
row_planned plans key None own = refl
row_planned plans key (Some bare) own = ap (λ k. Some (with_plan (plans k) bare)) (own bare refl)

-- ---- the session at the least key ahead

pub least_planned : (plans : Key → Option (List ℕ)) (rows : Key → Option RowFacts)
    (ahead : Key → Type 0) (bare : Option RowFacts)
    → IsLeast key_cmp rows ahead (option_map keyed_row bare)
    → IsLeast key_cmp (λ key. option_map (with_plan (plans key)) (rows key)) ahead
    (option_map keyed_row (option_map (planned plans) bare))
least_planned plans rows ahead None least = λ key far. ap (option_map (with_plan (plans key)))
    (least key far)
least_planned plans rows ahead (Some bare) least =
    let own = key_of-with_plan (plans (key_of bare)) bare in (
      subst (λ k. option_map (with_plan (plans k)) (rows k) ≡ Some (planned plans bare)) (sym own)
          (ap (option_map (with_plan (plans (key_of bare)))) least.0),
      subst ahead (sym own) least.1,
      λ key far less. ap (option_map (with_plan (plans key)))
          (least.2 key far (subst (λ k. key_cmp key k ≡ Less) own less)),
    )

is_next : {K X : Type 0} (cmp : K → K → Ordering) (at : K → Option X) (after : Option K)
    (o : Option (K × X)) → IsNext cmp at after o → IsLeast cmp at (IsPast cmp after) o
is_next cmp at after None h = h
is_next cmp at after (Some (k, x)) h = h

-- the same of the next after a key
pub next_planned : (plans : Key → Option (List ℕ)) (content : Content) (after : Option Key)
    (bare : Option RowFacts) → IsNextRow content after bare
    → IsNextRow (with_plans plans content) after (option_map (planned plans) bare)
next_planned plans content after bare next = next_is key_cmp (with_plans plans content).rows after
    (option_map keyed_row (option_map (planned plans) bare))
    (least_planned plans content.rows (IsPast key_cmp after) bare
    (is_next key_cmp content.rows after (option_map keyed_row bare) next))

-- ---- the sessions of a list

keys_same : (plans : Key → Option (List ℕ)) (bare : List RowFacts)
    → map key_of (map (planned plans) bare) ≡ map key_of bare
keys_same plans [] = refl
keys_same plans (b ∷ bare) =
    ap (λ k. k ∷ map key_of (map (planned plans) bare)) (key_of-with_plan (plans (key_of b)) b)
    ∙ ap (λ ks. key_of b ∷ ks) (keys_same plans bare)

-- the keys of a list in its order
pub bare_sorted : (plans : Key → Option (List ℕ)) (bare : List RowFacts)
    → IsStrictlySortedBy key_cmp (map key_of (map (planned plans) bare))
    → IsStrictlySortedBy key_cmp (map key_of bare)
bare_sorted plans bare = subst (IsStrictlySortedBy key_cmp) (keys_same plans bare)

-- a session of the content is one of the table with its plan
pub session_was : (plan : Option (List ℕ)) (bare : Option RowFacts) (row : RowFacts)
    → option_map (with_plan plan) bare ≡ Some row
    → (one : RowFacts) × (bare ≡ Some one) × (row ≡ with_plan plan one)
session_was plan None row h = absurd cc
session_was plan (Some one) row h = let same : with_plan plan one ≡ row = cc in
    (one, refl, sym same)

-- the rows of an account, each with its plan
pub rows_planned : (plans : Key → Option (List ℕ)) (content : Content) (account : List ℕ)
    (bare : List RowFacts)
    → ((key : Key) (row : RowFacts) → content.rows key ≡ Some row → key_of row ≡ key)
    → AreRowsOf content account bare
    → AreRowsOf (with_plans plans content) account (map (planned plans) bare)
rows_planned plans content account bare own are = record {
  in_order = subst (IsStrictlySortedBy key_cmp) (sym (keys_same plans bare)) are.in_order;
  each = λ member. (listed member, unlisted member);
}
  where
    listed : (member : RowFacts) → Contains (map (planned plans) bare) member
        → ((with_plans plans content).rows (key_of member) ≡ Some member)
        × IsTrue (bytes_eq account member.account)
    listed member there =
        let it = has_mapped (planned plans) bare member (has_contained (map (planned plans) bare)
        member there) in
        let was = (are.each it.0).0 (contains_had bare it.0 it.1) in
        let key = ap key_of it.2 ∙ key_of-with_plan (plans (key_of it.0)) it.0 in (
          subst (λ k. option_map (with_plan (plans k)) (content.rows k) ≡ Some member)
              (sym key) (ap (option_map (with_plan (plans (key_of it.0)))) was.0
              ∙ ap Some (sym it.2)),
          subst (λ a. IsTrue (bytes_eq account a))
              (sym (ap (λ (r : RowFacts). r.account) it.2
              ∙ own_account (plans (key_of it.0)) it.0)) was.1,
        )

    unlisted : (member : RowFacts) → ((with_plans plans content).rows (key_of member) ≡ Some member)
        × IsTrue (bytes_eq account member.account) → Contains (map (planned plans) bare) member
    unlisted member there =
        let it = session_was (plans (key_of member)) (content.rows (key_of member)) member there.0
        in
        let key = own (key_of member) it.0 it.1 in
        let payer = ap (λ (r : RowFacts). r.account) it.2
        ∙ own_account (plans (key_of member)) it.0 in
        let here = (are.each it.0).1 (
          subst (λ k. content.rows k ≡ Some it.0) (sym key) it.1,
          subst (λ a. IsTrue (bytes_eq account a)) payer there.1,
        ) in
        let same : planned plans it.0 ≡ member = ap (λ k. with_plan (plans k) it.0) key
        ∙ sym it.2 in
        contains_had (map (planned plans) bare) member (subst (Has (map (planned plans) bare)) same
        (map_has (planned plans) bare it.0 (has_contained bare it.0 here)))

-- one more session of a list
pub one_planned : (plans now : Key → Option (List ℕ)) → now ≡ plans → (f : Row → RowFacts)
    (rows : List Row) (at : ℕ) (row : Row) → at < length rows → row ≡ slice_index_or rows at row
    → (made : List RowFacts) → made ≡ map (λ r. planned plans (f r)) (take at rows)
    → (facts : RowFacts) → HasPlan now (f row) facts → (new : List RowFacts)
    → new ≡ made ++ facts ∷ [] → new ≡ map (λ r. planned plans (f r)) (take (at + 1) rows)
one_planned plans now same f rows at row lt is made before facts told new pushed =
    let mine : facts ≡ planned plans (f row) = told
    ∙ ap (λ (p : Key → Option (List ℕ)). planned p (f row)) same in
    pushed
    ∙ (ap (λ m. m ++ facts ∷ []) before
    ∙ (ap (λ y. map (λ r. planned plans (f r)) (take at rows) ++ y ∷ [])
    (mine ∙ ap (λ r. planned plans (f r)) is)
    ∙ sym (map_more (λ r. planned plans (f r)) rows at row lt)))

-- a map of a map
pub map_planned : (plans : Key → Option (List ℕ)) (f : Row → RowFacts) (rows : List Row)
    → map (λ r. planned plans (f r)) rows ≡ map (planned plans) (map f rows)
map_planned plans f [] = refl
map_planned plans f (row ∷ rows) = ap (λ l. planned plans (f row) ∷ l) (map_planned plans f rows)
