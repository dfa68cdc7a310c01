-- The laws of the book on tables.
use Rattle.std.proofs.Common.{◌≡◌, inl, inr, true≢false, Bool, true, false, cond, ℕ, List, [], ◌∷◌}
use Rattle.std.proofs.Common.{Option, Some, None, find, option_map, refl, sym, ap, ◌∙◌}
use Rattle.std.proofs.lemmas.Bool.{and_parts}
use Rattle.sqlite.specs.Order.{Row, column}
use Rattle.sqlite.specs.Tree.{Trees}
use Rattle.sqlite.specs.Effect.{Database}
use Rattle.sqlite_value.specs.Order.{bytes}
use Rattle.sqlite.specs.declared.types.Value.{Value}
use Rattle.sqlite.specs.declared.types.Value.TheVariants.{Null, Int, Real, Text, Blob}
use Rattle.std.proofs.lemmas.Slice.Eq.{bytes_eq-Decides}
use Rattle.acct_model.specs.Vouchers.{TopUpFacts}
use Rattle.acct_book.specs.declared.key.Key.{Key}
use Rattle.acct_book.specs.Content.{Content, HasOwnKeys, key_of}
use Rattle.acct_sql_tables.specs.Columns.{session_in_columns, topup_in_columns, columns, is_text}
use Rattle.acct_sql_tables.specs.Columns.{is_blob}
use Rattle.acct_book.specs.Row.{RowFacts}
use Rattle.acct_sql_tables.specs.Content.{is_session, is_voucher, content_in_tables, with_plan}
use Rattle.acct_sql_tables.specs.Content.{plans_in_tables, content_without_plans}
use Rattle.sqlite_rules.specs.Lists.{Has}
use Rattle.acct_sql_tables.specs.Tables.{voucher, session}

-- what was found passes, and is there
find_has : {X : Type 0} (p : X → Bool) (xs : List X) (r : X) → find p xs ≡ Some r → Has xs r
    × (p r ≡ true)
find_has p [] r h = absurd (cc)
find_has p (x ∷ xs) r h = go (p x) refl h (find_has p xs r)
  where
    go : (b : Bool) → p x ≡ b → cond b (Some x) (find p xs) ≡ Some r
        → (find p xs ≡ Some r → Has xs r × (p r ≡ true)) → Has (x ∷ xs) r × (p r ≡ true)
    go true is h rest = let same : x ≡ r = cc in (inl (sym same), ap p (sym same) ∙ is)
    go false is h rest = (inr (rest h).0, (rest h).1)

blob_is : (name : List ℕ) (v : Value) → is_blob name v ≡ true → v ≡ Blob name
blob_is name Null h = absurd (true≢false (sym h))
blob_is name (Int n) h = absurd (true≢false (sym h))
blob_is name (Real x) h = absurd (true≢false (sym h))
blob_is name (Text t) h = absurd (true≢false (sym h))
blob_is name (Blob b) h = ap Blob ((bytes_eq-Decides b name).0 h)

text_is : (name : List ℕ) (v : Value) → is_text name v ≡ true → v ≡ Text name
text_is name Null h = absurd (true≢false (sym h))
text_is name (Int n) h = absurd (true≢false (sym h))
text_is name (Real x) h = absurd (true≢false (sym h))
text_is name (Text t) h = ap Text ((bytes_eq-Decides t name).0 h)
text_is name (Blob b) h = absurd (true≢false (sym h))

key_here : (key : Key) (r : Row) → is_session key r ≡ true → (column r 1 ≡ Text key.client)
    × (column r 2 ≡ Blob key.session)
key_here key r h = let parts = and_parts _ _ h in (
  text_is key.client (column r 1) parts.0,
  blob_is key.session (column r 2) parts.1,
)

was_found : {X Y : Type 0} (f : X → Y) (o : Option X) (y : Y) → option_map f o ≡ Some y → (x : X)
    × (o ≡ Some x) × (y ≡ f x)
was_found f None y h = absurd cc
was_found f (Some x) y h = let same : f x ≡ y = cc in (x, refl, sym same)

-- a plan leaves a session its key
pub key_of-with_plan : (plan : Option (List ℕ)) (row : RowFacts) → key_of (with_plan plan row)
    ≡ key_of row
key_of-with_plan None row = refl
key_of-with_plan (Some class) row = refl

-- a row of the table `session` is kept under its own key
pub bare_key : (db : Trees) (key : Key) (row : RowFacts) → (content_without_plans db).rows key
    ≡ Some row → key_of row ≡ key
bare_key db key row is =
    let found = was_found (λ r. session_in_columns (columns r)) (find (is_session key)
    (db session.tree)) row is in
    let here = find_has (is_session key) (db session.tree) found.0 found.1 in
    let k = key_here key found.0 here.1 in
    ap key_of found.2 ∙ (λ i. record { client = bytes (k.0 i); session = bytes (k.1 i) })

pub own_keys : (db : Trees) → HasOwnKeys (content_in_tables db)
own_keys db = record {
  rows = λ key row is.
      let bare = was_found (with_plan (plans_in_tables db key))
      ((content_without_plans db).rows key)
      row is in
      ap key_of bare.2 ∙ (key_of-with_plan (plans_in_tables db key) bare.0
      ∙ bare_key db key bare.0 bare.1);
  topups = λ number topup is.
      let found = was_found (λ r. topup_in_columns (columns r)) (find (is_voucher number)
      (db voucher.tree)) topup is in
      let here = find_has (is_voucher number) (db voucher.tree) found.0 found.1 in
      ap (λ (t : TopUpFacts). t.voucher) found.2 ∙ ap bytes
      (text_is number (column found.0 1) here.1);
}

-- while the store is open, a crash leaves the last commit, which is the content
pub open_settled : {now committed : Database} {may_leave : Trees → Type 0}
    → ((db : Trees) → may_leave db → db ≡ committed.trees) → now ≡ committed
    → (c : Content) → (db : Trees) × may_leave db × (c ≡ content_in_tables db) → c
    ≡ content_in_tables now.trees
open_settled law same c left = left.2 ∙ (ap content_in_tables (law left.0 left.1)
    ∙ ap (λ (d : Database). content_in_tables d.trees) (sym same))
