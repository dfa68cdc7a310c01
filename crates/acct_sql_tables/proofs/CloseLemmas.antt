-- Closing the live sessions of a client, as what it makes of the content.
use Rattle.std.proofs.Common.{◌≡◌, ℕ, ℤ, zero, suc, pos, negsuc, ◌+◌, List, [], ◌∷◌, drop, Bool}
use Rattle.std.proofs.Common.{true, false, cond, Some, None, Option, find, option_map, slice_get}
use Rattle.std.proofs.Common.{refl, sym, ap, subst, ◌∙◌, true≢false, bytes_eq}
use Rattle.std.proofs.lemmas.Bool.{and_parts, and_from}
use Rattle.std.proofs.lemmas.Slice.Eq.{bytes_eq-Decides}
use Rattle.sqlite.specs.declared.types.Value.{Value}
use Rattle.sqlite.specs.declared.types.Value.TheVariants.{Null, Int, Real, Text, Blob}
use Rattle.sqlite.specs.Order.{Row, column}
use Rattle.sqlite_value.specs.Order.{bytes}
use Rattle.sqlite.specs.Term.{eval_all}
use Rattle.sqlite.specs.Kind.TheVariants as kind
use Rattle.sqlite.specs.Cast.{cast, cast_row}
use Rattle.sqlite.specs.Collation.TheVariants.{Binary}
use Rattle.sqlite_sql.specs.Ops.{binary}
use Rattle.sqlite.specs.State.{State}
use Rattle.sqlite.specs.Effect.{Database}
use Rattle.sqlite_schema.specs.declared.schema.Column.{Column}
use Rattle.sqlite_schema.specs.declared.schema.Keys.TheVariants.{Enforced}
use Rattle.sqlite_schema.specs.declared.schema.Constraint.TheVariants.{Datatype}
use Rattle.sqlite_schema.specs.Rules.{equal, is_of, has_affinity, are_typed, passes, Keeps}
use Rattle.sqlite_rules.specs.Lists.{Has}
use Rattle.sqlite_rules.proofs.ListLemmas.{all_has}
use Rattle.acct_book.specs.declared.key.Key.{Key}
use Rattle.acct_book.specs.declared.row.SessionState.{SessionState}
use Rattle.acct_book.specs.declared.row.SessionState.TheVariants.{Live, Closed, Stopped}
use Rattle.acct_book.specs.Row.{RowFacts}
use Rattle.acct_book.specs.Content.{closed_by, closed_row}
use Rattle.acct_sql_tables.specs.Tables.{book_schema, session}
use Rattle.acct_sql_tables.specs.Columns.{session_in_columns, columns, state_in, state_by_code}
use Rattle.acct_sql_tables.specs.Content.{is_session}
use Rattle.acct_sql_tables.specs.Book.{IsBook}
use Rattle.acct_sql_tables.proofs.TextLemmas.{close_filter, close_project}
use Rattle.acct_sql_tables.proofs.QueryLemmas.{meets}
use Rattle.acct_sql_tables.proofs.WriteLemmas.{update_mapped}
use Rattle.acct_sql_tables.proofs.FindLemmas.{find_has, find_mapped, IsMapped}
use Rattle.acct_sql_tables.proofs.ValueLemmas.{equal_text, text_equal, equal_int, int_equal}
use Rattle.acct_sql_tables.proofs.ValueLemmas.{cast_int}
use Rattle.acct_sql_tables.proofs.ValueLemmas.{cast_of_int, cast_of_text}
use Rattle.acct_sql_tables.proofs.KeyLemmas.{one_session}
use Rattle.acct_sql_tables.proofs.SessionLemmas.{IsUpdatedBy, key_here}

-- ---- each column is of its type

at_start : (cs : List Column) (vs : Row) (c : Column) (v : Value) → v ≡ column vs 0 → is_of c.kind v
    ≡ true → is_of c.kind (column vs 0) ≡ true
at_start cs vs c v is h = subst (λ w. is_of c.kind w ≡ true) is h

-- the columns of a STRICT table, which has no INTEGER PRIMARY KEY
abbrev pub AreStrict : List Column → Type 0
AreStrict [] = Unit {0}
AreStrict (c ∷ cs) = (c.is_strict ≡ true) × AreStrict cs

pub typed_at : (cs : List Column) (from : ℕ) (vs : Row) → AreStrict cs → are_typed None from cs vs
    ≡ true → (i : ℕ) (c : Column) → slice_get cs i ≡ Some c → is_of c.kind (column vs i) ≡ true
typed_at [] from vs strict h i c is = absurd cc
typed_at (d ∷ cs) from [] strict h i c is = refl
typed_at (d ∷ cs) from (v ∷ vs) strict h zero c is =
    let same : d ≡ c = cc in
    let suits : cond d.is_strict (is_of d.kind v) (has_affinity d.kind v)
    ≡ true = (and_parts _ _ h).0 in
    subst (λ e. is_of e.kind v ≡ true) same (rw strict.0 at suits)
typed_at (d ∷ cs) from (v ∷ vs) strict h (suc i) c is = typed_at cs (from + 1) vs strict.1
    (and_parts _ _ h).1 i c is

pub shifted : (r : Row) (i : ℕ) → column (drop 1 r) i ≡ column r (suc i)
shifted [] i = refl
shifted (v ∷ r) i = refl

-- each column of a row of `session` is of its type
pub typed : (db : Database) → IsBook db → (r : Row) → Has (db.trees session.tree) r
    → (i : ℕ) (c : Column) → slice_get session.columns i ≡ Some c → is_of c.kind (column r (suc i))
    ≡ true
typed db book r h i c is =
    let rules = subst (λ schema. Keeps Datatype schema db.trees) book.schema
    (book.sound.obeys.rules Datatype) in
    let row : passes Datatype book_schema db.trees session r
    ≡ true = all_has (λ row. passes Datatype book_schema db.trees session row ≡ true)
    (db.trees session.tree) r rules.1.1.1.1.0 h in
    let strict : AreStrict session.columns = (
      refl,
      (
        refl,
        (refl, (refl, (refl, (refl, (refl, (refl, (refl, (refl, (refl, (refl, (refl, tt))))))))))),
      ),
    )
    in
    subst (λ v. is_of c.kind v ≡ true) (shifted r i) (typed_at session.columns 0 (drop 1 r) strict
    (and_parts _ _ row).0 i c is)

-- ---- the state

live_if : (v : Value) → is_of kind.Integer v ≡ true → equal Binary v (Int (pos 0)) ≡ true
    → state_in v ≡ Live
unfolding binary
live_if Null h k = absurd (true≢false (sym k))
live_if (Int n) h k = ap state_by_code (equal_int n (pos 0) k)
live_if (Real x) h k = absurd (true≢false (sym h))
live_if (Text t) h k = absurd (true≢false (sym h))
live_if (Blob b) h k = absurd (true≢false (sym h))

live_int : (n : ℤ) → state_by_code n ≡ Live → n ≡ pos 0
live_int (pos zero) h = refl
live_int (pos (suc zero)) h = absurd cc
live_int (pos (suc (suc n))) h = absurd cc
live_int (negsuc n) h = absurd cc

if_live : (v : Value) → state_in v ≡ Live → equal Binary v (Int (pos 0)) ≡ true
if_live Null h = absurd cc
if_live (Int n) h = ap (λ m. equal Binary (Int m) (Int (pos 0))) (live_int n h) ∙ int_equal (pos 0)
if_live (Real x) h = absurd cc
if_live (Text t) h = absurd cc
if_live (Blob b) h = absurd cc

module _ (client : List ℕ) (old new : State) (count : ℕ) (book : IsBook old.now)
    (done : IsUpdatedBy close_filter close_project (Text client ∷ []) old new count) where
  abbrev params : Row
  params = Text client ∷ []

  abbrev met : Row → Bool
  met = meets session.tree close_filter close_project [] Null old.now.trees params

  abbrev made : Row → Row
  made r = cast_row session (drop 1 (eval_all close_project (params ∷ r ∷ [])))

  abbrev step : Row → Row
  step r = cond (met r) (made r) r

  mapped : IsMapped step (old.now.trees session.tree) (new.now.trees session.tree)
  mapped = update_mapped book_schema Enforced session close_filter close_project Null old.now.trees
      new.now.trees params done.answer done.selects (λ r. refl) (λ r. refl) book.sessions
      done.applies

  made_is : (r : Row) → Has (old.now.trees session.tree) r
      → made r ≡ cast kind.Integer (column r 0) ∷ column r 1 ∷ column r 2 ∷ column r 3 ∷ column r 4
      ∷ column r 5 ∷ column r 6 ∷ column r 7 ∷ column r 8 ∷ column r 9 ∷ Int (pos 1) ∷ Int
      (pos 11) ∷ column r 12 ∷ column r 13 ∷ []
  made_is r h =
      let at = typed old.now book r h in
      rw (
        cast_of_text (column r 1) (at 0 _ refl),
        cast_of_int (column r 5) (at 4 _ refl),
        cast_of_int (column r 6) (at 5 _ refl),
        cast_of_int (column r 7) (at 6 _ refl),
        cast_of_int (column r 8) (at 7 _ refl),
        cast_of_int (column r 9) (at 8 _ refl),
        cast_int (pos 1),
        cast_int (pos 11),
      ) refl

  keeps : (key : Key) (r : Row) → Has (old.now.trees session.tree) r → is_session key (step r)
      ≡ is_session key r
  keeps key r h = go (met r)
    where
      go : (b : Bool) → is_session key (cond b (made r) r) ≡ is_session key r
      go true = ap (is_session key) (made_is r h)
      go false = refl

  state_at : RowFacts → SessionState → RowFacts
  state_at = closed_row

  -- a row that is met is live and the client's, and is closed
  closed_met : (key : Key) (r : Row) → Has (old.now.trees session.tree) r → is_session key r ≡ true
      → (b : Bool) → met r ≡ b → session_in_columns (columns (cond b (made r) r))
      ≡ closed_by client (session_in_columns (columns r))
  closed_met key r h mine true is =
      let one = and_parts _ _ is in
      let two = and_parts _ _ one.1 in
      let named : bytes (column r 1) ≡ client = ap bytes (equal_text (column r 1) client one.0) in
      let yours : bytes_eq client (bytes (column r 1)) ≡ true =
      (bytes_eq-Decides client (bytes (column r 1))).1 (sym named) in
      let live : state_in (column r 10) ≡ Live = live_if (column r 10)
      (typed old.now book r h 9 _ refl) two.0 in
      ap (λ r. session_in_columns (columns r)) (made_is r h) ∙ rw (yours, live) refl
  closed_met key r h mine false is = other (bytes_eq client (bytes (column r 1))) refl
    where
      whole : RowFacts
      whole = session_in_columns (columns r)

      stays : (s : SessionState) → state_in (column r 10) ≡ s → (s ≡ Live → ⊥) → whole
          ≡ closed_row whole s
      stays Live is live = absurd (live refl)
      stays Closed is live = refl
      stays Stopped is live = refl

      other : (b : Bool) → bytes_eq client (bytes (column r 1)) ≡ b → whole
          ≡ cond b (closed_row whole whole.state) whole
      other false apart = refl
      other true yours =
          let k = key_here key r mine in
          let client_is : client ≡ key.client = (bytes_eq-Decides client (bytes (column r 1))).0
          yours ∙ ap bytes k.0 in
          let first : equal Binary (column r 1) (Text client)
          ≡ true = rw (k.0, client_is) (text_equal key.client) in
          stays (state_in (column r 10)) refl (λ live. true≢false
          (sym (and_from _ _ first (and_from _ _ (if_live (column r 10) live) refl)) ∙ is))

  shown : (key : Key) (o : Option Row) → ((r : Row) → o ≡ Some r → Has (old.now.trees session.tree)
      r × (is_session key r ≡ true))
      → option_map (λ r. session_in_columns (columns r)) (option_map step o)
      ≡ option_map (closed_by client) (option_map (λ r. session_in_columns (columns r)) o)
  shown key None h = refl
  shown key (Some r) h = ap Some (closed_met key r (h r refl).0 (h r refl).1 (met r) refl)

  pub closed_rows : (key : Key) → option_map (λ r. session_in_columns (columns r))
      (find (is_session key) (new.now.trees session.tree)) ≡ option_map (closed_by client)
      (option_map (λ r. session_in_columns (columns r)) (find (is_session key)
      (old.now.trees session.tree)))
  closed_rows key =
      ap (option_map (λ r. session_in_columns (columns r))) (find_mapped (is_session key) step
      (old.now.trees session.tree) (new.now.trees session.tree) (one_session old.now book key)
      (λ r h. keeps key r h) mapped)
      ∙ shown key (find (is_session key) (old.now.trees session.tree))
      (λ r is. find_has (is_session key) (old.now.trees session.tree) r is)
