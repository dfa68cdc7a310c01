-- A part of the accounts, one more account at a time.
use Rattle.std.proofs.Common.{◌≡◌, ℕ, ◌<◌, ◌≤◌, Bool, true, false, cond, ◌||◌, List, []}
use Rattle.std.proofs.Common.{◌∷◌, ◌++◌, length, take, zero, suc, refl, sym, ap, ◌∙◌, subst, arith}
use Rattle.std.proofs.lemmas.Bool.Decides.{nat_tests}
use Rattle.std.proofs.Math.Seq.{take-append_seam}
use Rattle.std.proofs.lemmas.Grind.{flat_map-append}
use Rattle.std.proofs.lemmas.List.{append-nil, length-append, take-append-le}
use Rattle.std.proofs.lemmas.List.Elements.{All-push, All-weaker}
use Rattle.std.specs.Prelude.{ℤ, Option, Some, None, All, MatchBool, nat_le, nat_lt}
use Rattle.acct_model.specs.declared.plan.Plan.{Plan}
use Rattle.acct_model.specs.History.{History}
use Rattle.acct_book.specs.Balance.{overrun_of}
use Rattle.acct_book.specs.Content.{Content}
use Rattle.acct_book.specs.Maps.{octets_cmp}
use Rattle.acct_book.specs.Part.{part_of, AreRowsIn}
use Rattle.acct_book.specs.Row.{RowFacts}
use Rattle.acct_book.specs.Stands.{Stands}
use Rattle.acct_book.specs.Walk.{IsNext, AreRowsOf}
use Rattle.acct_desk.specs.Handling.{known_balance}
use Rattle.acct_desk.specs.Overdrawn.{Looked, rows_looked, is_full, last_of, AreInTurn, HasRows}
use Rattle.acct_desk.specs.Overdrawn.{IsPartOf}
use Rattle.acct_desk.specs.Asks.{look, overdrawn}
use Rattle.acct_desk.specs.inner.Pages.{Shows}
use Rattle.acct_desk_pages.specs.declared.bodies.PageError.{PageError}
use Rattle.acct_desk_pages.specs.Logins.{is_open}
use Rattle.acct_desk_pages.specs.Overdrawn.{open_item, open_in, spelled_or_null}
use Rattle.acct_desk_pages.specs.Overdrawn.{open_sessions_body}
use Rattle.acct_book.specs.declared.book.Book.{Ghosts}
use Rattle.acct_book.specs.Step.{Looks, OnlyLooks}
use Rattle.std.specs.Prelude.{Result, Ok, Err, IfOk, codes}
use Rattle.std.specs.List.{filter_map}
use Rattle.serde_json.specs.Data.{Data, object, member, array, no_members}
use Rattle.serde_json.specs.View.{view, items_of}
use Rattle.serde_json.specs.Written.{has_float, items_have_float}
use Rattle.serde_json.specs.declared.value.Value.{Value}
use Rattle.acct_desk.proofs.PageLemmas.{rows_told, shows_body, cons_plain}

pub in_turn_more : (at : List ℕ → Option ℤ) (after : Option (List ℕ)) (accounts : List Looked)
    (l : Looked) → AreInTurn at after accounts
    → IsNext octets_cmp at (last_of after accounts) (Some (l.account, l.balance))
    → AreInTurn at after (accounts ++ l ∷ [])
in_turn_more at after [] l were next = (next, tt)
in_turn_more at after (m ∷ later) l were next =
    (were.0, in_turn_more at (Some m.account) later l were.1 next)

pub last_of-more : (after : Option (List ℕ)) (accounts : List Looked) (l : Looked)
    → last_of after (accounts ++ l ∷ []) ≡ Some l.account
last_of-more after [] l = refl
last_of-more after (m ∷ later) l = last_of-more (Some m.account) later l

-- what a book's content says, in a history that it stands for
has_rows_told : (plans : List Plan) (c : Content) (history : History) → Stands plans c history
    → (l : Looked) → HasRows (AreRowsOf c) l
    → HasRows (λ account rows. AreRowsIn (part_of plans history account) rows) l
has_rows_told plans c history st l has = by (nat_lt 0 (overrun_of l.balance)) has
  where
    by : (b : Bool) → MatchBool b (AreRowsOf c l.account l.rows) (l.rows ≡ [])
        → MatchBool b (AreRowsIn (part_of plans history l.account) l.rows) (l.rows ≡ [])
    by true has = rows_told plans c history l.account l.rows st has
    by false has = has

pub part_told : (plans : List Plan) (c : Content) (history : History) (after : Option (List ℕ))
    (accounts : List Looked) (next : Option (List ℕ)) → Stands plans c history
    → IsPartOf c.balances (AreRowsOf c) after accounts next
    → IsPartOf (known_balance plans history)
    (λ account rows. AreRowsIn (part_of plans history account) rows) after accounts next
part_told plans c history after accounts next st part = record {
  in_turn = subst (λ (at : List ℕ → Option ℤ). AreInTurn at after accounts)
      (λ i a. st.balances a i) part.in_turn;
  with_rows = All-weaker (HasRows (AreRowsOf c))
      (HasRows (λ account rows. AreRowsIn (part_of plans history account) rows))
      (has_rows_told plans c history st) accounts part.with_rows;
  open_before = part.open_before;
  ends = subst (λ (at : List ℕ → Option ℤ). MatchBool (is_full accounts)
      (next ≡ last_of after accounts)
      ((next ≡ None) × IsNext {X = ℤ} octets_cmp at (last_of after accounts) None))
      (λ i a. st.balances a i) part.ends;
}

-- ---- a part that goes on

-- how far a part got: the accounts that were looked at, and the last of them
pub record Begun (at : List ℕ → Option ℤ) (are_rows : List ℕ → List RowFacts → Type 0)
    (after : Option (List ℕ)) (accounts : List Looked) (to : Option (List ℕ)) : Type 0 where
  pub in_turn : AreInTurn at after accounts
  pub last : to ≡ last_of after accounts
  pub with_rows : All (HasRows are_rows) accounts

pub begun_more : (at : List ℕ → Option ℤ) (are_rows : List ℕ → List RowFacts → Type 0)
    (after : Option (List ℕ)) (accounts : List Looked) (to : Option (List ℕ)) (l : Looked)
    → Begun at are_rows after accounts to
    → IsNext octets_cmp at to (Some (l.account, l.balance)) → HasRows are_rows l
    → Begun at are_rows after (accounts ++ l ∷ []) (Some l.account)
begun_more at are_rows after accounts to l begun next has = record {
  in_turn = in_turn_more at after accounts l begun.in_turn
      (subst (λ t. IsNext octets_cmp at t (Some (l.account, l.balance))) begun.last next);
  last = sym (last_of-more after accounts l);
  with_rows = All-push (HasRows are_rows) accounts l begun.with_rows has;
}

-- ---- where a part is full

pub rows_looked-more : (accounts : List Looked) (l : Looked)
    → rows_looked (accounts ++ l ∷ []) ≡ rows_looked accounts ++ l.rows
rows_looked-more accounts l =
    flat_map-append (λ (m : Looked). m.rows) accounts (l ∷ [])
    ∙ ap (λ rs. rows_looked accounts ++ rs) (append-nil l.rows)

rows_of_front : (accounts : List Looked) (n : ℕ)
    → length (rows_looked (take n accounts)) ≤ length (rows_looked accounts)
rows_of_front accounts zero = omega arith
rows_of_front [] (suc n) = omega arith
rows_of_front (l ∷ rest) (suc n) =
    omega (
      arith,
      rows_of_front rest n,
      length-append l.rows (rows_looked (take n rest)),
      length-append l.rows (rows_looked rest),
    )

not_full : (n r : ℕ) → n < 5000 → r < 1000 → (nat_le 5000 n || nat_le 1000 r) ≡ false
not_full n r few low = grind (arith, nat_tests)

pub is_open_part : (accounts : List Looked) → length accounts < 5000
    → length (rows_looked accounts) < 1000 → is_full accounts ≡ false
is_open_part accounts few low = not_full (length accounts) (length (rows_looked accounts)) few low

pub full_of_accounts : (accounts : List Looked) → 5000 ≤ length accounts
    → is_full accounts ≡ true
full_of_accounts accounts many = by (length accounts) (length (rows_looked accounts)) many
  where
    by : (n r : ℕ) → 5000 ≤ n → (nat_le 5000 n || nat_le 1000 r) ≡ true
    by n r many = grind (arith, nat_tests)

pub full_of_rows : (accounts : List Looked) → 1000 ≤ length (rows_looked accounts)
    → is_full accounts ≡ true
full_of_rows accounts many = by (length accounts) (length (rows_looked accounts)) many
  where
    by : (n r : ℕ) → 1000 ≤ r → (nat_le 5000 n || nat_le 1000 r) ≡ true
    by n r many = grind (arith, nat_tests)

open_front : (accounts front : List Looked) → front ≡ take (length front) accounts
    → length (rows_looked accounts) < 1000 → length front < 5000 → is_full front ≡ false
open_front accounts front is low few =
    let fewer : length (rows_looked front) ≤ length (rows_looked accounts) =
    subst (λ f. length (rows_looked f) ≤ length (rows_looked accounts)) (sym is)
    (rows_of_front accounts (length front)) in
    is_open_part front few (omega (arith, fewer, low))

pub open_within : (accounts : List Looked) → length accounts ≤ 5000
    → length (rows_looked accounts) < 1000 → (front : List Looked) (last : Looked)
    (back : List Looked) → accounts ≡ front ++ last ∷ back → is_full front ≡ false
open_within accounts few low front last back is =
    open_front accounts front
    (sym (take-append_seam front (last ∷ back)) ∙ ap (take (length front)) (sym is)) low
    (omega (arith, few, ap length is, length-append front (last ∷ back)))

pub open_more : (accounts : List Looked) (l : Looked) → length accounts < 5000
    → length (rows_looked accounts) < 1000 → (front : List Looked) (last : Looked)
    (back : List Looked) → accounts ++ l ∷ [] ≡ front ++ last ∷ back → is_full front ≡ false
open_more accounts l few low front last back is =
    let within : length front ≤ length accounts = omega (
      arith,
      ap length is,
      length-append front (last ∷ back),
      length-append accounts (l ∷ []),
    ) in
    open_front accounts front
    (sym (take-append_seam front (last ∷ back)) ∙ ap (take (length front)) (sym is)
    ∙ take-append-le (length front) accounts (l ∷ []) within) low
    (omega (arith, within, few))

-- ---- what was looked at is told

item_plain : (row : RowFacts) → has_float (open_item row) ≡ false
unfolding open_item
item_plain row = refl

open_at : (row : RowFacts) (b : Bool) (d : Data) → cond b (Some (open_item row)) None ≡ Some d
    → has_float d ≡ false
open_at row true d e = ap has_float (let is : d ≡ open_item row = cc in is) ∙ item_plain row
open_at row false d e = absurd (cc)

open_plain : (rows : List RowFacts) → items_have_float (items_of (filter_map open_in rows)) ≡ false
open_plain [] = refl
open_plain (row ∷ rows) =
    cons_plain (open_in row) (filter_map open_in rows) (open_at row (is_open row))
    (open_plain rows)

spelled_plain : (next : Option (List ℕ)) → has_float (spelled_or_null next) ≡ false
spelled_plain None = refl
spelled_plain (Some account) = refl

sessions_plain : (next : Option (List ℕ)) (rows : List RowFacts)
    → has_float (open_sessions_body next rows) ≡ false
sessions_plain next rows = rw (spelled_plain next, open_plain rows) refl

pub part_shows : {B : Type 0} (plans : List Plan) (b : Ghosts B) (old new : B)
    (after : Option (List ℕ)) (accounts : List Looked) (next : Option (List ℕ))
    (result : Result Value PageError) → OnlyLooks b old new → (b.is_sound new → b.is_open new)
    → IfOk result (λ v. view v ≡ open_sessions_body next (rows_looked accounts))
    → (b.is_open new → IsPartOf (b.content old).balances (AreRowsOf (b.content old)) after
    accounts next)
    → Shows plans (look (overdrawn after)) b old new result
part_shows plans b old new after accounts next result reads opened is part =
    shows_body plans (look (overdrawn after)) b old new result
    (open_sessions_body next (rows_looked accounts)) reads opened is
    (sessions_plain next (rows_looked accounts))
    (λ o history st. record {
      accounts = accounts;
      next = next;
      part = part_told plans (b.content old) history after accounts next st (part o);
      is = refl;
    })

abbrev pub sessions_told : Option (List ℕ) → List Data → Data
sessions_told next items = object (member (codes "next") (spelled_or_null next)
    (member (codes "sessions") (array (items_of items)) no_members))

pub body_is : (result : Result Value PageError) (x y : Option (List ℕ)) (items : List Data)
    (rows : List RowFacts) → IfOk result (λ v. view v ≡ sessions_told x items) → x ≡ y
    → items ≡ filter_map open_in rows → IfOk result (λ v. view v ≡ open_sessions_body y rows)
body_is (Ok v) x y items rows is next same =
    is ∙ ap (λ o. sessions_told o items) next ∙ ap (sessions_told y) same
body_is (Err e) x y items rows is next same = tt

pub part_ended : (at : List ℕ → Option ℤ) (are_rows : List ℕ → List RowFacts → Type 0)
    (after : Option (List ℕ)) (accounts : List Looked) (to : Option (List ℕ))
    → Begun at are_rows after accounts to → length accounts < 5000
    → length (rows_looked accounts) < 1000 → IsNext {X = ℤ} octets_cmp at to None
    → IsPartOf at are_rows after accounts None
part_ended at are_rows after accounts to begun few low next = record {
  in_turn = begun.in_turn;
  with_rows = begun.with_rows;
  open_before = open_within accounts (omega (arith, few)) low;
  ends = subst (λ (f : Bool). MatchBool f (None ≡ last_of after accounts)
      ((◌≡◌ {A = Option (List ℕ)} None None)
      × IsNext {X = ℤ} octets_cmp at (last_of after accounts) None))
      (sym (is_open_part accounts few low))
      (refl, subst (λ t. IsNext {X = ℤ} octets_cmp at t None) begun.last next);
}

pub part_full : (at : List ℕ → Option ℤ) (are_rows : List ℕ → List RowFacts → Type 0)
    (after : Option (List ℕ)) (accounts : List Looked) (to : Option (List ℕ))
    → Begun at are_rows after accounts to → is_full accounts ≡ true
    → ((front : List Looked) (last : Looked) (back : List Looked) → accounts ≡ front ++ last ∷ back
    → is_full front ≡ false) → IsPartOf at are_rows after accounts to
part_full at are_rows after accounts to begun full before = record {
  in_turn = begun.in_turn;
  with_rows = begun.with_rows;
  open_before = before;
  ends = subst (λ (f : Bool). MatchBool f (to ≡ last_of after accounts)
      ((to ≡ None) × IsNext {X = ℤ} octets_cmp at (last_of after accounts) None))
      (sym full) begun.last;
}

-- ---- one more account

module _ {B : Type 0} (b : Ghosts B) (old mid next new : B) {T E : Type 0} (result : Result T E)
    (before : OnlyLooks b old mid) (call : Looks b mid next result) (later : OnlyLooks b next new)
  where
    pub looks_all : OnlyLooks b old new
    looks_all = record {
      was_sound = λ sound. before.was_sound (call.was_sound (later.was_sound sound));
      was_open = λ still. before.was_open (call.was_open (later.was_open still));
      keeps_steady = λ steady. later.keeps_steady (call.keeps_steady (before.keeps_steady steady));
      same = λ still. later.same still ∙ call.same (later.was_open still)
          ∙ before.same (call.was_open (later.was_open still));
      adds_none = λ sound c left.
          before.adds_none (call.was_sound (later.was_sound sound)) c
          (call.adds_none (later.was_sound sound) c (later.adds_none sound c left));
    }

    pub begun_step : (after to : Option (List ℕ)) (accounts : List Looked) (l : Looked)
        → (b.is_open mid
        → Begun (b.content old).balances (AreRowsOf (b.content old)) after accounts to)
        → (b.is_open next
        → IsNext octets_cmp (b.content old).balances to (Some (l.account, l.balance)))
        → (b.is_open new → HasRows (AreRowsOf (b.content next)) l) → b.is_open new
        → Begun (b.content old).balances (AreRowsOf (b.content old)) after (accounts ++ l ∷ [])
        (Some l.account)
    begun_step after to accounts l begun found has o =
        let was = later.was_open o in
        let same = call.same was ∙ before.same (call.was_open was) in
        begun_more (b.content old).balances (AreRowsOf (b.content old)) after accounts to l
        (begun (call.was_open was)) (found was)
        (subst (λ (c : Content). HasRows (AreRowsOf c) l) same (has o))
