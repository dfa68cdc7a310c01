-- Some of an account's rows are in the content, each also without those before it.
use Rattle.std.proofs.Common.{◌≡◌, ◌≢◌, ℕ, Bool, true, false, cond, List, [], ◌∷◌, map, refl, sym}
use Rattle.std.proofs.Common.{ap}
use Rattle.std.proofs.Common.{◌∙◌, subst, not, ◌&&◌, true≢false, inl, inr}
use Rattle.std.specs.Prelude.{Option, Some, None, Contains, bytes_eq}
use Rattle.std.specs.List.{filter, AllByRecursion}
use Rattle.std.specs.List.Sorted.{IsStrictlySortedBy}
use Rattle.std.specs.Map.{update}
use Rattle.std.specs.declared.cmp.Ordering.TheVariants.{Less}
use Rattle.acct_model.proofs.Lists.{here, deeper, from_filter}
use Rattle.acct_model.proofs.Same.{Decides-false}
use Rattle.acct_book.specs.declared.key.Key.{Key}
use Rattle.acct_book.specs.Row.{RowFacts}
use Rattle.acct_book.specs.Content.{Content, same_key, key_of}
use Rattle.acct_book.specs.Maps.{key_cmp}
use Rattle.acct_book_forward.specs.Carrying.{SelectionFacts, is_line, stay_of}
use Rattle.std.proofs.Common.{take, zero, suc, is_none}
use Rattle.acct_model.proofs.Lists.{nowhere, front_or_behind}
use Rattle.acct_book_forward.specs.inner.Forwarding.{AreNoLines, AreIn, AreAllOf, AreTaken, goes}
use Rattle.acct_book_forward.specs.inner.Forwarding.{AreAmong}
use Rattle.acct_book.proofs.Keys.{Decides-same_key, octets_are}
use Rattle.acct_book.proofs.WalkLaws.{key_total}
use Rattle.acct_book.proofs.Fixed.{below_all, not_itself}

-- a later row has another key
differs : (x y : RowFacts) (xs : List RowFacts)
    → AllByRecursion (λ j. key_cmp (key_of x) j ≡ Less) (map key_of xs) → Contains xs y
    → key_of x ≢ key_of y
differs x y xs below there same =
    not_itself key_cmp key_total key_of (key_of x)
    (subst (λ k. key_cmp (key_of x) k ≡ Less) (sym same)
    (below_all key_cmp key_total key_of (key_of x) y xs below there))

are_in : (at : Key → Option RowFacts) (part : RowFacts → Bool) (rows : List RowFacts)
    → IsStrictlySortedBy key_cmp (map key_of rows)
    → ((row : RowFacts) → Contains rows row → at (key_of row) ≡ Some row)
    → AreIn at (filter part rows)
unfolding IsStrictlySortedBy
are_in at part [] sorted each = tt
are_in at part (x ∷ xs) sorted each =
    elim (part x) as (λ b. AreIn at (cond b (x ∷ filter part xs) (filter part xs))) [
      | true ↦ (
        each x (here x xs),
        are_in (update same_key at (key_of x) None) part xs sorted.1 (λ row there.
            ap (λ b. cond b None (at (key_of row)))
            (Decides-false (same_key (key_of x) (key_of row))
            (Decides-same_key (key_of x) (key_of row)) (differs x row xs sorted.0 there))
            ∙ each row (deeper x row xs there)),
      )
      | false ↦ are_in at part xs sorted.1 (λ row there. each row (deeper x row xs there))
    ]

are_all : (account class : List ℕ) (part : RowFacts → Bool) (rows : List RowFacts)
    → ((row : RowFacts) → Contains rows row → row.account ≡ account)
    → ((row : RowFacts) → part row ≡ true → row.plan ≡ class)
    → AreAllOf account class (filter part rows)
are_all account class part [] own planned = tt
are_all account class part (x ∷ xs) own planned =
    let rest = are_all account class part xs (λ row there. own row (deeper x row xs there)) planned
    in
    elim (part x) as (λ b. part x ≡ b
    → AreAllOf account class (cond b (x ∷ filter part xs) (filter part xs))) [
      | true ↦ λ e. ((own x (here x xs), planned x e), rest)
      | false ↦ λ e. rest
    ] refl

-- Of rows of an account, in order, those that pass a test and are of one plan may be carried
-- forward together.
pub parts_carried : (content : Content) (account class : List ℕ) (rows : List RowFacts)
    (part : RowFacts → Bool) → AreAmong content account rows
    → ((row : RowFacts) → part row ≡ true → row.plan ≡ class)
    → AreIn content.rows (filter part rows) × AreAllOf account class (filter part rows)
parts_carried content account class rows part are planned = (
  are_in content.rows part rows are.in_order (λ row there. (are.each row there).there),
  are_all account class part rows (λ row there. (are.each row there).own) planned,
)

-- ---- the rows that may go

first_true : (a b : Bool) → (a && b) ≡ true → a ≡ true
first_true true b e = refl
first_true false b e = e

second_true : (a b : Bool) → (a && b) ≡ true → b ≡ true
second_true true b e = e
second_true false b e = absurd (true≢false (sym e))

not_true : (a : Bool) → not a ≡ true → a ≡ false
not_true true e = absurd (true≢false (sym e))
not_true false e = refl

pub goes_class : (selection : SelectionFacts) (class : List ℕ) (row : RowFacts)
    → goes selection class row ≡ true → row.plan ≡ class
goes_class selection class row e = octets_are row.plan class (first_true _ _ e)

none_is : {X : Type 0} (o : Option X) → is_none o ≡ true → o ≡ None
none_is None e = refl
none_is (Some x) e = absurd (true≢false (sym e))

pub goes_taken : (selection : SelectionFacts) (class : List ℕ) (row : RowFacts)
    → goes selection class row ≡ true → stay_of selection row ≡ None
goes_taken selection class row e =
    none_is (stay_of selection row) (second_true (bytes_eq row.plan class) _ e)

-- ---- the first of them

in_first : (at : Key → Option RowFacts) (n : ℕ) (rows : List RowFacts) → AreIn at rows
    → AreIn at (take n rows)
in_first at zero rows are = tt
in_first at (suc n) [] are = tt
in_first at (suc n) (row ∷ rows) (one, are) =
    (one, in_first (update same_key at (key_of row) None) n rows are)

all_first : (account class : List ℕ) (n : ℕ) (rows : List RowFacts)
    → AreAllOf account class rows → AreAllOf account class (take n rows)
all_first account class zero rows are = tt
all_first account class (suc n) [] are = tt
all_first account class (suc n) (row ∷ rows) (one, are) =
    (one, all_first account class n rows are)

from_take : (n : ℕ) (rows : List RowFacts) (row : RowFacts) → Contains (take n rows) row
    → Contains rows row
from_take zero rows row there = absurd (nowhere row there)
from_take (suc n) [] row there = there
from_take (suc n) (x ∷ rows) row there = elim (front_or_behind x row (take n rows) there) [
  | inl same ↦ subst (Contains (x ∷ rows)) same (here x rows)
  | inr behind ↦ deeper x row rows (from_take n rows row behind)
]

-- a row that the selection takes is of a client that is no line
pub taken_apart : (selection : SelectionFacts) (row : RowFacts) → stay_of selection row ≡ None
    → is_line row.client ≡ false
taken_apart selection row taken =
    elim (is_line row.client) as (λ b. is_line row.client ≡ b → is_line row.client ≡ false) [
      | true ↦ λ e. absurd (cc)
      | false ↦ λ e. e
    ] refl

-- ---- a batch

-- the first rows of an account's that go
abbrev pub IsBatch : SelectionFacts → List ℕ → List RowFacts → List RowFacts → Type 0
IsBatch selection class rows batch =
    (count : ℕ) × (batch ≡ take count (filter (goes selection class) rows))

pub batch_taken : (selection : SelectionFacts) (class : List ℕ) (rows batch : List RowFacts)
    → IsBatch selection class rows batch → AreTaken selection batch
batch_taken selection class rows batch (count, is) row there =
    let among = from_take count (filter (goes selection class) rows) row
    (subst (λ xs. Contains xs row) is there) in
    goes_taken selection class row (from_filter (goes selection class) rows row among).1

pub batch_apart : (selection : SelectionFacts) (class : List ℕ) (rows batch : List RowFacts)
    → IsBatch selection class rows batch → AreNoLines batch
batch_apart selection class rows batch is row there =
    taken_apart selection row (batch_taken selection class rows batch is row there)

pub batch_there : (selection : SelectionFacts) (class : List ℕ) (rows batch : List RowFacts)
    (content : Content) (account : List ℕ) → IsBatch selection class rows batch
    → AreAmong content account rows → (row : RowFacts) → Contains batch row
    → content.rows (key_of row) ≡ Some row
batch_there selection class rows batch content account (count, is) are row there =
    let among = from_take count (filter (goes selection class) rows) row
    (subst (λ xs. Contains xs row) is there) in
    (are.each row (from_filter (goes selection class) rows row among).0).there

pub batch_stands : (selection : SelectionFacts) (class : List ℕ) (rows batch : List RowFacts)
    (content : Content) (account : List ℕ) → IsBatch selection class rows batch
    → AreAmong content account rows
    → AreIn content.rows batch × AreAllOf account class batch
batch_stands selection class rows batch content account (count, is) are =
    let parts = parts_carried content account class rows (goes selection class) are
    (goes_class selection class) in (
      subst (AreIn content.rows) (sym is)
          (in_first content.rows count (filter (goes selection class) rows) parts.0),
      subst (AreAllOf account class) (sym is)
          (all_first account class count (filter (goes selection class) rows) parts.1),
    )
