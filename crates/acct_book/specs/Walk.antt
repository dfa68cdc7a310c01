-- What the calls that list members return, in the order of their keys.
use Rattle.std.specs.Prelude.{◌≡◌, ℕ, ℤ, ◌↔◌, Bool, IsTrue, bytes_eq, List, [], ◌∷◌, Option, Some}
use Rattle.std.specs.Prelude.{None, Contains, map, option_map}
use Rattle.std.specs.List.Sorted.{IsStrictlySortedBy}
use Rattle.std.specs.Map.{keys_of}
use Rattle.std.specs.declared.cmp.Ordering.{Ordering}
use Rattle.std.specs.declared.cmp.Ordering.TheVariants.{Less}
use Rattle.acct_model.specs.Vouchers.{TopUpFacts}
use Rattle.acct_book.specs.declared.key.Key.{Key}
use Rattle.acct_book.specs.Row.{RowFacts}
use Rattle.acct_book.specs.Content.{Content, key_of}
use Rattle.acct_book.specs.Maps.{octets_cmp, key_cmp}

-- past the start, if there is one
abbrev pub IsPast : {K : Type 0} → (K → K → Ordering) → Option K → K → Type 0
IsPast cmp None key = Unit {0}
IsPast cmp (Some start) key = cmp start key ≡ Less

-- the member at the least key past the start, or none if no key past it has a member
abbrev pub IsNext : {K X : Type 0} → (K → K → Ordering) → (K → Option X) → Option K
    → Option (K × X) → Type 0
IsNext {K} cmp at after None = (key : K) → IsPast cmp after key → at key ≡ None
IsNext {K} cmp at after (Some (least, member)) =
    (at least ≡ Some member) × IsPast cmp after least
    × ((key : K) → IsPast cmp after key → cmp key least ≡ Less → at key ≡ None)

-- this row is the next after a key, or there is none
abbrev pub IsNextRow : Content → Option Key → Option RowFacts → Type 0
IsNextRow content after row = IsNext key_cmp content.rows after
    (option_map (λ r. (key_of r, r)) row)

-- this account is the next after another, with its balance, or there is none
abbrev pub IsNextBalance : Content → Option (List ℕ) → Option (List ℕ × ℤ) → Type 0
IsNextBalance content after kept = IsNext octets_cmp content.balances after kept

-- this top-up is the next after a number, or there is none
abbrev pub IsNextTopUp : Content → Option (List ℕ) → Option TopUpFacts → Type 0
IsNextTopUp content after topup = IsNext octets_cmp content.topups after
    (option_map (λ t. (t.voucher, t)) topup)

-- each member that passes the test and no other, in the order of the keys
pub record AreMembers {K X : Type 0} (cmp : K → K → Ordering) (key : X → K) (at : K → Option X)
    (test : X → Bool) (members : List X) : Type 0 where
  pub in_order : IsStrictlySortedBy cmp (map key members)
  pub each : (member : X) → Contains members member
      ↔ ((at (key member) ≡ Some member) × IsTrue (test member))

-- the rows of an account
abbrev pub AreRowsOf : Content → List ℕ → List RowFacts → Type 0
AreRowsOf content account rows = AreMembers key_cmp key_of content.rows
    (λ row. bytes_eq account row.account) rows

-- the keys of the rows of an account and no other, each once, in their order
pub record AreKeysOf (content : Content) (account : List ℕ) (keys : List Key) : Type 0 where
  pub in_order : IsStrictlySortedBy key_cmp keys
  pub each : (key : Key) → Contains keys key
      ↔ ((row : RowFacts) × (content.rows key ≡ Some row) × (row.account ≡ account))

-- the top-ups of an account
abbrev pub AreTopUpsOf : Content → List ℕ → List TopUpFacts → Type 0
AreTopUpsOf content account topups = AreMembers octets_cmp (λ topup. topup.voucher) content.topups
    (λ topup. bytes_eq account topup.account) topups

-- a walk from a start on: each entry is the next after the one before, with none after the last
abbrev pub IsWalk : {K X : Type 0} → (K → K → Ordering) → (K → Option X) → Option K
    → List (K × X) → Type 0
IsWalk cmp at after [] = IsNext cmp at after None
IsWalk cmp at after ((key, member) ∷ rest) = IsNext cmp at after (Some (key, member))
    × IsWalk cmp at (Some key) rest

-- each entry past the start and no other, once and in order
pub record AreAllPast {K X : Type 0} (cmp : K → K → Ordering) (at : K → Option X) (after : Option K)
    (entries : List (K × X)) : Type 0 where
  pub in_order : IsStrictlySortedBy cmp (keys_of entries)
  pub each : (key : K) (member : X) → Contains entries (key, member)
      ↔ ((at key ≡ Some member) × IsPast cmp after key)

-- a walk meets each member past its start, once and in order
pub record WalksMeetAll (content : Content) : Type 0 where
  pub rows : (after : Option Key) (entries : List (Key × RowFacts))
      → IsWalk key_cmp content.rows after entries → AreAllPast key_cmp content.rows after entries
  pub balances : (after : Option (List ℕ)) (entries : List (List ℕ × ℤ))
      → IsWalk octets_cmp content.balances after entries
      → AreAllPast octets_cmp content.balances after entries
  pub topups : (after : Option (List ℕ)) (entries : List (List ℕ × TopUpFacts))
      → IsWalk octets_cmp content.topups after entries
      → AreAllPast octets_cmp content.topups after entries

-- what the calls that list members return is fixed by the content: two such lists are one
pub record ListsAreFixed (content : Content) : Type 0 where
  pub rows : (account : List ℕ) (these those : List RowFacts)
      → AreRowsOf content account these → AreRowsOf content account those → these ≡ those
  pub keys : (account : List ℕ) (these those : List Key)
      → AreKeysOf content account these → AreKeysOf content account those → these ≡ those
  pub topups : (account : List ℕ) (these those : List TopUpFacts)
      → AreTopUpsOf content account these → AreTopUpsOf content account those → these ≡ those
