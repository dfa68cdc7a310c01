-- Parts of the accounts, one after the other, are the whole.
use Rattle.std.proofs.Common.{◌≡◌, ℕ, Bool, true, false, List, [], ◌∷◌, ◌++◌}
use Rattle.std.proofs.Common.{map, refl, sym, subst}
use Rattle.std.proofs.lemmas.List.Elements.{All-append, All-nil}
use Rattle.std.proofs.lemmas.Map.Lookups.{exact_bytes}
use Rattle.std.specs.Cmp.Lexicographic.{nat_list_cmp_total}
use Rattle.std.specs.Prelude.{ℤ, Option, Some, None, All, MatchBool}
use Rattle.acct_book.specs.Maps.{octets_cmp}
use Rattle.acct_book.specs.Row.{RowFacts}
use Rattle.acct_book.specs.Walk.{IsNext, IsWalk}
use Rattle.acct_book.specs.Part.{part_of, AreRowsIn}
use Rattle.acct_book.proofs.WalkLaws.{walk-all}
use Rattle.acct_desk.specs.Handling.{known_balance}
use Rattle.acct_desk.specs.Overdrawn.{Looked, HasRows, AreInTurn, is_full, last_of}
use Rattle.acct_desk.specs.OverdrawnLaws.{AreParts, all_looked, balance_looked, PartsAreWhole}

module _ (at : List ℕ → Option ℤ) (are_rows : List ℕ → List RowFacts → Type 0) where
  in_turn_walk : (after : Option (List ℕ)) (accounts more : List Looked)
      → AreInTurn at after accounts
      → IsWalk octets_cmp at (last_of after accounts) (map balance_looked more)
      → IsWalk octets_cmp at after (map balance_looked (accounts ++ more))
  in_turn_walk after [] more turn walk = walk
  in_turn_walk after (l ∷ later) more turn walk =
      (turn.0, in_turn_walk (Some l.account) later more turn.1 walk)

  last_is : (account : List ℕ) (accounts : List Looked) → last_of (Some account) accounts ≡ None → ⊥
  last_is account [] none = absurd (cc)
  last_is account (l ∷ later) none = last_is l.account later none

  full_last : (after : Option (List ℕ)) (accounts : List Looked) → is_full accounts ≡ true
      → None ≡ last_of after accounts → ⊥
  full_last after [] full none = absurd (cc)
  full_last after (l ∷ later) full none = last_is l.account later (sym none)

  next_by : (b : Bool) (next : List ℕ) (after : Option (List ℕ)) (accounts : List Looked)
      → MatchBool b (Some next ≡ last_of after accounts)
      ((Some next ≡ None) × IsNext {X = ℤ} octets_cmp at (last_of after accounts) None)
      → Some next ≡ last_of after accounts
  next_by true next after accounts ends = ends
  next_by false next after accounts ends = absurd (let no = ends.0 in cc)

  end_by : (b : Bool) (after : Option (List ℕ)) (accounts : List Looked) → is_full accounts ≡ b
      → MatchBool b (None ≡ last_of after accounts)
      ((◌≡◌ {A = Option (List ℕ)} None None)
      × IsNext {X = ℤ} octets_cmp at (last_of after accounts) None)
      → IsNext {X = ℤ} octets_cmp at (last_of after accounts) None
  end_by true after accounts full ends = absurd (full_last after accounts full ends)
  end_by false after accounts full ends = ends.1

  walk_of : (after : Option (List ℕ)) (parts : List (List Looked × Option (List ℕ)))
      → AreParts at are_rows after parts
      → IsWalk octets_cmp at after (map balance_looked (all_looked parts))
  walk_of after [] are = absurd are
  walk_of after ((accounts, None) ∷ more) are =
      let part = are.0 in
      subst (λ (ps : List (List Looked × Option (List ℕ))).
      IsWalk octets_cmp at after (map balance_looked (accounts ++ all_looked ps))) (sym are.1)
      (in_turn_walk after accounts [] part.in_turn
      (end_by (is_full accounts) after accounts refl part.ends))
  walk_of after ((accounts, Some next) ∷ more) are =
      let part = are.0 in
      in_turn_walk after accounts (all_looked more) part.in_turn
      (subst (λ a. IsWalk octets_cmp at a (map balance_looked (all_looked more)))
      (next_by (is_full accounts) next after accounts part.ends)
      (walk_of (Some next) more are.1))

  rows_of : (after : Option (List ℕ)) (parts : List (List Looked × Option (List ℕ)))
      → AreParts at are_rows after parts → All (HasRows are_rows) (all_looked parts)
  rows_of after [] are = absurd are
  rows_of after ((accounts, None) ∷ more) are =
      subst (λ (ps : List (List Looked × Option (List ℕ))).
      All (HasRows are_rows) (accounts ++ all_looked ps)) (sym are.1)
      (All-append (HasRows are_rows) accounts [] are.0.with_rows (All-nil (HasRows are_rows)))
  rows_of after ((accounts, Some next) ∷ more) are =
      All-append (HasRows are_rows) accounts (all_looked more) are.0.with_rows
      (rows_of (Some next) more are.1)

pub parts_are_whole : PartsAreWhole
parts_are_whole plans history parts are =
    let rows : List ℕ → List RowFacts → Type 0 =
    λ account rows. AreRowsIn (part_of plans history account) rows in
    record {
      each = walk-all octets_cmp nat_list_cmp_total exact_bytes (known_balance plans history) None
          (map balance_looked (all_looked parts))
          (walk_of (known_balance plans history) rows None parts are);
      with_rows = rows_of (known_balance plans history) rows None parts are;
    }
