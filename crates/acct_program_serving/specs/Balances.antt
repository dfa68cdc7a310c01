-- The files of balances that a server writes between its slices, in the words of a history.
use Rattle.std.specs.Prelude.{◌≡◌, ◌↔◌, ℕ, ℤ, List, [], ◌∷◌, ◌++◌, Option, Contains, true}
use Rattle.std.specs.List.Sorted.{IsStrictlySortedBy}
use Rattle.std.specs.Map.{keys_of}
use Rattle.acct_model.specs.declared.plan.Plan.{Plan}
use Rattle.acct_model.specs.History.{History, is_known, balance_of}
use Rattle.acct_book.specs.declared.book.Book as book
use Rattle.acct_book.specs.Maps.{octets_cmp}
use Rattle.acct_book.specs.Stands.{Stands}
use Rattle.acct_service.specs.declared.exchange.Call.{Call}
use Rattle.acct_service.specs.Machine.{Visit, Run}
use Rattle.acct_service.specs.Slices.{Slice, GoOneByOne}
use Rattle.acct_program_commands.specs.Placed.{balances_text}
use Rattle.acct_program_commands.specs.Rounds.{GoesRound, RoundState}
use Rattle.acct_program_serving.specs.Serving.{RoundsAfter}

-- the accounts that a history knows and no other, each once, in the order of their names, with their
-- balances
pub record AreBalancesOf (plans : List Plan) (history : History) (entries : List (List ℕ × ℤ))
    : Type 0 where
  pub in_order : IsStrictlySortedBy octets_cmp (keys_of entries)
  pub each : (account : List ℕ) (balance : ℤ) → Contains entries (account, balance)
      ↔ ((is_known history account ≡ true) × (balance_of plans history account ≡ balance))

-- A file was put in its place into which the header of `export balances` was written, a line for
-- each account of this history, and nothing else.
abbrev pub PutsBalancesOf : (List ℕ → Type 0) → List Plan → History → Type 0
PutsBalancesOf Put plans history =
    (entries : List (List ℕ × ℤ)) × AreBalancesOf plans history entries
    × Put (balances_text entries)

-- After each slice the round goes on, and the file of balances that it puts in its place has those
-- of the history to which all visits so far lead. `seen` are those before the first slice.
abbrev pub RoundsTell : (List ℕ → List ℕ → Type 0) → List Plan → History → List Visit
    → RoundState → List Slice → RoundState → Type 0
RoundsTell Put plans history seen known [] last = known ≡ last
RoundsTell Put plans history seen known (slice ∷ later) last =
    (after : History) × Run plans history (seen ++ slice.visits) after
    × (next : RoundState)
    × GoesRound (λ name. PutsBalancesOf (Put name) plans after) slice.site.plans known slice.given
    next
    × RoundsTell Put plans history (seen ++ slice.visits) next later last

-- So it is in each run whose book is open at the end, from each history for which its content stood.
abbrev pub BalancesAreTold : {B : Type 0} → book.Ghosts B → (List ℕ → List ℕ → Type 0) → Type 0
BalancesAreTold {B} b Put = (plans : List Plan) (slices : List Slice) (old new : B)
    (told later : Option (List Call)) (known last : RoundState)
    → GoOneByOne b plans slices old new told later
    → RoundsAfter Put (b.is_open new) known slices last → b.is_open new
    → (history : History) → Stands plans (b.content old) history
    → RoundsTell Put plans history [] known slices last
