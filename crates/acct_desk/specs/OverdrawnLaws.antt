-- The law of the open sessions of accounts below 0.
use Rattle.std.specs.Prelude.{◌≡◌, ℕ, ℤ, List, [], ◌∷◌, map, flat_map, All, Option, Some, None}
use Rattle.acct_model.specs.declared.plan.Plan.{Plan}
use Rattle.acct_model.specs.History.{History}
use Rattle.acct_book.specs.Part.{part_of, AreRowsIn}
use Rattle.acct_book.specs.Row.{RowFacts}
use Rattle.acct_desk.specs.Handling.{known_balance, AreBalances}
use Rattle.acct_desk.specs.Overdrawn.{Looked, HasRows, IsPartOf}

-- parts, each asked for from where the one before ends, up to the one after which none follows
abbrev pub AreParts : (List ℕ → Option ℤ) → (List ℕ → List RowFacts → Type 0) → Option (List ℕ)
    → List (List Looked × Option (List ℕ)) → Type 0
AreParts at are_rows after [] = ⊥
AreParts at are_rows after ((accounts, None) ∷ more) =
    IsPartOf at are_rows after accounts None × (more ≡ [])
AreParts at are_rows after ((accounts, Some next) ∷ more) =
    IsPartOf at are_rows after accounts (Some next) × AreParts at are_rows (Some next) more

-- the accounts of all parts
abbrev pub all_looked : List (List Looked × Option (List ℕ)) → List Looked
all_looked parts = flat_map (λ part. part.0) parts

-- an account with its balance
abbrev pub balance_looked : Looked → List ℕ × ℤ
balance_looked l = (l.account, l.balance)

-- Take the parts of one history, from the first to the last. They have each known account once, in
-- the order of accounts, with its balance, and with all its rows if that is below 0.
pub record AreAllLooked (plans : List Plan) (history : History) (accounts : List Looked) : Type 0
  where
    pub each : AreBalances plans history (map balance_looked accounts)
    pub with_rows : All (HasRows (λ account rows. AreRowsIn (part_of plans history account) rows))
        accounts

abbrev pub PartsAreWhole : Type 0
PartsAreWhole = (plans : List Plan) (history : History)
    (parts : List (List Looked × Option (List ℕ)))
    → AreParts (known_balance plans history)
    (λ account rows. AreRowsIn (part_of plans history account) rows) None parts
    → AreAllLooked plans history (all_looked parts)
