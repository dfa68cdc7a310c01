-- Properties of an entry and the history before it.
use Rattle.std.specs.Prelude.{◌≡◌, ◌≢◌, ℕ, ℤ, List, ◌∷◌, Option, Some, None, option_map}
use Rattle.acct_model.specs.declared.plan.Plan.{Plan}
use Rattle.acct_model.specs.declared.entry.Entry.{Entry}
use Rattle.acct_model.specs.declared.entry.Entry.TheVariants as entry
use Rattle.acct_model.specs.Vouchers.{TopUpFacts}
use Rattle.acct_model.specs.History.{Accepted, History}
use Rattle.acct_model.specs.History.{session_of, reports, first_of, topup_of, balance_of, InRange}

-- no voucher with the entry's number is kept
abbrev pub IsFresh : History → Entry → Type 0
IsFresh history (entry.Report report) = Unit {0}
IsFresh history (entry.Restart restart) = Unit {0}
IsFresh history (entry.TopUp topup) = topup_of history topup.voucher ≡ None

-- the entry is a top-up whose number is kept with the same account and sum
abbrev pub IsRepeated : History → Entry → Type 0
IsRepeated history (entry.Report report) = ⊥
IsRepeated history (entry.Restart restart) = ⊥
IsRepeated history (entry.TopUp topup) =
    (kept : TopUpFacts) × (topup_of history topup.voucher ≡ Some kept)
    × (kept.account ≡ topup.account) × (kept.sum ≡ topup.sum)

-- the entry is a top-up whose number is kept, by this top-up of another account or sum
abbrev pub Differs : History → Entry → TopUpFacts → Type 0
Differs history (entry.Report report) kept = ⊥
Differs history (entry.Restart restart) kept = ⊥
Differs history (entry.TopUp topup) kept =
    (topup_of history topup.voucher ≡ Some kept)
    × (kept.account ≡ topup.account → kept.sum ≢ topup.sum)

-- whose balance the entry may change: of a report, the user of its session's first report; of a
-- restart, nobody's
abbrev pub account_of : History → Entry → Option (List ℕ)
account_of history (entry.Report report) =
    option_map (λ first. first.user)
    (first_of (reports (Accepted (entry.Report report) ∷ history) (session_of report)))
account_of history (entry.Restart restart) = None
account_of history (entry.TopUp topup) = Some topup.account

-- no voucher of the entry was kept, and with it the balance of its account, now this one, would be
-- out of range
pub record IsOverLimit (plans : List Plan) (history : History) (next : Entry)
    (balance : ℤ) : Type 0 where
  pub fresh : IsFresh history next
  pub account : List ℕ
  pub changes : account_of history next ≡ Some account
  pub carried : balance ≡ balance_of plans history account
  pub out_of_range : InRange (balance_of plans (Accepted next ∷ history) account) → ⊥
