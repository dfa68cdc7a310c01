-- What is wrong with a top-up.
use Rattle.std.specs.Prelude.{◌≡◌, ℕ, not, Option, None, Some, List, if◌then◌else◌}
use Rattle.acct_model.specs.declared.top_up.TopUpError.{TopUpError}
use Rattle.acct_model.specs.declared.top_up.TopUpError.TheVariants.{BadVoucher, BadAccount, BadSum}
use Rattle.acct_model.specs.declared.top_up.TopUpError.TheVariants.{Memory}
use Rattle.acct_model.specs.Vouchers.{is_voucher_number, is_voucher_account, is_voucher_sum}

-- the first fault
abbrev pub topup_fault : List ℕ → List ℕ → ℕ → Option TopUpError
topup_fault number account amount =
    if not (is_voucher_number number) then Some BadVoucher
    else if not (is_voucher_account account) then Some BadAccount
    else if not (is_voucher_sum amount) then Some BadSum
    else None

-- an error is the first fault, or out of memory if there is none
abbrev pub IsTopUpError : Option TopUpError → TopUpError → Type 0
IsTopUpError fault BadVoucher = fault ≡ Some BadVoucher
IsTopUpError fault BadAccount = fault ≡ Some BadAccount
IsTopUpError fault BadSum = fault ≡ Some BadSum
IsTopUpError fault Memory = fault ≡ None
