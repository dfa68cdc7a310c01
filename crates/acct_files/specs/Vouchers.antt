-- What a record of an import asks for.
use Rattle.std.specs.Prelude.{◌≡◌, ℕ, ⊤, Bool, ◌&&◌, not, if◌then◌else◌, List, [], ◌∷◌, unwrap_or}
use Rattle.std.specs.Prelude.{false, Option, Some, None, Result, Ok, Err, codes, bytes_eq}
use Rattle.std.specs.Option.{option_map_or}
use Rattle.percent_encoding.specs.Percent.{percent_decode}
use Rattle.acct_model.specs.Numbers.{number_of}
use Rattle.acct_model.specs.Vouchers.{TopUpFacts, is_voucher_number, is_voucher_account}
use Rattle.acct_model.specs.Vouchers.{is_voucher_sum}
use Rattle.acct_files.specs.declared.import_report.Cause.{Cause}
use Rattle.acct_files.specs.declared.import_report.Cause.TheVariants.{FieldCount, BadVoucher}
use Rattle.acct_files.specs.declared.import_report.Cause.TheVariants.{BadAccount, BadSum}
use Rattle.acct_files.specs.declared.voucher_record.Fault.{Fault}
use Rattle.acct_files.specs.declared.voucher_record.Fault.TheVariants as fault

-- the fields of a record
abbrev pub Fields : Type 0
Fields = List (List ℕ)

-- the fields of a record that has three
abbrev pub three_of : Fields → Option (List ℕ × List ℕ × List ℕ)
three_of [] = None
three_of (a ∷ []) = None
three_of (a ∷ b ∷ []) = None
three_of (a ∷ b ∷ c ∷ []) = Some (a, b, c)
three_of (a ∷ b ∷ c ∷ d ∷ more) = None

-- the record `voucher,account,sum`
abbrev pub is_header : Fields → Bool
is_header fields = option_map_or
    (λ f. bytes_eq f.0 (codes "voucher") && bytes_eq f.1 (codes "account") && bytes_eq f.2
    (codes "sum")) (three_of fields) false

-- the number that 1 to 13 digits spell, else 0, which is no voucher's sum
abbrev pub sum_of : List ℕ → ℕ
sum_of text = unwrap_or (number_of 13 text) 0

-- the top-up of a number, an account and a sum at a moment, or the first rule that they break
abbrev pub topup_asked : ℕ → List ℕ → List ℕ → ℕ → Result TopUpFacts Cause
topup_asked moment number account amount =
    if not (is_voucher_number number) then Err BadVoucher
    else if not (is_voucher_account account) then Err BadAccount
    else if not (is_voucher_sum amount) then Err BadSum
    else Ok (record { voucher = number; account = account; sum = amount; when = moment })

-- the top-up that a record asks for at a moment, or the first rule that it breaks
abbrev pub asked_by : ℕ → Fields → Result TopUpFacts Cause
asked_by moment fields = option_map_or
    (λ f. topup_asked moment f.0 (percent_decode f.1) (sum_of f.2))
    (three_of fields) (Err FieldCount)

-- the fault is the rule that the record breaks, or out of memory
abbrev pub IsLineFault : Fault → Result TopUpFacts Cause → Type 0
IsLineFault (fault.Refused cause) wanted = wanted ≡ Err cause
IsLineFault fault.Memory wanted = ⊤
