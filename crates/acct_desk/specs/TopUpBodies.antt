-- The JSON body that asks for a top-up.
use Rattle.std.specs.Prelude.{◌≡◌, ℕ, List, codes, is_none, if◌then◌else◌, Option, Some, None}
use Rattle.std.specs.Prelude.{option_and_then, IsUtf8}
use Rattle.percent_encoding.specs.Percent.{percent_decode}
use Rattle.serde_json.specs.Data.{Data}
use Rattle.serde_json.specs.Read as json
use Rattle.serde_json.specs.Find.{get, as_str, as_number, as_u64}
use Rattle.acct_model.specs.Vouchers.{TopUpFacts}
use Rattle.acct_model.specs.TopUpFaults.{topup_fault}

-- a top-up of these parts, if they are in their bounds
abbrev pub topup_from : List ℕ → List ℕ → ℕ → ℕ → Option TopUpFacts
topup_from voucher account amount moment =
    if is_none (topup_fault voucher account amount)
    then Some (record { voucher = voucher; account = account; sum = amount; when = moment })
    else None

-- a member that is a text, and one that is a whole number without fraction or exponent
abbrev pub member_text : List ℕ → Data → Option (List ℕ)
member_text name value = option_and_then as_str (get name value)

abbrev pub whole_at : List ℕ → Data → Option ℕ
whole_at name value = option_and_then as_u64 (option_and_then as_number (get name value))

-- the top-up of the members, if all three are there; the account's text is percent-decoded
abbrev pub topup_of_members : Option (List ℕ) → Option ℕ → Option (List ℕ) → ℕ → Option TopUpFacts
topup_of_members None amount voucher moment = None
topup_of_members (Some account) None voucher moment = None
topup_of_members (Some account) (Some amount) None moment = None
topup_of_members (Some account) (Some amount) (Some voucher) moment =
    topup_from voucher (percent_decode account) amount moment

-- the top-up that a JSON value asks for at a moment
abbrev pub topup_of_value : Data → ℕ → Option TopUpFacts
topup_of_value value moment =
    topup_of_members (member_text (codes "account") value) (whole_at (codes "sum") value)
    (member_text (codes "voucher") value) moment

-- the octets are JSON for the value, or are not JSON
abbrev pub IsJson : List ℕ → Option Data → Type 0
IsJson octets (Some value) = IsUtf8 octets × (json.read octets ≡ Some value)
IsJson octets None = IsUtf8 octets → json.read octets ≡ None
