-- What a top-up says, and the numbers, accounts and sums that a voucher may have.
use Rattle.std.specs.Prelude.{◌≡◌, ℕ, ◌^◌, ◌<◌, nat_le, Bool, true, ◌&&◌, ◌||◌, ◌==◌, List, length}
use Rattle.std.specs.List.{list_all}

-- a top-up: the voucher's number, the account that it is credited to, its sum and its moment
pub record TopUpFacts : Type 0 where
  pub voucher : List ℕ
  pub account : List ℕ
  pub sum : ℕ
  pub when : ℕ

-- a character of a voucher's number: A to Z, 0 to 9 or `-`
abbrev pub is_voucher_octet : ℕ → Bool
is_voucher_octet octet =
    (nat_le 65 octet && nat_le octet 90) || (nat_le 48 octet && nat_le octet 57) || octet == 45

-- a voucher's number is 1 to 32 of these characters
abbrev pub is_voucher_number : List ℕ → Bool
is_voucher_number number =
    nat_le 1 (length number) && nat_le (length number) 32 && list_all is_voucher_octet number

-- a voucher's account is 1 to 253 octets
abbrev pub is_voucher_account : List ℕ → Bool
is_voucher_account account = nat_le 1 (length account) && nat_le (length account) 253

-- a voucher's sum is 1 to 10^12
abbrev pub is_voucher_sum : ℕ → Bool
is_voucher_sum amount = nat_le 1 amount && nat_le amount (10 ^ 12)

-- what each top-up keeps
pub record IsTopUp (voucher account : List ℕ) (amount when : ℕ) : Type 0 where
  pub number : is_voucher_number voucher ≡ true
  pub owner : is_voucher_account account ≡ true
  pub bounded : is_voucher_sum amount ≡ true
  pub when_fits : when < 2 ^ 53
