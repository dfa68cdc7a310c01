-- What the fields of a record spell.
use Rattle.std.proofs.Common.{◌≡◌, ◌<◌, ℕ, Bool, true, false, ◌&&◌, List, [], ◌∷◌, length}
use Rattle.std.proofs.Common.{Some, refl, inl, inr, arith}
use Rattle.std.specs.Prelude.{IsUtf8, nat_le}
use Rattle.std.specs.List.{list_all}
use Rattle.std.proofs.lemmas.Bool.{cases_Bool}
use Rattle.std.proofs.lemmas.Bool.Decides.{nat_tests}
use Rattle.acct_model.specs.Vouchers.{is_voucher_octet, is_voucher_number}
use Rattle.acct_model.proofs.Numbers.{is_text}
use Rattle.csv.specs.Records.{field_at}
use Rattle.acct_files.specs.Vouchers.{three_of}

-- ---- text

voucher_small : (x : ℕ) → is_voucher_octet x ≡ true → x < 128
voucher_small x h = grind (arith, nat_tests)

last_holds : (a b c : Bool) → (a && b && c) ≡ true → c ≡ true
last_holds true true true h = refl
last_holds true true false h = absurd (cc h)
last_holds true false c h = absurd (cc h)
last_holds false b c h = absurd (cc h)

-- what is no text is no voucher's number
pub no_number : (xs : List ℕ) → (IsUtf8 xs → ⊥) → is_voucher_number xs ≡ false
no_number xs h = elim (cases_Bool (is_voucher_number xs)) [
  | inl holds ↦ absurd (h (is_text is_voucher_octet voucher_small xs
      (last_holds (nat_le 1 (length xs)) (nat_le (length xs) 32) (list_all is_voucher_octet xs)
      holds)))
  | inr none ↦ none
]

-- ---- fields

pub three_from : (fs : List (List ℕ)) (a b c : List ℕ) → length fs ≡ 3 → Some a ≡ field_at fs 0
    → Some b ≡ field_at fs 1 → Some c ≡ field_at fs 2 → Some (a, b, c) ≡ three_of fs
unfolding field_at
three_from [] a b c n x y z = absurd (omega arith)
three_from (f ∷ []) a b c n x y z = absurd (omega arith)
three_from (f ∷ g ∷ []) a b c n x y z = absurd (omega arith)
three_from (f ∷ g ∷ h ∷ []) a b c n x y z = cc
three_from (f ∷ g ∷ h ∷ i ∷ fs) a b c n x y z = absurd (omega arith)
