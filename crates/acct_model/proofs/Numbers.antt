-- What a text of digits spells.
use Rattle.std.proofs.Common.{◌≡◌, ℕ, ◌≤◌, ◌<◌, ◌^◌, List, length, Bool, true, false, ◌&&◌}
use Rattle.std.proofs.Common.{if◌then◌else◌, nat_lt, nat_le, None, Some, Result, Ok, Err, refl}
use Rattle.std.proofs.Common.{get_or, inl, inr, rules, arith}
use Rattle.std.specs.Prelude.{IsUtf8}
use Rattle.std.proofs.lemmas.Bool.{cases_Bool}
use Rattle.std.proofs.lemmas.Bool.Decides.{nat_tests}
use Rattle.std.proofs.lemmas.List.Folds.{list_all_at}
use Rattle.std.proofs.Math.ListN.{get_or-eq_default}
use Rattle.std.proofs.lemmas.Str.{IsUtf8-from_ascii}
use Rattle.std.proofs.lemmas.Str.Parse.{IsNumeralModel, numerals_by_value, parse_digits}
use Rattle.std.specs.Char.{is_ascii_digit}
use Rattle.std.specs.List.{list_all}
use Rattle.std.specs.Result.{result_ok}
use Rattle.std.specs.Str.Parse.{ParsesUnsigned, digits_value}
use Rattle.acct_model.specs.Numbers.{number_of}

own : IsNumeralModel (λ ds. list_all is_ascii_digit ds ≡ true) (digits_value 10)
own = numerals_by_value _ (search rules)

-- ---- octets below 128 are UTF-8

below_128 : (p : ℕ → Bool) → ((x : ℕ) → p x ≡ true → x < 128) → (text : List ℕ)
    → list_all p text ≡ true → (i : ℕ) → get_or text i 0 < 128
below_128 p small text all i = elim (cases_Bool (nat_le (length text) i)) [
  | inl past ↦ let out : length text ≤ i =
      grind (arith, nat_tests) in let zero_there = get_or-eq_default text 0 out in omega arith
  | inr within ↦ let inside : i < length text =
      grind (arith, nat_tests) in elim (cases_Bool (p (get_or text i 0))) [
        | inl holds ↦ small (get_or text i 0) holds
        | inr none ↦ absurd (cc (all, list_all_at p text i 0 inside none))
      ]
]

pub is_text : (p : ℕ → Bool) → ((x : ℕ) → p x ≡ true → x < 128) → (text : List ℕ)
    → list_all p text ≡ true → IsUtf8 text
is_text p small text all = IsUtf8-from_ascii text (below_128 p small text all)

digit_small : (x : ℕ) → is_ascii_digit x ≡ true → x < 128
digit_small x h = grind (arith, nat_tests)

pub digits_are_text : (text : List ℕ) → list_all is_ascii_digit text ≡ true → IsUtf8 text
digits_are_text text all = is_text is_ascii_digit digit_small text all

-- ---- the number

all_hold : (a b c d : Bool) (n v : ℕ) → a ≡ true → b ≡ true → c ≡ true → d ≡ true → n ≡ v
    → Some n ≡ (if (a && b && c) && d then Some v else None)
all_hold a b c d n v p q r s e = rw (p, q, r, s, e) refl

one_fails : (a b c d : Bool) (v : ℕ) → (a ≡ true → b ≡ true → c ≡ true → d ≡ true → ⊥)
    → None ≡ (if (a && b && c) && d then Some v else None)
one_fails false b c d v h = refl
one_fails true false c d v h = refl
one_fails true true false d v h = refl
one_fails true true true false v h = refl
one_fails true true true true v h = absurd (h refl refl refl refl)

-- the four parts of the definition at a text
no_number : (most : ℕ) (text : List ℕ) → (nat_le 1 (length text) ≡ true
    → nat_le (length text) most ≡ true → list_all is_ascii_digit text ≡ true
    → nat_lt (digits_value 10 text) (2 ^ 64) ≡ true → ⊥) → None ≡ number_of most text
no_number most text h = one_fails (nat_le 1 (length text)) (nat_le (length text) most)
    (list_all is_ascii_digit text) (nat_lt (digits_value 10 text) (2 ^ 64)) (digits_value 10 text) h

to_le : (a b : ℕ) → nat_le a b ≡ true → a ≤ b
to_le a b h = grind (arith, nat_tests)

to_lt : (a b : ℕ) → nat_lt a b ≡ true → a < b
to_lt a b h = grind (arith, nat_tests)

of_le : (a b : ℕ) → a ≤ b → nat_le a b ≡ true
of_le a b h = grind (arith, nat_tests)

of_lt : (a b : ℕ) → a < b → nat_lt a b ≡ true
of_lt a b h = grind (arith, nat_tests)

pub too_long : (most : ℕ) (text : List ℕ) → most < length text → None ≡ number_of most text
too_long most text h = no_number most text (λ a b c d.
    let short : length text ≤ most = to_le _ _ b in absurd (omega arith))

pub no_digits : (most : ℕ) (text : List ℕ) → list_all is_ascii_digit text ≡ false
    → None ≡ number_of most text
no_digits most text h = no_number most text (λ a b c d.
    let e : list_all is_ascii_digit text ≡ true = c in absurd (cc (h, e)))

-- `parse` reads a short text of digits as its number
pub parsed : {E : Type 0} (most : ℕ) (text : List ℕ) (r : Result ℕ E) → ParsesUnsigned 64 10 text r
    → list_all is_ascii_digit text ≡ true → length text ≤ most
    → result_ok r ≡ number_of most text
parsed {E} most text (Ok n) h digits short =
    let p = parse_digits own {E = E} 64 text (Ok n) h digits in
    let some : 1 ≤ length text = p.0.0 in
    all_hold (nat_le 1 (length text)) (nat_le (length text) most)
    (list_all is_ascii_digit text) (nat_lt (digits_value 10 text) (2 ^ 64)) n
    (digits_value 10 text) (of_le _ _ some) (of_le _ _ short) digits (of_lt _ _ p.0.1) p.1
parsed {E} most text (Err e) h digits short =
    let p = parse_digits own {E = E} 64 text (Err e) h digits in
    no_number most text (λ a b c d. let some : 0 < length text = to_le 1 (length text) a in
    p (some, to_lt _ _ d))
