-- The crate's percent-encoding with this set of octets is what `shown` says.
use Rattle.std.proofs.Common.{◌≡◌, ℕ, zero, suc, ◌<◌, ◌≤◌, inl, inr, Bool, true, false, cond, ◌&&◌}
use Rattle.std.proofs.Common.{◌||◌, not, List, [], ◌∷◌, ◌++◌, refl, sym, ◌∙◌, ap, subst, arith}
use Rattle.std.proofs.lemmas.Bool.{true≢false, cases_lt, cases_eq, le-ltb, le-leb}
use Rattle.std.specs.Prelude.{nat_lt, ◌==◌}
use Rattle.percent_encoding.specs.declared.ascii_set.AsciiSet.{AsciiSet}
use Rattle.percent_encoding.specs.AsciiSet.{should_percent_encode, contains}
use Rattle.percent_encoding.specs.Percent.{percent_encode, percent_encode_byte, percent_decode}
use Rattle.percent_encoding.proofs.PercentLemmas.{round_trip, IsByte}
use Rattle.std.specs.List.{All}
use Rattle.acct_model.specs.Shown.{shown, is_escaped}

abbrev set : AsciiSet
set = record { mask = 170141183460469231731687303857618026495 }

unfoldable pub same : Bool → Bool → Bool
same true b = b
same false b = not b

pub same-true : (a b : Bool) → same a b ≡ true → a ≡ b
unfolding same
same-true true true e = refl
same-true true false e = sym e
same-true false true e = e
same-true false false e = refl

unfoldable pub below : (ℕ → Bool) → ℕ → Bool
below p zero = true
below p (suc n) = p n && below p n

and_both : (p q : Bool) → (p && q) ≡ true → (p ≡ true) × (q ≡ true)
and_both true true e = (refl, refl)
and_both true false e = absurd (true≢false (sym e))
and_both false q e = absurd (true≢false (sym e))

pub below-each : (p : ℕ → Bool) (n : ℕ) → below p n ≡ true → (k : ℕ) → k < n → p k ≡ true
unfolding below
below-each p zero e k h = absurd (omega (arith, h))
below-each p (suc n) e k h =
    let both = and_both (p n) (below p n) e in
    elim (cases_eq k n) [
      | inl is ↦ subst (λ x. p x ≡ true) (sym is) both.0
      | inr other ↦ below-each p n both.1 k (omega (arith, h, other))
    ]

agrees : ℕ → Bool
agrees octet = same (should_percent_encode set octet) (is_escaped octet)

agree_below : below agrees 128 ≡ true
unfolding below agrees same should_percent_encode
agree_below = refl

or-true : (b : Bool) → (b || true) ≡ true
or-true true = refl
or-true false = refl

escaped_large : (octet : ℕ) → 128 ≤ octet → should_percent_encode set octet ≡ is_escaped octet
unfolding should_percent_encode
escaped_large octet large =
    let left = ap (λ b. not b || contains set octet) (le-ltb octet 128 large) in
    let right = ap (λ b. (nat_lt octet 32 || octet == 127 || octet == 37) || b)
    (le-leb 128 octet large) in
    left ∙ sym (right ∙ or-true (nat_lt octet 32 || octet == 127 || octet == 37))

escaped : (octet : ℕ) → should_percent_encode set octet ≡ is_escaped octet
unfolding agrees
escaped octet = elim (cases_lt octet 128) [
  | inl small ↦ same-true (should_percent_encode set octet) (is_escaped octet)
      (below-each agrees 128 agree_below octet small)
  | inr large ↦ escaped_large octet large
]

pub percent_encode-shown : (octets : List ℕ) → percent_encode set octets ≡ shown octets
unfolding percent_encode percent_encode_byte
percent_encode-shown [] = refl
percent_encode-shown (octet ∷ rest) =
    rw (percent_encode-shown rest)
    (ap (λ b. cond b (percent_encode_byte octet) (octet ∷ []) ++ shown rest) (escaped octet))

-- shown octets read back
pub decoded-shown : (octets : List ℕ) → All IsByte octets → percent_decode (shown octets) ≡ octets
decoded-shown octets small =
    ap percent_decode (sym (percent_encode-shown octets)) ∙ round_trip set octets refl small
