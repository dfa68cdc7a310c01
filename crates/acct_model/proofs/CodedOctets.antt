-- What coded octets are, and that they read back.
use Rattle.std.proofs.Common.{◌≡◌, ℕ, ◌≤◌, inl, inr, Bool, true, false, cond, ◌||◌, not}
use Rattle.std.proofs.Common.{List, [], ◌∷◌, ◌++◌, refl, sym, ◌∙◌, ap, arith}
use Rattle.std.proofs.lemmas.Bool.{cases_lt, le-ltb}
use Rattle.std.proofs.lemmas.Bool.Decides.{nat_tests}
use Rattle.std.specs.List.{All}
use Rattle.percent_encoding.specs.declared.ascii_set.AsciiSet.{AsciiSet}
use Rattle.percent_encoding.specs.AsciiSet.{should_percent_encode, contains}
use Rattle.percent_encoding.specs.Percent.{percent_encode, percent_encode_byte, percent_decode}
use Rattle.percent_encoding.proofs.PercentLemmas.{round_trip, IsByte}
use Rattle.acct_model.specs.Coded.{coded, is_plain}
use Rattle.acct_model.proofs.Escapes.{same, same-true, below, below-each}

-- every octet but letters, digits, `.`, `_` and `-`
abbrev pub set : AsciiSet
set = record { mask = 329648543071025500209575330483170967551 }

agrees : ℕ → Bool
agrees octet = same (should_percent_encode set octet) (not (is_plain octet))

agree_below : below agrees 128 ≡ true
unfolding below agrees same should_percent_encode
agree_below = refl

not_plain : (octet : ℕ) → 128 ≤ octet → is_plain octet ≡ false
not_plain octet large = grind (arith, nat_tests)

escaped_large : (octet : ℕ) → 128 ≤ octet → should_percent_encode set octet ≡ not (is_plain octet)
unfolding should_percent_encode
escaped_large octet large =
    let left = ap (λ b. not b || contains set octet) (le-ltb octet 128 large) in
    left ∙ ap not (sym (not_plain octet large))

escaped : (octet : ℕ) → should_percent_encode set octet ≡ not (is_plain octet)
unfolding agrees
escaped octet = elim (cases_lt octet 128) [
  | inl small ↦ same-true (should_percent_encode set octet) (not (is_plain octet))
      (below-each agrees 128 agree_below octet small)
  | inr large ↦ escaped_large octet large
]

turned : {X : Type 0} (b : Bool) (x y : X) → cond (not b) x y ≡ cond b y x
turned true x y = refl
turned false x y = refl

-- the crate's percent-encoding with this set of octets is what `coded` says
pub percent_encode-coded : (octets : List ℕ) → percent_encode set octets ≡ coded octets
unfolding percent_encode percent_encode_byte
percent_encode-coded [] = refl
percent_encode-coded (octet ∷ rest) =
    rw (percent_encode-coded rest)
    (ap (λ (front : List ℕ). front ++ coded rest)
    (ap (λ b. cond b (percent_encode_byte octet) (octet ∷ [])) (escaped octet)
    ∙ turned (is_plain octet) (percent_encode_byte octet) (octet ∷ [])))

-- coded octets read back
pub decoded-coded : (octets : List ℕ) → All IsByte octets → percent_decode (coded octets) ≡ octets
decoded-coded octets small =
    ap percent_decode (sym (percent_encode-coded octets)) ∙ round_trip set octets refl small
