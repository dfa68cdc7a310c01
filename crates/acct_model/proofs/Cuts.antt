-- Where octets are cut: before their first `;`.
use Rattle.std.proofs.Common.{◌≡◌, ℕ, zero, suc, ◌+◌, ◌<◌, cond, List, [], ◌∷◌, ◌++◌, length, take}
use Rattle.std.proofs.Common.{drop, get_or, refl, ◌∙◌, ap, subst, arith}
use Rattle.std.proofs.lemmas.Bool.{ne_eqb, eq-eqb}
use Rattle.std.proofs.lemmas.List.Elements.{All-head, All-tail}
use Rattle.std.specs.Prelude.{Option, None, Some, All}
use Rattle.std.specs.Option.{option_map}
use Rattle.acct_model.specs.Stamps.{cut}

abbrev Parts : Type 0
Parts = List ℕ × List ℕ

-- an octet in front of the first part
abbrev behind : ℕ → Option Parts → Option Parts
behind octet found = option_map (λ (parts : Parts). (octet ∷ parts.0, parts.1)) found

goes_on : (octet : ℕ) (rest : List ℕ) → (octet ≡ 59 → ⊥)
    → cut (octet ∷ rest) ≡ behind octet (cut rest)
goes_on octet rest other =
    ap (λ b. cond b (Some ([], rest)) (behind octet (cut rest))) (ne_eqb octet 59 other)

-- octets without a `;` are not cut
pub cut_none : (octets : List ℕ)
    → ((k : ℕ) → k < length octets → get_or octets k 0 ≡ 59 → ⊥) → cut octets ≡ None
cut_none [] none = refl
cut_none (octet ∷ rest) none =
    goes_on octet rest (none 0 (omega arith))
    ∙ ap (behind octet) (cut_none rest (λ k h. none (suc k) (omega (arith, h))))

-- octets are cut at the first `;`
pub cut_at : (octets : List ℕ) (i : ℕ) → i < length octets → get_or octets i 0 ≡ 59
    → ((k : ℕ) → k < i → get_or octets k 0 ≡ 59 → ⊥)
    → cut octets ≡ Some (take i octets, drop (i + 1) octets)
cut_at [] i within is none = absurd (omega (arith, within))
cut_at (octet ∷ rest) zero within is none =
    ap (λ b. cond b (Some ([], rest)) (behind octet (cut rest))) (eq-eqb octet 59 is)
cut_at (octet ∷ rest) (suc i) within is none =
    let e : suc (i + 1) ≡ suc i + 1 = omega arith in
    subst (λ n. cut (octet ∷ rest) ≡ Some (octet ∷ take i rest, drop n (octet ∷ rest))) e
    (goes_on octet rest (none 0 (omega arith))
    ∙ ap (behind octet) (cut_at rest i (omega (arith, within)) is
    (λ k h. none (suc k) (omega (arith, h)))))

-- a `;` behind octets without one cuts there
pub cut_behind : (octets rest : List ℕ) → All (λ octet. octet ≡ 59 → ⊥) octets
    → cut (octets ++ 59 ∷ rest) ≡ Some (octets, rest)
cut_behind [] rest none = refl
cut_behind (octet ∷ octets) rest none =
    goes_on octet (octets ++ 59 ∷ rest) (All-head (λ o. o ≡ 59 → ⊥) octet octets none)
    ∙ ap (behind octet) (cut_behind octets rest (All-tail (λ o. o ≡ 59 → ⊥) octet octets none))
