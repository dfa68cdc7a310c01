-- Where octets are cut: at their last slash.
use Rattle.std.proofs.Common.{◌≡◌, ℕ, zero, suc, ◌+◌, ◌<◌, cond, List, [], ◌∷◌, length, take, drop}
use Rattle.std.proofs.Common.{get_or, refl, ◌∙◌, ap, subst, arith}
use Rattle.std.proofs.lemmas.Bool.{ne_eqb, eq-eqb}
use Rattle.std.specs.Prelude.{None, Some}
use Rattle.acct_desk_pages.specs.Overdrawn.{cut_last, cut_last_by}

-- octets without a slash are not cut
pub cut_last_none : (octets : List ℕ)
    → ((k : ℕ) → k < length octets → get_or octets k 0 ≡ 47 → ⊥) → cut_last octets ≡ None
cut_last_none [] none = refl
cut_last_none (octet ∷ rest) none =
    ap (cut_last_by octet rest) (cut_last_none rest (λ k h. none (suc k) (omega (arith, h))))
    ∙ ap (λ b. cond b (Some ([], rest)) None)
    (ne_eqb octet 47 (none 0 (omega arith)))

-- octets are cut at the last slash
pub cut_last_at : (octets : List ℕ) (i : ℕ) → i < length octets → get_or octets i 0 ≡ 47
    → ((k : ℕ) → i < k → k < length octets → get_or octets k 0 ≡ 47 → ⊥)
    → cut_last octets ≡ Some (take i octets, drop (i + 1) octets)
cut_last_at [] i within is none = absurd (omega (arith, within))
cut_last_at (octet ∷ rest) zero within is none =
    ap (cut_last_by octet rest) (cut_last_none rest (λ k h. none (suc k) (omega arith)
    (omega (arith, h))))
    ∙ ap (λ b. cond b (Some ([], rest)) None) (eq-eqb octet 47 is)
cut_last_at (octet ∷ rest) (suc i) within is none =
    let e : suc (i + 1) ≡ suc i + 1 = omega arith in
    subst (λ n. cut_last (octet ∷ rest) ≡ Some (octet ∷ take i rest, drop n (octet ∷ rest))) e
    (ap (cut_last_by octet rest) (cut_last_at rest i (omega (arith, within)) is
    (λ k past h. none (suc k) (omega (arith, past)) (omega (arith, h)))))
