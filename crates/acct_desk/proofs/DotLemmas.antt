-- Where octets are cut: at their first `.`.
use Rattle.std.proofs.Common.{◌≡◌, ℕ, ◌+◌, ◌≤◌, Bool, true, false, cond, List, ◌∷◌, ◌++◌}
use Rattle.std.proofs.Common.{length, take, drop, get_or, refl, ◌∙◌, ap, arith, length-append}
use Rattle.std.specs.Prelude.{Some, None, nat_lt, All}
use Rattle.std.specs.List.{position_from, position_or_len, before_first, after_first}
use Rattle.std.proofs.lemmas.Bool.{ne_eqb}
use Rattle.std.proofs.lemmas.Bool.Decides.{nat_tests}
use Rattle.std.proofs.lemmas.Iterator.Adapters.{position_from-zero}
use Rattle.std.proofs.lemmas.List.Sums.{position_or_len_is}
use Rattle.std.proofs.Math.ListN.{get_or-append}
use Rattle.std.proofs.Math.Seq.{get_or-append_seam, take-append_seam, drop-append-add}
use Rattle.acct_desk.specs.SignedKeys.{is_dot}

some_by : (b : Bool) (n i : ℕ) → cond b (Some n) None ≡ Some i → n ≡ i
some_by true n i e = cc
some_by false n i e = absurd (cc)

none_by : (b : Bool) (n : ℕ) → cond b (Some n) None ≡ None → b ≡ false
none_by true n e = absurd (cc)
none_by false n e = refl

-- the first one is at the place that was found
pub found_at : (octets : List ℕ) (i : ℕ) → position_from is_dot 0 octets ≡ Some i
    → position_or_len is_dot octets ≡ i
found_at octets i e =
    some_by (nat_lt (position_or_len is_dot octets) (length octets))
    (position_or_len is_dot octets) i
    (position_from-zero is_dot octets ∙ e)

-- there is none
pub found_none : (octets : List ℕ) → position_from is_dot 0 octets ≡ None
    → length octets ≤ position_or_len is_dot octets
found_none octets e =
    let past = none_by (nat_lt (position_or_len is_dot octets) (length octets))
    (position_or_len is_dot octets) (position_from-zero is_dot octets ∙ e) in
    grind (arith, nat_tests)

-- no octet is this one
abbrev pub Lacks : ℕ → List ℕ → Type 0
Lacks mark octets = All (λ o. o ≡ mark → ⊥) octets

-- a `.` behind octets without one is the first
pub first_behind : (octets rest : List ℕ) → Lacks 46 octets
    → position_or_len is_dot (octets ++ 46 ∷ rest) ≡ length octets
first_behind octets rest none =
    position_or_len_is is_dot (octets ++ 46 ∷ rest) (length octets) 0
    (omega (arith, length-append octets (46 ∷ rest)))
    (λ k h. ap is_dot (get_or-append octets (46 ∷ rest) 0 k h)
    ∙ ne_eqb (get_or octets k 0) 46 (none k 0 h))
    (λ h. ap is_dot (get_or-append_seam octets 46 rest 0))

pub before_behind : (octets rest : List ℕ) → Lacks 46 octets
    → before_first is_dot (octets ++ 46 ∷ rest) ≡ octets
before_behind octets rest none =
    ap (λ n. take n (octets ++ 46 ∷ rest)) (first_behind octets rest none)
    ∙ take-append_seam octets (46 ∷ rest)

pub after_behind : (octets rest : List ℕ) → Lacks 46 octets
    → after_first is_dot (octets ++ 46 ∷ rest) ≡ rest
after_behind octets rest none =
    ap (λ n. drop (n + 1) (octets ++ 46 ∷ rest)) (first_behind octets rest none)
    ∙ drop-append-add octets (46 ∷ rest) 1
