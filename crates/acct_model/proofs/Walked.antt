-- What a walk over octets of one length says of the test for equal octets.
use Rattle.std.proofs.Common.{◌≡◌, ℕ, ◌<◌, ◌≤◌, Bool, true, false, List, length, get_or, sym, arith, refl}
use Rattle.std.proofs.lemmas.Grind.{same_number_lists}
use Rattle.std.specs.Prelude.{bytes_eq}
use Rattle.acct_model.proofs.Same.{Decides-bytes_eq, Decides-false}

-- all octets so far are equal, or the lists differ
abbrev pub Walked : Bool → List ℕ → List ℕ → ℕ → Type 0
Walked same one other i =
    (same ≡ true → (k : ℕ) → k < i → get_or one k 0 ≡ get_or other k 0)
    × (same ≡ false → one ≡ other → ⊥)

pub walked : (same : Bool) (one other : List ℕ) (i : ℕ) → length one ≡ length other
    → length one ≤ i → Walked same one other i → same ≡ bytes_eq one other
walked true one other i long all says =
    sym ((Decides-bytes_eq one other).1
    (same_number_lists one other long (λ k within. says.0 refl k (omega (arith, within, all)))))
walked false one other i long all says =
    sym (Decides-false (bytes_eq one other) (Decides-bytes_eq one other) (says.1 refl))
