-- What holds of the elements of a list up to a place.
use Rattle.std.proofs.Common.{◌≡◌, ◌<◌, ◌+◌, ℕ, List, length, take, get_or, subst, sym}
use Rattle.std.specs.Prelude.{All}
use Rattle.std.proofs.lemmas.List.{take_more}
use Rattle.std.proofs.lemmas.List.Elements.{All-push}

-- what holds of the elements before a place and of the one there holds of all up to it
pub all_more : {X : Type 0} (P : X → Type 0) (xs : List X) (at : ℕ) (x : X) → at < length xs
    → x ≡ get_or xs at x → All P (take at xs) → P x → All P (take (at + 1) xs)
all_more P xs at x within is all holds =
    subst (All P) (sym (take_more xs at x within))
    (All-push P (take at xs) (get_or xs at x) all (subst P is holds))
