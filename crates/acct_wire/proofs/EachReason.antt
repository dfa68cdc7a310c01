-- The lines of reasons, one more.
use Rattle.std.proofs.Common.{◌≡◌, ◌<◌, ◌+◌, ◌++◌, ◌∷◌, [], ◌∙◌, ℕ, List, ap, length, take, get_or}
use Rattle.std.proofs.lemmas.Grind.{flat_map-append}
use Rattle.std.proofs.lemmas.List.{take_more, append-nil}
use Rattle.std.specs.Prelude.{flat_map}
use Rattle.acct_wire.specs.declared.reason.Reason.{Reason}
use Rattle.acct_wire.specs.declared.reason.Reason.TheVariants.{UnknownClient}

-- the lines of the reasons up to a place, and of the one there
pub lines_more : (line : Reason → List ℕ) (reasons : List Reason) (place : ℕ)
    → place < length reasons
    → flat_map line (take (place + 1) reasons)
    ≡ flat_map line (take place reasons) ++ line (get_or reasons place UnknownClient)
lines_more line reasons place inside =
    let next = get_or reasons place UnknownClient in
    ap (flat_map line) (take_more reasons place UnknownClient inside)
    ∙ flat_map-append line (take place reasons) (next ∷ [])
    ∙ ap (λ more. flat_map line (take place reasons) ++ more) (append-nil (line next))
