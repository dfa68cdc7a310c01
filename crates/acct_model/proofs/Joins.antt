-- Parts that are joined one by one.
use Rattle.std.proofs.Common.{◌≡◌, ℕ, ◌+◌, ◌<◌, List, [], ◌∷◌, ◌++◌, length, map, take, get_or, ap}
use Rattle.std.proofs.Common.{◌∙◌}
use Rattle.std.proofs.lemmas.List.{take_more, map-append, append-nil}
use Rattle.std.proofs.lemmas.List.Folds.{concat-append}
use Rattle.std.specs.List.{concat}
use Rattle.std.specs.Borrow.{Bor}

-- one part more
pub joined_more : (parts : List (Bor (List ℕ))) (i : ℕ) (part : Bor (List ℕ)) → i < length parts
    → concat (map (λ part. part.now) (take (i + 1) parts))
    ≡ concat (map (λ part. part.now) (take i parts)) ++ (get_or parts i part).now
joined_more parts i part within =
    let now : Bor (List ℕ) → List ℕ = λ part. part.now in
    let next = get_or parts i part in
    ap (λ list. concat (map now list)) (take_more parts i part within)
    ∙ ap concat (map-append now (take i parts) (next ∷ []))
    ∙ concat-append (map now (take i parts)) (next.now ∷ [])
    ∙ ap (λ last. concat (map now (take i parts)) ++ last) (append-nil next.now)
