use Rattle.std.proofs.Common.{◌++◌, length, List, ℕ, drop, replicate, ap, ◌∙◌}
use Rattle.std.proofs.lemmas.List.{drop-replicate}
use Rattle.radius_codec.proofs.hmac.filled.Goals as goal

pub returns : goal.returns
returns c =
    ap (λ (front : List ℕ). front ++ drop (length c.args.key.now) (replicate 64 0))
    c.copy_from_slice.ensures.after
    ∙ ap (λ rest. c.args.key.now ++ rest) (drop-replicate (length c.args.key.now) 64 0)
