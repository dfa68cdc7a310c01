use Rattle.std.proofs.Common.{◌≡◌, map, take}
use Rattle.std.specs.List.{concat}
use Rattle.acct_model.proofs.stamp.joined.Given as goal

-- the octets are the parts so far
abbrev pub invariant-loop-part : goal.invariant-loop-part
invariant-loop-part l =
    l.octets.items ≡ concat (map (λ part. part.now) (take l.part-index l.parts))
