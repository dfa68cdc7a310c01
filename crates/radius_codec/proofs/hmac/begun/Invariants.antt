use Rattle.std.proofs.Common.{map, take, bit_xor}
use Rattle.md5.specs.Md5.{Holds}
use Rattle.radius_codec.proofs.hmac.begun.Given as goal

-- the hasher holds the octets so far, with the pad added to each
abbrev pub invariant-loop-octet : goal.invariant-loop-octet
invariant-loop-octet l = Holds l.hasher (map (λ octet. bit_xor octet l.pad) (take l.octet-index l.octet-items))
