-- A signed request is at the front of the array that it was written into.
use Rattle.std.proofs.Common.{◌≡◌, ℕ, ◌≤◌, ◌+◌, ◌++◌, List, length, take, drop, arith, ap, ◌∙◌}
use Rattle.std.proofs.lemmas.List.{length-append, take_at}
use Rattle.radius_codec.specs.Packet.{request_octets, request_place}
use Rattle.radius_codec.proofs.Sealing.{length-sealed}

pub fits : (id size : ℕ) (octets secret old new : List ℕ)
    → new ≡ request_octets id octets secret ++ drop size old → size ≡ 20 + length octets
    → length new ≡ 4096 → size ≤ 4096
fits id size octets secret old new written end room =
    let front = length-sealed 4 id request_place octets secret in
    let all : length new ≡ length (request_octets id octets secret) + length (drop size old) =
    ap length written ∙ length-append (request_octets id octets secret) (drop size old) in
    omega (arith, front, all)

pub front : (id n size : ℕ) (octets secret old new : List ℕ) → n ≡ size
    → new ≡ request_octets id octets secret ++ drop size old → size ≡ 20 + length octets
    → take n new ≡ request_octets id octets secret
front id n size octets secret old new same written end =
    let sealed = length-sealed 4 id request_place octets secret in
    let long : length (request_octets id octets secret) ≡ n = omega (arith, sealed) in
    ap (take n) written ∙ take_at (request_octets id octets secret) (drop size old) n long
