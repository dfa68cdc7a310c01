-- The front of a datagram.
use Rattle.std.proofs.Common.{◌≡◌, ℕ, ◌∷◌, ◌++◌, List, length, take, slice_index, sym}
use Rattle.std.proofs.Common.{◌∙◌, ap, subst, arith}
use Rattle.std.proofs.lemmas.List.{get_or-take, length-take-le, take_all}
use Rattle.radius_codec.specs.Attributes.{spellings}
use Rattle.radius_codec.specs.Packet.{length_field, HasFront, front_of, IsFront, Framed}

-- a front has the Length of its datagram
length_field-front : (bytes : List ℕ) → HasFront bytes
    → length_field (front_of bytes) ≡ length_field bytes
length_field-front bytes has =
    let size = length_field bytes in
    let high : slice_index (take size bytes) 2 ≡ slice_index bytes 2 =
    get_or-take size bytes 2 0 (omega (arith, has.least)) in
    let low : slice_index (take size bytes) 3 ≡ slice_index bytes 3 =
    get_or-take size bytes 3 0 (omega (arith, has.least)) in
    omega (arith, high, low)

-- it has as many octets as its Length counts
pub IsFront-front : (bytes : List ℕ) → HasFront bytes → IsFront (front_of bytes)
IsFront-front bytes has =
    let same = length_field-front bytes has in
    let long : length (front_of bytes) ≡ length_field bytes =
    length-take-le (length_field bytes) bytes has.there in
    record {
      field = record {
        least = omega (arith, same, has.least);
        most = omega (arith, same, has.most);
        there = omega (arith, same, long);
      };
      whole = omega (arith, same, long);
    }

-- what is whole is its own front
pub front_of-whole : (octets : List ℕ) → IsFront octets → front_of octets ≡ octets
front_of-whole octets is = take_all (length_field octets) octets (omega (arith, is.whole))

-- the packet of a front is that of the datagram
pub Framed-front : (bytes front : List ℕ) (code identifier : ℕ) (authenticator : List ℕ)
    (ps : List (ℕ × List ℕ)) → HasFront bytes → front ≡ front_of bytes
    → Framed front code identifier authenticator ps
    → Framed bytes code identifier authenticator ps
Framed-front bytes front code identifier authenticator ps has is framed =
    let size = length_field bytes in
    let high : slice_index (take size bytes) 2 ≡ slice_index bytes 2 =
    get_or-take size bytes 2 0 (omega (arith, has.least)) in
    let low : slice_index (take size bytes) 3 ≡ slice_index bytes 3 =
    get_or-take size bytes 3 0 (omega (arith, has.least)) in
    let packet = subst (λ octets. Framed octets code identifier authenticator ps) is framed in
    record {
      size = omega (arith, has.least, has.there);
      field = has;
      sixteen = framed.sixteen;
      short = framed.short;
      front = sym (front_of-whole (front_of bytes) (IsFront-front bytes has)) ∙ packet.front
          ∙ ap (λ x. code ∷ identifier ∷ x ∷ slice_index (take size bytes) 3
          ∷ (authenticator ++ spellings ps)) high
          ∙ ap (λ x. code ∷ identifier ∷ slice_index bytes 2 ∷ x
          ∷ (authenticator ++ spellings ps)) low;
    }
