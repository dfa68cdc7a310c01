-- Packets with their digests, as octets.
use Rattle.std.proofs.Common.{◌≡◌, ℕ, ◌+◌, ◌-◌, ◌≤◌, List, [], ◌++◌, length, take, drop, sym, ◌∙◌}
use Rattle.std.proofs.Common.{ap, subst, append_assoc, arith, length-append}
use Rattle.std.proofs.lemmas.List.{take_at, drop_at, append-nil, length-take-le, drop-drop}
use borrow.Rule.Slice.PartMut.{put_mid}
use Rattle.md5.proofs.StandardFacts.{length-md5}
use Rattle.radius_codec.specs.Attributes.{spellings, Fits}
use Rattle.radius_codec.specs.Packet.{head_octets, digest, request_place, length_field, Framed}
use Rattle.radius_codec.specs.Packet.{IsRequestOf, IsReplyOf, HasDigest, sealed, request_octets}
use Rattle.radius_codec.specs.Packet.{proxy_states, reply_octets}

pub length-sealed : (code identifier : ℕ) (place octets secret : List ℕ)
    → length (sealed code identifier place octets secret) ≡ 20 + length octets
length-sealed code identifier place octets secret =
    let head = head_octets code identifier (20 + length octets) in
    omega (
      arith,
      length-append (digest head place octets secret) octets,
      length-md5
          (head ++ place ++ octets ++ secret),
    )

-- a sealed packet carries the digest of itself
pub HasDigest-sealed : (code identifier : ℕ) (place octets secret : List ℕ)
    → HasDigest (sealed code identifier place octets secret) place secret
HasDigest-sealed code identifier place octets secret =
    let head = head_octets code identifier (20 + length octets) in
    let sum = digest head place octets secret in
    let long : length sum ≡ 16 = length-md5 (head ++ place ++ octets ++ secret) in
    let front : take 16 (sum ++ octets) ≡ sum = take_at sum octets 16 long in
    let back : drop 16 (sum ++ octets) ≡ octets = drop_at sum octets 16 long in
    front ∙ sym (ap (λ xs. digest head place xs secret) back)

-- what a write between two places leaves from the first of them on
pub drop-put_mid_from : (from size end : ℕ) (xs ys : List ℕ) → from ≤ length xs → end ≡ from + size
    → drop from (put_mid from size xs ys) ≡ ys ++ drop end xs
drop-put_mid_from from size end xs ys within is =
    drop_at (take from xs) (ys ++ drop size (drop from xs)) from (length-take-le from xs within)
    ∙ ap (λ zs. ys ++ zs) (drop-drop size from xs ∙ ap (λ n. drop n xs) (sym is))

-- an array with the head and the digest before attributes is a sealed packet and what followed them
pub sealed_in : (code identifier end : ℕ) (place octets secret out behind now rest : List ℕ)
    → end ≡ 20 + length octets
    → behind ≡ octets ++ rest
    → (let head = head_octets code identifier end in
    now ≡ head ++ digest head place (take (end - 20) behind) secret ++ behind)
    → now ≡ sealed code identifier place octets secret ++ rest
sealed_in code identifier end place octets secret out behind now rest is stands written =
    let long : length octets ≡ end - 20 = omega (arith, is) in
    let front : take (end - 20) behind ≡ octets = ap (take (end - 20)) stands
    ∙ take_at octets rest (end - 20) long in
    written ∙ ap (λ xs. head_octets code identifier end
    ++ digest (head_octets code identifier end) place xs secret ++ behind) front
    ∙ ap (λ xs. head_octets code identifier end
    ++ digest (head_octets code identifier end) place octets secret ++ xs) stands
    ∙ ap (λ n. head_octets code identifier n
    ++ digest (head_octets code identifier n) place octets secret ++ (octets ++ rest)) is
    ∙ sym (append_assoc (head_octets code identifier (20 + length octets)
    ++ digest (head_octets code identifier (20 + length octets)) place octets secret) octets
    rest)

pub take-sealed : (code identifier : ℕ) (place octets secret rest : List ℕ)
    → take (20 + length octets) (sealed code identifier place octets secret ++ rest)
    ≡ sealed code identifier place octets secret
take-sealed code identifier place octets secret rest =
    take_at (sealed code identifier place octets secret) rest (20 + length octets)
    (length-sealed code identifier place octets secret)

-- a packet that was sealed is read as its own attributes, with any octets after it
pub Framed-sealed : (code identifier : ℕ) (place secret behind : List ℕ)
    (attributes : List (ℕ × List ℕ)) → Fits attributes
    → Framed (sealed code identifier place (spellings attributes) secret ++ behind) code identifier
    (digest (head_octets code identifier (20 + length (spellings attributes))) place
    (spellings attributes) secret) attributes
Framed-sealed code identifier place secret behind attributes fits =
    let octets = spellings attributes in
    let packet = sealed code identifier place octets secret in
    let n = 20 + length octets in
    let long : length packet ≡ n = length-sealed code identifier place octets secret in
    let field : length_field (packet ++ behind) ≡ n = omega (arith, fits.few) in
    let whole : length (packet ++ behind) ≡ n + length behind =
    omega (arith, length-append packet behind, long) in
    record {
      size = omega (arith, whole);
      field = record {
        least = omega (arith, field);
        most = omega (arith, field, fits.few);
        there =
            omega (arith, field, whole);
      };
      sixteen = length-md5 (head_octets code identifier n ++ place ++ octets ++ secret);
      short = fits.short;
      front = ap (λ m. take m (packet ++ behind)) field ∙ take_at packet behind n long;
    }

pub IsRequestOf-request : (identifier : ℕ) (attributes : List (ℕ × List ℕ)) (secret behind : List ℕ)
    → Fits attributes → IsRequestOf
    (request_octets identifier (spellings attributes) secret ++ behind) identifier attributes
IsRequestOf-request identifier attributes secret behind fits = (
  digest (head_octets 4 identifier (20 + length (spellings attributes))) request_place
      (spellings attributes) secret,
  Framed-sealed 4 identifier request_place secret behind
      attributes fits,
)

-- the octets of a reply are one
pub IsReplyOf-reply : (identifier : ℕ) (authenticator : List ℕ) (attributes : List (ℕ × List ℕ))
    (secret : List ℕ) → Fits (proxy_states attributes)
    → IsReplyOf (reply_octets identifier authenticator attributes secret) identifier attributes
IsReplyOf-reply identifier authenticator attributes secret fits =
    let states = spellings (proxy_states attributes) in
    let packet = reply_octets identifier authenticator attributes secret in
    let framed = Framed-sealed 5 identifier authenticator secret []
    (proxy_states attributes) fits in
    let head = head_octets 5 identifier (20 + length states) in
    let sum = digest head authenticator states secret in
    let parts = append-nil packet in
    (sum, subst (λ xs. Framed xs 5 identifier sum (proxy_states attributes)) parts framed)
