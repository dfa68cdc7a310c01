-- Packets and their authenticators (RFC 2866, section 3).
use Rattle.std.specs.Prelude.{◌≡◌, ◌==◌, ℕ, ◌+◌, ◌*◌, ◌<◌, ◌≤◌, List, ◌∷◌, ◌++◌, length, take, drop}
use Rattle.std.specs.Prelude.{replicate, slice_index}
use Rattle.std.specs.List.{filter}
use Rattle.byteorder.specs.Endian.{big_bytes}
use Rattle.md5.specs.Md5.{md5}
use Rattle.radius_codec.specs.Attributes.{spellings, AreShort, Spells}
use Rattle.radius_codec.specs.declared.attribute_types.TheConstants.{PROXY_STATE}
use Rattle.radius_codec.specs.declared.codes.TheConstants.{ACCOUNTING_REQUEST, ACCOUNTING_RESPONSE}
use Rattle.radius_codec.specs.declared.packet.CodecError.{CodecError}
use Rattle.radius_codec.specs.declared.packet.CodecError.TheVariants.{TooShort, BadLength}
use Rattle.radius_codec.specs.declared.packet.CodecError.TheVariants.{BadAttribute}

-- The Length field: the octets at places 2 and 3, the high one first (RFC 2866, section 3).
abbrev pub length_field : List ℕ → ℕ
length_field bytes = 256 * slice_index bytes 2 + slice_index bytes 3

-- The Length field is one that a packet may have, and as many octets are there (RFC 2865, section
-- 3).
pub record HasFront (bytes : List ℕ) : Type 0 where
  pub least : 20 ≤ length_field bytes
  pub most : length_field bytes ≤ 4096
  pub there : length_field bytes ≤ length bytes

-- The octets that the Length field counts; what follows them is padding (RFC 2866, section 3).
abbrev pub front_of : List ℕ → List ℕ
front_of bytes = take (length_field bytes) bytes

-- What a `Front` keeps: its octets are as many as their Length field counts.
pub record IsFront (octets : List ℕ) : Type 0 where
  pub field : HasFront octets
  pub whole : length octets ≡ length_field octets

-- The bytes begin with a packet of this code, identifier, authenticator and list of attributes (RFC
-- 2866, section 3).
pub record Framed (bytes : List ℕ) (code identifier : ℕ) (authenticator : List ℕ)
    (attributes : List (ℕ × List ℕ)) : Type 0 where
  pub size : 20 ≤ length bytes
  pub field : HasFront bytes
  pub sixteen : length authenticator ≡ 16
  pub short : AreShort attributes
  pub front : front_of bytes ≡ code ∷ identifier ∷ slice_index bytes 2 ∷ slice_index bytes 3
      ∷ (authenticator ++ spellings attributes)

-- What is wrong with bytes that have no front.
abbrev pub IsFrontFault : List ℕ → CodecError → Type 0
IsFrontFault bytes TooShort = length bytes < 20
IsFrontFault bytes BadLength = (20 ≤ length bytes) × (HasFront bytes → ⊥)
IsFrontFault bytes BadAttribute = ⊥

-- What is wrong with bytes that begin with no packet: they have no front, or no list of attributes
-- is spelled after the first twenty octets of it (RFC 2866, section 5).
abbrev pub IsFault : List ℕ → CodecError → Type 0
IsFault bytes TooShort = IsFrontFault bytes TooShort
IsFault bytes BadLength = IsFrontFault bytes BadLength
IsFault bytes BadAttribute =
    (20 ≤ length bytes) × HasFront bytes
    × ((attributes : List (ℕ × List ℕ)) → Spells (drop 20 (front_of bytes)) attributes → ⊥)

-- ---- Authenticators

-- A packet's first four octets: code, identifier and Length.
abbrev pub head_octets : ℕ → ℕ → ℕ → List ℕ
head_octets code identifier size = code ∷ identifier ∷ big_bytes 2 size

-- The digest that an authenticator is: MD5 over the first four octets, the sixteen in the
-- authenticator's place, the attributes and the secret (RFC 2866, section 3).
abbrev pub digest : List ℕ → List ℕ → List ℕ → List ℕ → List ℕ
digest head place octets secret = md5 (head ++ place ++ octets ++ secret)

-- A request's digest has sixteen zeros in the authenticator's place (RFC 2866, section 3).
abbrev pub request_place : List ℕ
request_place = replicate 16 0

-- The front's authenticator is the digest of the front, with these octets in the authenticator's
-- place, and the secret.
abbrev pub HasDigest : List ℕ → List ℕ → List ℕ → Type 0
HasDigest front place secret =
    take 16 (drop 4 front) ≡ digest (take 4 front) place (drop 20 front) secret

-- The front is signed as a request: its authenticator is its Request Authenticator.
abbrev pub IsSigned : List ℕ → List ℕ → Type 0
IsSigned front secret = HasDigest front request_place secret

-- The front is signed as a response to a request of this authenticator, which takes the
-- authenticator's place in the digest: its authenticator is its Response Authenticator (RFC 2866,
-- section 3).
abbrev pub IsSignedResponse : List ℕ → List ℕ → List ℕ → Type 0
IsSignedResponse front request_authenticator secret = HasDigest front request_authenticator secret

-- A packet of these attribute octets, with its digest as the authenticator.
abbrev pub sealed : ℕ → ℕ → List ℕ → List ℕ → List ℕ → List ℕ
sealed code identifier place octets secret =
    let head = head_octets code identifier (20 + length octets) in
    head ++ digest head place octets secret ++ octets

-- ---- Requests and replies

-- The Accounting-Request of this identifier and these attribute octets (RFC 2866, section 4.1).
abbrev pub request_octets : ℕ → List ℕ → List ℕ → List ℕ
request_octets identifier octets secret =
    sealed ACCOUNTING_REQUEST identifier request_place octets secret

-- The bytes begin with an Accounting-Request of this identifier and list of attributes.
abbrev pub IsRequestOf : List ℕ → ℕ → List (ℕ × List ℕ) → Type 0
IsRequestOf bytes identifier attributes =
    (authenticator : List ℕ)
    × Framed bytes ACCOUNTING_REQUEST identifier authenticator attributes

-- The attributes of the type Proxy-State in their order (RFC 2865, section 5.33).
abbrev pub proxy_states : List (ℕ × List ℕ) → List (ℕ × List ℕ)
proxy_states attributes = filter (λ attribute. attribute.0 == PROXY_STATE) attributes

-- The Accounting-Response to a request of this identifier, authenticator and list of attributes
-- (RFC 2866, section 4.2): its digest has the request's authenticator in the place of its own.
abbrev pub reply_octets : ℕ → List ℕ → List (ℕ × List ℕ) → List ℕ → List ℕ
reply_octets identifier authenticator attributes secret =
    sealed ACCOUNTING_RESPONSE identifier authenticator (spellings (proxy_states attributes)) secret

-- The bytes begin with an Accounting-Response to a request of this identifier and list of
-- attributes: its identifier, its Proxy-States and no other attribute (RFC 2866, section 4.2).
abbrev pub IsReplyOf : List ℕ → ℕ → List (ℕ × List ℕ) → Type 0
IsReplyOf bytes identifier attributes =
    (authenticator : List ℕ)
    × Framed bytes ACCOUNTING_RESPONSE identifier authenticator (proxy_states attributes)
