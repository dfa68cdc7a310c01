-- HMAC with MD5 (RFC 2104, section 2), under keys of at most a block of 64 octets.
use Rattle.std.specs.Prelude.{ℕ, ◌-◌, List, length, map, ◌++◌, replicate, bit_xor}
use Rattle.md5.specs.Md5.{md5}

-- The key, with zeros behind it up to a block, and this octet added to each octet by exclusive or.
abbrev pub key_block : List ℕ → ℕ → List ℕ
key_block key pad = map (λ octet. bit_xor octet pad) (key ++ replicate (64 - length key) 0)

-- The digest of a message under a key.
abbrev pub hmac : List ℕ → List ℕ → List ℕ
hmac key message = md5 (key_block key 0x5c ++ md5 (key_block key 0x36 ++ message))
