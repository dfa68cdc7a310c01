-- Secrets that sign.
use Rattle.std.specs.Prelude.{◌≡◌, ℕ, nat_le, Bool, true, ◌&&◌, List, length}

-- 16 to 64 octets, so that a secret is hard to guess and fits a block of HMAC (RFC 2104, section 3)
abbrev pub is_secret : List ℕ → Bool
is_secret octets = nat_le 16 (length octets) && nat_le (length octets) 64

-- what each secret keeps
pub record IsSecret (octets : List ℕ) : Type 0 where
  pub fits : is_secret octets ≡ true
