-- What the queries of a walk show: the member at the least key of those that lie ahead.
use Rattle.std.specs.Prelude.{◌≡◌, ℕ, List, Option, Some, None}
use Rattle.std.specs.declared.cmp.Ordering.{Ordering}
use Rattle.std.specs.declared.cmp.Ordering.TheVariants.{Less}
use Rattle.acct_book.specs.declared.key.Key.{Key}
use Rattle.acct_book.specs.Maps.{octets_cmp}

-- the member at the least key that lies ahead, or none if no key ahead has a member
abbrev pub IsLeast : {K X : Type 0} → (K → K → Ordering) → (K → Option X) → (K → Type 0)
    → Option (K × X) → Type 0
IsLeast {K} cmp at ahead None = (key : K) → ahead key → at key ≡ None
IsLeast {K} cmp at ahead (Some (least, member)) = (at least ≡ Some member) × ahead least
    × ((key : K) → ahead key → cmp key least ≡ Less → at key ≡ None)

-- a later session of the same client
abbrev pub IsWithin : Key → Key → Type 0
IsWithin after key = (after.client ≡ key.client) × (octets_cmp after.session key.session ≡ Less)

-- a session of a later client
abbrev pub IsBeyond : List ℕ → Key → Type 0
IsBeyond client key = octets_cmp client key.client ≡ Less
