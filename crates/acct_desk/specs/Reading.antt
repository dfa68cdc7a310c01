-- When the reading of a request ends.
use Rattle.std.specs.Prelude.{◌≡◌, ◌≢◌, ◌⊎◌, ◌≤◌, ℕ, List, ◌++◌, length}
use Rattle.std.specs.Prelude.{Option}
use Rattle.std.specs.Io.KnownBytes.{IsAtEnd}
use Rattle.httparse.specs.Grammar.{RequestHead}
use Rattle.acct_desk.specs.declared.framing.Reach.{Reach}
use Rattle.acct_desk.specs.declared.framing.Reach.TheVariants.{More}
use Rattle.acct_desk.specs.Request.{Begins, IsExtent}

-- whatever octets follow, no head of at most 64 header fields begins them
abbrev pub NeverBegins : List ℕ → Type 0
NeverBegins bytes = (more : List ℕ) (head : RequestHead) → ¬ (Begins (bytes ++ more) head)

-- the extent is known, or no further octets can make a request of them
abbrev pub IsSettled : List ℕ → Type 0
IsSettled bytes = ((reach : Reach) × IsExtent bytes reach × (reach ≢ More)) ⊎ NeverBegins bytes

-- reading ends: the octets are settled, there are 12,288 of them, or the reader has no more
abbrev pub EndsReading : List ℕ → Option (List ℕ) → Type 0
EndsReading bytes left = IsSettled bytes ⊎ (length bytes ≡ 12288) ⊎ IsAtEnd left

-- reading went no further than it had to: before the last octets, at most 1,024 of one read, the
-- request was open
abbrev pub GoesNoFurther : List ℕ → Type 0
GoesNoFurther bytes = (before : List ℕ) × (last : List ℕ) × (bytes ≡ before ++ last)
    × (length last ≤ 1024) × IsExtent before More
