-- One read of a request, and what keeps it open.
use Rattle.std.specs.Prelude.{◌≡◌, ◌<◌, ◌≤◌, ℕ, true, false, List, ◌∷◌, ◌++◌, length}
use Rattle.std.specs.Prelude.{take}
use Rattle.std.specs.Prelude.{Option}
use Rattle.std.specs.Io.KnownBytes.{Consumes}
use Rattle.httparse.specs.Grammar.{LineEnd, print_end}
use Rattle.httparse.specs.Pieces.{is_newline}
use Rattle.acct_desk.specs.declared.framing.Reach.TheVariants.{More}
use Rattle.acct_desk.specs.declared.request_reader.Watch.{Watch}
use Rattle.acct_desk.specs.Request.{IsExtent}

-- some octets of the reader, at most 1,024, are added at the end of those that are there
abbrev pub ReadsOn : Option (List ℕ) → Option (List ℕ) → List ℕ → List ℕ → Type 0
ReadsOn left left' bytes bytes' = (given : List ℕ) × Consumes left left' given
    × (bytes' ≡ bytes ++ given) × (length given ≤ 1024)

-- the octets end in an empty line after a line that isn't empty, as each head does (RFC 9112,
-- section 2.1)
pub record EndsInEmptyLine (bytes : List ℕ) : Type 0 where
  pub before : List ℕ
  pub last : ℕ
  pub line_end : LineEnd
  pub empty : LineEnd
  pub written : is_newline last ≡ false
  pub is : bytes ≡ (before ++ last ∷ print_end line_end) ++ print_end empty

-- no head ends after the first so many octets
abbrev pub NoHeadEnds : ℕ → List ℕ → Type 0
NoHeadEnds first bytes = (k : ℕ) → first < k → k ≤ length bytes → ¬ (EndsInEmptyLine (take k bytes))

-- the request is open, and stays so while it is shorter than `watch.next` and, if `watch.ends`, no
-- head ends
pub record StaysOpen (watch : Watch) (bytes : List ℕ) : Type 0 where
  pub open_yet : IsExtent bytes More
  pub stays : (more : List ℕ) → length (bytes ++ more) < watch.next
      → (watch.ends ≡ true → NoHeadEnds (length bytes) (bytes ++ more))
      → IsExtent (bytes ++ more) More
