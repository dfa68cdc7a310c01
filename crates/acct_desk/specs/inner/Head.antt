-- A parsed head, by the spans of its parts.
use Rattle.std.specs.Prelude.{ℕ, ◌<◌, ◌≤◌, List, length}
use Rattle.httparse.specs.Grammar.{RequestHead, ReadsRequest}
use Rattle.httparse.specs.Spans.{IsRequestAt, IsRequestWithin}
use Rattle.httparse.specs.declared.spans.HeaderSpan.{HeaderSpan}
use Rattle.httparse.specs.declared.spans.RequestSpans.{RequestSpans}

-- the spans are those of a head that begins the front and has at most 64 fields
pub record IsHeadAt (front : List ℕ) (headers : List HeaderSpan) (spans : RequestSpans) : Type 0
  where
    pub head : RequestHead
    pub is_at : IsRequestAt front headers spans head
    pub few : length head.fields ≤ 64
    pub within : IsRequestWithin front headers spans

-- each head that begins the front has more than 64 fields
abbrev pub HasNoHead : List ℕ → Type 0
HasNoHead front = (head : RequestHead) (rest : List ℕ) → ReadsRequest front head rest
    → 64 < length head.fields
