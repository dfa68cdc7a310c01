-- The front of the bytes, which is searched for a head.
use Rattle.std.proofs.Common.{◌≡◌, ◌≤◌, ◌-◌, ◌+◌, ℕ, min, Option, Some, None, arith, length-append}
use Rattle.std.proofs.Common.{length-take, map, List, ◌++◌, length, take, drop, refl, ap, sym}
use Rattle.std.proofs.Common.{subst, ◌∙◌}
use Rattle.std.proofs.lemmas.List.{take-append-drop}
use Rattle.std.proofs.Math.Seq.{take-append-add}
use Rattle.httparse.specs.Grammar.{RequestHead, print_request, ReadsRequest}
use Rattle.httparse.proofs.GrammarLemmas.{ReadsRequest-append, request_unique}
use Rattle.httparse.specs.Spans.{header_bytes, span_bytes}
use Rattle.httparse.specs.declared.spans.HeaderSpan.{HeaderSpan}
use Rattle.httparse.specs.declared.spans.RequestSpans.{RequestSpans}
use Rattle.acct_desk.specs.declared.framing.Reach.{Reach}
use Rattle.acct_desk.specs.Request.{Begins, IsHeadOf, IsExtent, reach_of, reach_of_fields}
use Rattle.std.specs.Prelude.{IsUtf8}
use Rattle.acct_desk.specs.inner.Head.{IsHeadAt, HasNoHead}

-- ---- the front

pub front_begins : (n : ℕ) (bytes : List ℕ) (head : RequestHead) (rest : List ℕ)
    → ReadsRequest (take n bytes) head rest → ReadsRequest bytes head (rest ++ drop n bytes)
front_begins n bytes head rest reads =
    let P : List ℕ → Type 0 = λ bs. ReadsRequest bs head (rest ++ drop n bytes) in
    subst P (take-append-drop n bytes)
    (ReadsRequest-append (take n bytes) head rest (drop n bytes) reads)

take_front : (n : ℕ) (front rest : List ℕ) → length front ≤ n
    → take n (front ++ rest) ≡ front ++ take (n - length front) rest
take_front n front rest short =
    let split : length front + (n - length front) ≡ n = omega arith in
    sym (ap (λ k. take k (front ++ rest)) split) ∙ take-append-add front rest (n - length front)

pub begins_front : (n : ℕ) (bytes : List ℕ) (head : RequestHead) (rest : List ℕ)
    → length (print_request head) ≤ n → ReadsRequest bytes head rest
    → ReadsRequest (take n bytes) head (take (n - length (print_request head)) rest)
begins_front n bytes head rest short reads =
    (reads.0, ap (take n) reads.1 ∙ take_front n (print_request head) rest short)

pub no_head : (n : ℕ) (bytes : List ℕ) → n ≡ min (length bytes) 8192 → HasNoHead (take n bytes)
    → (head : RequestHead) → ¬ (Begins bytes head)
no_head n bytes is none head begins =
    let reads = begins.reads.1 in
    let long : length bytes ≡ length (print_request head) + length begins.reads.0 =
    ap length reads.1 ∙ length-append (print_request head) begins.reads.0 in
    let short = begins.short in
    let fits : length (print_request head) ≤ n = omega arith in
    let many = none head _ (begins_front n bytes head begins.reads.0 fits reads) in
    let few = begins.few in
    omega arith

-- ---- the extent

pub head_begins : (n : ℕ) (bytes : List ℕ) (headers : List HeaderSpan) (spans : RequestSpans)
    → n ≤ 8192
    → (at : IsHeadAt (take n bytes) headers spans) → Begins bytes at.head
head_begins n bytes headers spans small at =
    let fits = at.within.section.len_fits in
    let len = at.is_at.len in
    let short : length (print_request at.head) ≤ 8192 = omega (arith, length-take n bytes) in
    record {
      reads = (_, front_begins n bytes at.head _ at.is_at.reads);
      short = short;
      few =
          at.few;
    }

pub extent_at : (n : ℕ) (bytes : List ℕ) (headers : List HeaderSpan) (spans : RequestSpans)
    (reach : Reach) → n ≤ 8192
    → IsHeadAt (take n bytes) headers spans
    → reach ≡ reach_of_fields spans.len (length bytes)
    (map (header_bytes (take n bytes)) (take spans.headers headers))
    → IsExtent bytes reach
extent_at n bytes headers spans reach small at is = (
  Some at.head,
  head_begins n bytes headers spans small at,
  is
      ∙ rw (at.is_at.len, at.is_at.fields) refl,
)

pub extent_without : (n : ℕ) (bytes : List ℕ) (reach : Reach) → n ≡ min (length bytes) 8192
    → HasNoHead (take n bytes)
    → reach ≡ reach_of None (length bytes) → IsExtent bytes reach
extent_without n bytes reach is none reached = (None, no_head n bytes is none, reached)

-- ---- the head

pub target_text : (front : List ℕ) (headers : List HeaderSpan) (spans : RequestSpans)
    → IsHeadAt front headers spans
    → IsUtf8 (span_bytes front spans.path)
target_text front headers spans at = rw at.is_at.path at.is_at.reads.0.target_text

-- the head that begins the bytes is one
pub IsHeadOf_unique : (bytes : List ℕ) (a b : Option RequestHead) → IsHeadOf bytes a
    → IsHeadOf bytes b → a ≡ b
IsHeadOf_unique bytes (Some a) (Some b) x y =
    ap Some (request_unique bytes a b _ _ x.reads.1 y.reads.1).0
IsHeadOf_unique bytes (Some a) None x y = absurd (y a x)
IsHeadOf_unique bytes None (Some b) x y = absurd (x b y)
IsHeadOf_unique bytes None None x y = refl

pub extent_at_front : (n : ℕ) (bytes front : List ℕ) (headers : List HeaderSpan)
    (spans : RequestSpans) (reach : Reach)
    → front ≡ take n bytes → n ≤ 8192 → IsHeadAt front headers spans
    → reach ≡ reach_of_fields spans.len (length bytes)
    (map (header_bytes front) (take spans.headers headers))
    → IsExtent bytes reach
extent_at_front n bytes front headers spans reach is small at reached =
    extent_at n bytes headers spans reach small (rw is at at) (rw is at reached)

pub extent_without_front : (n : ℕ) (bytes front : List ℕ) (reach : Reach) → front ≡ take n bytes
    → n ≡ min (length bytes) 8192
    → HasNoHead front → reach ≡ reach_of None (length bytes) → IsExtent bytes reach
extent_without_front n bytes front reach is bound none reached =
    extent_without n bytes reach bound (rw is at none) reached
