-- Requests that are open, and stay so as octets arrive.
use Rattle.std.proofs.Common.{◌≡◌, ◌≤◌, ◌<◌, ◌+◌, ◌⊎◌, inl, inr, ℕ, zero, suc, Bool, true, false}
use Rattle.std.proofs.Common.{List, [], ◌∷◌, ◌++◌, length, take, drop, map, refl, ap, sym, subst}
use Rattle.std.proofs.Common.{◌∙◌, arith, append_assoc, length-append, length-take, Option, Some}
use Rattle.std.proofs.Common.{None, min, ◌≢◌}
use Rattle.std.specs.Prelude.{nat_lt, nat_le, if◌then◌else◌, codes, Result, Ok, Err}
use Rattle.std.proofs.lemmas.Bool.Decides.{nat_tests}
use Rattle.std.proofs.lemmas.List.{take-append-le, take-append-drop, length-map, take_all}
use Rattle.std.proofs.Math.Seq.{take-append_seam}
use Rattle.httparse.specs.Grammar.{RequestHead, print_request, ReadsRequest, HasNoRequest}
use Rattle.httparse.specs.Spans.{IsRequestAt, header_bytes, name_and_value}
use Rattle.httparse.specs.Spans.{IsRequestWithin, FindsRequest, RequestOverflows}
use Rattle.httparse.specs.declared.spans.HeaderSpan.{HeaderSpan}
use Rattle.httparse.specs.declared.spans.RequestSpans.{RequestSpans}
use Rattle.httparse.specs.declared.Error.{Error}
use Rattle.httparse.specs.declared.Status.{Status}
use Rattle.httparse.specs.declared.Status.TheVariants.{Complete, Partial}
use Rattle.httparse.specs.Outcome.{IfComplete, OnPartial, IsCompleteAnd}
use Rattle.httparse.proofs.GrammarLemmas.{ReadsRequest-append, request_unique}
use Rattle.acct_desk.specs.declared.framing.Reach.{Reach}
use Rattle.acct_desk.specs.declared.framing.Reach.TheVariants.{More, Whole, Bad, TooLarge}
use Rattle.acct_desk.specs.declared.request_reader.Watch.{Watch}
use Rattle.acct_desk.specs.Request.{Begins, IsHeadOf, IsExtent, reach_of, reach_of_fields}
use Rattle.acct_desk.specs.Request.{fields_of, body_length, values_of, is_empty, reach_of_length}
use Rattle.acct_desk.specs.Reading.{IsSettled}
use Rattle.acct_desk.specs.inner.Head.{HasNoHead}
use Rattle.acct_desk.specs.inner.Reading.{EndsInEmptyLine, NoHeadEnds, StaysOpen}
use Rattle.acct_desk.proofs.FramingLemmas.{front_begins, extent_at_front, extent_without_front}
use Rattle.acct_desk.proofs.HeadEndLemmas.{head_ends, nothing_ends}

within_or_past : (a b : ℕ) → (a ≤ b) ⊎ (b < a)
within_or_past zero b = inl (omega arith)
within_or_past (suc a) zero = inr (omega arith)
within_or_past (suc a) (suc b) =
    elim (within_or_past a b) [ inl h ↦ inl (omega arith) | inr h ↦ inr (omega arith) ]

-- ---- without a head

short_is_open : (there : ℕ) → there < 8192 → More ≡ reach_of None there
short_is_open there short = grind (arith, nat_tests)

open_is_short : (there : ℕ) → More ≡ reach_of None there → there < 8192
open_is_short there e = grind (arith, nat_tests)

headless_open : (bytes : List ℕ) → length bytes < 8192
    → ((head : RequestHead) → ¬ (Begins bytes head)) → IsExtent bytes More
headless_open bytes short none = (None, none, short_is_open (length bytes) short)

-- a head that is whole with further octets ends among them
no_head_came : (bytes more : List ℕ) → HasNoRequest bytes
    → NoHeadEnds (length bytes) (bytes ++ more) → HasNoRequest (bytes ++ more)
no_head_came bytes more none quiet head rest reads =
    let n = length (print_request head) in
    let front : take n (bytes ++ more) ≡ print_request head =
    ap (take n) reads.1 ∙ take-append_seam (print_request head) rest in
    let long : length (bytes ++ more) ≡ n + length rest =
    ap length reads.1 ∙ length-append (print_request head) rest in
    elim (within_or_past n (length bytes)) [
      | inl within ↦
          let began : bytes ≡ print_request head ++ drop n bytes = sym (take-append-drop n bytes)
          ∙ ap (λ bs. bs ++ drop n bytes) (sym (take-append-le n bytes more within) ∙ front) in
          none head (drop n bytes) (reads.0, began)
      | inr past ↦
          quiet n past (let fits : n ≤ length (bytes ++ more) = omega arith in fits)
          (subst EndsInEmptyLine (sym front) (head_ends head reads.0))
    ]

-- octets that are this few are all in the front
front_is_all : (bytes front : List ℕ) → front ≡ take (min (length bytes) 8192) bytes
    → length bytes < 8192 → front ≡ bytes
front_is_all bytes front is short =
    is ∙ take_all (min (length bytes) 8192) bytes (omega arith)

pub partial_stays : (watch : Watch) (bytes front : List ℕ)
    → front ≡ take (min (length bytes) 8192) bytes → length bytes < 8192 → HasNoRequest front
    → watch.next ≤ 8192 → watch.ends ≡ true → StaysOpen watch bytes
partial_stays watch bytes front is few looked near ends =
    let none : HasNoRequest bytes = subst HasNoRequest (front_is_all bytes front is few) looked in
    record {
      open_yet = headless_open bytes few (λ head begins. none head begins.reads.0 begins.reads.1);
      stays = λ more short quiet.
          headless_open (bytes ++ more)
          (let h : length (bytes ++ more) < 8192 = omega arith in h)
          (λ head begins. no_head_came bytes more none (quiet ends) head begins.reads.0
          begins.reads.1);
    }

-- ---- settled without a head

-- what begins with octets that no head of few fields can begin can't be begun by one either
pub never_settled : (bytes front : List ℕ) → front ≡ take (min (length bytes) 8192) bytes
    → RequestOverflows 64 front → IsSettled bytes
never_settled bytes front is overflows =
    let n = min (length bytes) 8192 in
    inr (λ more head begins.
    let whole : front ++ (drop n bytes ++ more) ≡ bytes ++ more =
    sym (append_assoc front (drop n bytes) more)
    ∙ ap (λ bs. (bs ++ drop n bytes) ++ more) is
    ∙ ap (λ bs. bs ++ more) (take-append-drop n bytes) in
    let many : 64 < length head.fields =
    overflows (drop n bytes ++ more) head begins.reads.0
    (subst (λ bs. ReadsRequest bs head begins.reads.0) (sym whole) begins.reads.1) in
    omega (arith, many, begins.few))

-- the parser answers each head of few fields
pub no_head_found : (front : List ℕ) (headers : List HeaderSpan)
    (r : Result (Status RequestSpans) Error) → FindsRequest front 64 headers r
    → ((spans : RequestSpans) → r ≢ Ok (Complete spans)) → HasNoHead front
no_head_found front headers r found other head rest reads =
    elim (within_or_past (length head.fields) 64) [
      | inl few ↦ absurd (none_complete _ r (found head rest reads few) other)
      | inr many ↦ many
    ]
  where
    none_complete : (P : RequestSpans → Type 0) (r : Result (Status RequestSpans) Error)
        → IsCompleteAnd r P → ((spans : RequestSpans) → r ≢ Ok (Complete spans)) → ⊥
    none_complete P (Ok (Complete spans)) fact other = other spans refl
    none_complete P (Ok Partial) fact other = fact
    none_complete P (Err e) fact other = fact

pub too_large_settled : (bytes front : List ℕ) → front ≡ take (min (length bytes) 8192) bytes
    → 8192 ≤ length bytes → HasNoHead front → IsSettled bytes
too_large_settled bytes front is large none =
    let reach : TooLarge ≡ reach_of None (length bytes) = grind (arith, nat_tests) in
    inl (TooLarge, extent_without_front _ bytes front TooLarge is refl none reach, λ e. cc)

-- ---- with a head

-- a head of few fields that begins an open request
open_head : (bytes : List ℕ) (head : RequestHead) (rest : List ℕ) → ReadsRequest bytes head rest
    → length head.fields ≤ 64 → (found : Option RequestHead) → IsHeadOf bytes found
    → More ≡ reach_of found (length bytes)
    → (length (print_request head) ≤ 8192)
    × (More ≡ reach_of_fields (length (print_request head)) (length bytes) (fields_of head))
open_head bytes head rest reads few (Some found) is reach =
    let same : found ≡ head = (request_unique bytes found head _ _ is.reads.1 reads).0 in
    let P : RequestHead → Type 0 = λ h. (length (print_request h) ≤ 8192)
    × (More ≡ reach_of_fields (length (print_request h)) (length bytes) (fields_of h)) in
    subst P same (is.short, reach)
open_head bytes head rest reads few None is reach =
    let there = open_is_short (length bytes) reach in
    let long : length bytes ≡ length (print_request head) + length rest =
    ap length reads.1 ∙ length-append (print_request head) rest in
    absurd (is head (record {
      reads = (rest, reads);
      short = let h : length (print_request head) ≤ 8192 = omega arith in h;
      few = few;
    }))

whole_later : (head body there : ℕ) → there < head + body → More
    ≡ (if nat_le (head + body) there then Whole (head + body) else More)
whole_later head body there short = grind (arith, nat_tests)

waits_for : (large : Bool) (head body there : ℕ) → More
    ≡ (if large then TooLarge
    else (if nat_le (head + body) there then Whole (head + body) else More))
    → (later : ℕ) → later < head + body → More
    ≡ (if large then TooLarge
    else (if nat_le (head + body) later then Whole (head + body) else More))
waits_for true head body there e later short = absurd (cc)
waits_for false head body there e later short = whole_later head body later short

-- an open request with a head waits for a body, and stays open until that is there
open_body : (plain : Bool) (length_is : Option ℕ) (head there : ℕ)
    → More ≡ (if plain then reach_of_length head there length_is else Bad)
    → (body : ℕ) × (length_is ≡ Some body)
    × ((later : ℕ) → later < head + body
    → More ≡ (if plain then reach_of_length head later length_is else Bad))
open_body false length_is head there e = absurd (cc)
open_body true None head there e = absurd (cc)
open_body true (Some body) head there e =
    (body, refl, waits_for (nat_lt 4096 body) head body there e)

few_fields : (bytes : List ℕ) (headers : List HeaderSpan) (spans : RequestSpans)
    (head : RequestHead) → IsRequestAt bytes headers spans head
    → length headers ≡ 64 → length head.fields ≤ 64
few_fields bytes headers spans head at room =
    let count : length (take spans.headers headers) ≡ length head.fields =
    sym (length-map (take spans.headers headers) (header_bytes bytes)) ∙ ap length at.fields
    ∙ length-map head.fields name_and_value in
    let cut = length-take spans.headers headers in
    omega arith

-- the extent by a head that was found in the front
pub extent_found : (bytes front : List ℕ) (headers : List HeaderSpan) (spans : RequestSpans)
    (head : RequestHead) (reach : Reach) → front ≡ take (min (length bytes) 8192) bytes
    → IsRequestAt front headers spans head → IsRequestWithin front headers spans
    → length headers ≡ 64
    → reach ≡ reach_of_fields spans.len (length bytes)
    (map (header_bytes front) (take spans.headers headers))
    → IsExtent bytes reach
extent_found bytes front headers spans head reach is at within room reached =
    let small : min (length bytes) 8192 ≤ 8192 = omega arith in
    let few = few_fields front headers spans head at room in
    extent_at_front _ bytes front headers spans reach is small
    (record { head = head; is_at = at; few = few; within = within }) reached

pub complete_stays : (watch : Watch) (bytes front : List ℕ) (headers : List HeaderSpan)
    (spans : RequestSpans) (head : RequestHead) → front ≡ take (min (length bytes) 8192) bytes
    → IsExtent bytes More → IsRequestAt front headers spans head → length headers ≡ 64
    → ((body : ℕ) → body_length (values_of (codes "content-length")
    (map (header_bytes front) (take spans.headers headers))) ≡ Some body
    → watch.next ≤ spans.len + body)
    → StaysOpen watch bytes
complete_stays watch bytes front headers spans head cut is at room next =
    let n = min (length bytes) 8192 in
    let rest = drop spans.len front ++ drop n bytes in
    let P : List ℕ → Type 0 = λ bs. ReadsRequest bs head (drop spans.len front) in
    let reads = front_begins n bytes head (drop spans.len front) (subst P cut at.reads) in
    let few = few_fields front headers spans head at room in
    let open_yet = open_head bytes head rest reads few is.0 is.1 is.2 in
    let fields = fields_of head in
    let waits = open_body (is_empty (values_of (codes "transfer-encoding") fields))
    (body_length (values_of (codes "content-length") fields)) (length (print_request head))
    (length bytes) open_yet.1 in
    let end : watch.next ≤ spans.len + waits.0 = next waits.0
    (ap (λ fs. body_length (values_of (codes "content-length") fs)) at.fields ∙ waits.1) in
    let len = at.len in
    record {
      open_yet = is;
      stays = λ more short quiet. (
        Some head,
        record {
          reads = (rest ++ more, ReadsRequest-append bytes head rest more reads);
          short = open_yet.0;
          few = few;
        },
        waits.2 (length (bytes ++ more))
            (let short : length (bytes ++ more) < length (print_request head) + waits.0
            = omega arith in short),
      );
    }

-- ---- what the parser says

pub from_partial : {A : Type 0} (r : Result (Status A) Error) (status : Status A) (P : Type 0)
    → r ≡ Ok status → status ≡ Partial → OnPartial r P → P
from_partial (Ok Partial) status P is partial fact = fact
from_partial (Ok (Complete a)) status P is partial fact = absurd (cc)
from_partial (Err e) status P is partial fact = absurd (cc)

pub from_complete : {A : Type 0} (r : Result (Status A) Error) (status : Status A) (a : A)
    (P : A → Type 0) → r ≡ Ok status → status ≡ Complete a → IfComplete r P → P a
from_complete (Ok Partial) status a P is complete fact = absurd (cc)
from_complete (Ok (Complete b)) status a P is complete fact =
    let same : b ≡ a = cc in subst P same fact
from_complete (Err e) status a P is complete fact = absurd (cc)

-- ---- before the first read, and from read to read

pub nothing_stays : StaysOpen (record { next = 1; ends = true }) []
nothing_stays =
    let open_yet : IsExtent [] More = headless_open [] (omega arith) (λ head begins.
    nothing_ends (print_request head) begins.reads.0 (head_ends head begins.reads.1.0)
    begins.reads.1.1)
    in
    record {
      open_yet = open_yet;
      stays = λ more short quiet. nothing_more more short open_yet;
    }
  where
    nothing_more : (more : List ℕ) → length more < 1 → IsExtent [] More → IsExtent more More
    nothing_more [] short is = is
    nothing_more (x ∷ more) short is = absurd (omega arith)

quiet_on : (n : ℕ) (bytes more : List ℕ) → NoHeadEnds n bytes
    → NoHeadEnds (length bytes) (bytes ++ more) → NoHeadEnds n (bytes ++ more)
quiet_on n bytes more first later k past fits ends =
    elim (within_or_past k (length bytes)) [
      | inl within ↦ first k past within
          (subst EndsInEmptyLine (take-append-le k bytes more within) ends)
      | inr beyond ↦ later k beyond fits ends
    ]

open_on : (watch : Watch) (bytes given : List ℕ) → StaysOpen watch bytes
    → length (bytes ++ given) < watch.next
    → (watch.ends ≡ true → NoHeadEnds (length bytes) (bytes ++ given))
    → StaysOpen watch (bytes ++ given)
open_on watch bytes given was short quiet = record {
  open_yet = was.stays given short quiet;
  stays = λ more short' quiet'.
      let P : List ℕ → Type 0 = λ bs. length bs < watch.next
      → (watch.ends ≡ true → NoHeadEnds (length bytes) bs) → IsExtent bs More in
      subst P (sym (append_assoc bytes given more)) (was.stays (given ++ more)) short'
      (λ ends. quiet_on (length bytes) (bytes ++ given) more (quiet ends) (quiet' ends));
}

pub read_on : (watch : Watch) (bytes given bytes' seen : List ℕ) (before : ℕ)
    → StaysOpen watch bytes → bytes' ≡ bytes ++ given → seen ≡ bytes' → before ≡ length bytes
    → length seen < watch.next → (watch.ends ≡ true → NoHeadEnds before seen)
    → StaysOpen watch bytes'
read_on watch bytes given bytes' seen before was is same there short quiet =
    let P : List ℕ → Type 0 = λ bs. length bs < watch.next
    → (watch.ends ≡ true → NoHeadEnds (length bytes) bs) → StaysOpen watch bs in
    let Q : List ℕ → Type 0 = λ bs. length bs < watch.next in
    let S : List ℕ → Type 0 = λ bs. watch.ends ≡ true → NoHeadEnds before bs in
    let T : ℕ → Type 0 = λ n. watch.ends ≡ true → NoHeadEnds n bytes' in
    subst P (sym is) (open_on watch bytes given was) (subst Q same short)
    (subst T there (subst S same quiet))
