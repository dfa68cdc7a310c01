-- How a reader continues, and where it ends.
use Rattle.std.proofs.Common.{◌≡◌, ◌+◌, ◌-◌, ◌*◌, ◌/◌, ◌≤◌, ◌<◌, ℕ, List, ◌++◌, length, take, drop}
use Rattle.std.proofs.Common.{Option, Some, None, refl, arith, sym, ◌∙◌, ap, subst}
use Rattle.std.proofs.Common.{take_at, drop_at, drop-drop, slice_index}
use Rattle.std.proofs.Common.{inl, inr, take_all}
use Rattle.std.proofs.lemmas.List.{length-drop, length-take, length-append, append-nil}
use Rattle.std.proofs.Math.Nat.{div-eq_of_lt-le, div-eq_of_lt, le-div_iff_mul-le}
use Rattle.std.specs.Prelude.{IfOk, IfSome, Result, Ok, Err}
use Rattle.std.specs.Io.KnownBytes.{Consumes, IsAtEnd}
use Rattle.sqlite_wal.specs.Format.{part, be32, IsSigned}
use Rattle.sqlite_wal.specs.Recovery.{frames_len, frame_at, header}
use Rattle.sqlite_wal.specs.PageSize.{IsPageSize}
use Rattle.acct_sql_log.specs.declared.damage.Damage.{Damage}
use Rattle.acct_sql_log.specs.declared.damage.Damage.TheVariants as damage
use Rattle.acct_sql_log.specs.declared.log_reader.Unread.{Unread}
use Rattle.acct_sql_log.specs.declared.scanner.Scanner.{Scanner}
use Rattle.sqlite_wal.proofs.PartLemmas.{length-part}
use Rattle.acct_sql_log.specs.Chain.{page_size, frame_in, frame_count}
use Rattle.acct_sql_log.specs.Damage.{Finds, IsHeaderDamage, IsFrameDamage, IsCutShort}
use Rattle.acct_sql_log.specs.Scanner.{HasTaken}
use Rattle.acct_sql_log.specs.inner.Reading.{IsReadTo}

-- what a read has taken is the next part of the octets
pub read_on : (octets : List ℕ) (at n : ℕ) (old new : Option (List ℕ)) (bs : List ℕ)
    → IsReadTo octets at old → Consumes old new bs → length bs ≡ n
    → (part octets at n ≡ bs) × IsReadTo octets (at + n) new
unfolding part
read_on octets at n old None bs (within, is) eats len =
    absurd (subst (λ o. Consumes o None bs) is eats)
read_on octets at n old (Some ys) bs (within, is) eats len =
    let rest : drop at octets ≡ bs ++ ys = subst (λ o. Consumes o (Some ys) bs) is eats in
    let sizes : length octets - at ≡ length bs + length ys =
    sym (length-drop at octets) ∙ ap length rest ∙ length-append bs ys in
    let left : drop (at + n) octets ≡ ys =
    sym (drop-drop n at octets) ∙ ap (drop n) rest ∙ drop_at bs ys n len in
    (ap (take n) rest ∙ take_at bs ys n len, (omega arith, ap Some (sym left)))

-- what is left at the end
pub read_out : (octets : List ℕ) (at n : ℕ) (old new : Option (List ℕ)) (bs : List ℕ)
    → IsReadTo octets at old → Consumes old new bs → IsAtEnd new → length bs ≡ n
    → at + n ≡ length octets
read_out octets at n old None bs (within, is) eats end len =
    absurd (subst (λ o. Consumes o None bs) is eats)
read_out octets at n old (Some ys) bs (within, is) eats end len =
    let rest : drop at octets ≡ bs ++ ys = subst (λ o. Consumes o (Some ys) bs) is eats in
    let sizes : length octets - at ≡ length bs + length ys =
    sym (length-drop at octets) ∙ ap length rest ∙ length-append bs ys in
    let none : length ys ≡ 0 = ap length end in
    omega arith

-- what is left is the part of a frame, if it has fewer octets than one
pub read_part : (octets : List ℕ) (frames n : ℕ) (old new : Option (List ℕ)) (bs : List ℕ)
    → IsReadTo octets (frame_at (page_size octets) frames) old → Consumes old new bs → IsAtEnd new
    → length bs ≡ n → n < 24 + page_size octets → bs ≡ frame_in octets frames
unfolding part
read_part octets frames n old None bs (within, is) eats end len few =
    absurd (subst (λ o. Consumes o None bs) is eats)
read_part octets frames n old (Some ys) bs (within, is) eats end len few =
    let at = frame_at (page_size octets) frames in
    let size = 24 + page_size octets in
    let rest : drop at octets ≡ bs ++ ys = subst (λ o. Consumes o (Some ys) bs) is eats in
    let all : drop at octets ≡ bs = rest ∙ ap (λ (l : List ℕ). bs ++ l) end ∙ append-nil bs in
    sym (ap (take size) all ∙ take_all size bs (omega arith))

-- each of the whole frames has a head
pub has_head : (octets : List ℕ) (i : ℕ) → i < frame_count octets → 24 ≤ length (frame_in octets i)
unfolding frames_len
has_head octets i low =
    let size = 24 + page_size octets in
    let few : (i + 1) * size ≤ length octets - 32 =
    (le-div_iff_mul-le {k = size} (omega arith)).0 (omega arith) in
    let whole = length-part octets (frame_at (page_size octets) i) size (omega arith) in
    omega arith

-- behind the end of the log no frame has one
part_within : (octets : List ℕ) (at n : ℕ) → length (part octets at n) ≤ length octets - at
unfolding part
part_within octets at n =
    let taken = length-take n (drop at octets) in
    let left = length-drop at octets in
    omega arith

-- these are all whole frames, if fewer octets are left than one more frame has
pub counts_frames : (octets : List ℕ) (frames n : ℕ)
    → frame_at (page_size octets) frames + n ≡ length octets → n < 24 + page_size octets
    → frame_count octets ≡ frames
unfolding frames_len
counts_frames octets frames n whole few =
    let size = 24 + page_size octets in
    let low : frames * size ≤ length octets - 32 = omega arith in
    let high : length octets - 32 < (frames + 1) * size = omega arith in
    div-eq_of_lt-le size low high

-- a log that is damaged neither in its header nor in a frame
pub is_sound : (octets : List ℕ) → ¬ IsHeaderDamage octets
    → ((frame commits : ℕ) → ¬ IsFrameDamage octets frame commits)
    → ((frame commits : ℕ) → ¬ IsCutShort octets frame commits) → Finds octets None
is_sound octets head frames short damage.Header found = head found
is_sound octets head frames short (damage.Frame frame commits) (inl found) = frames frame commits found
is_sound octets head frames short (damage.Frame frame commits) (inr found) = short frame commits found

-- octets that are fewer than a header's are no damaged log
pub short_is_sound : (octets : List ℕ) → length octets < 32 → Finds octets None
short_is_sound octets few = is_sound octets
    (λ found. let whole = found.whole in omega arith)
    (λ frame commits found.
    let none : length octets - 32 ≡ 0 = omega arith in
    let count : frame_count octets ≡ 0 =
    ap (λ n. n / (24 + page_size octets)) none ∙ div-eq_of_lt (omega arith) in
    let within = found.within in
    let some = found.some in
    omega arith)
    (λ frame commits found.
    let first = found.answered.0 in
    let there = found.answered.2 in
    let size = 24 + page_size octets in
    let ends = part_within octets (frame_at (page_size octets) first) size in
    omega arith)

-- nor is one whose header breaks its own sum, and was not sealed
pub unsealed_is_sound : (octets head : List ℕ) → head ≡ header octets → ¬ IsSigned head
    → ¬ (slice_index head 0 ≡ 0x37) → Finds octets None
unsealed_is_sound octets head is broken shut = is_sound octets
    (λ found. shut (subst (λ (h : List ℕ). slice_index h 0 ≡ 0x37) (sym is) found.was_sealed))
    (λ frame commits found. broken (subst IsSigned (sym is) (found.first.before 0 found.some)))
    (λ frame commits found. broken (subst IsSigned (sym is) (found.hold 0 (omega arith))))

-- where the first frame begins, and the next one
pub first_frame : (size : ℕ) → frame_at size 0 ≡ 32
unfolding frames_len
first_frame size = omega arith

pub next_frame : (size frames : ℕ) → frame_at size (frames + 1) ≡ frame_at size frames + (24 + size)
unfolding frames_len
next_frame size frames = omega arith

-- the octets of a header, as they were read
pub read_header : (octets : List ℕ) (new : Option (List ℕ)) (bs : List ℕ)
    → Consumes (Some octets) new bs → length bs ≡ 32
    → (header octets ≡ bs) × IsReadTo octets 32 new
read_header octets new bs eats len =
    let start : IsReadTo octets 0 (Some octets) = (omega arith, refl) in
    read_on octets 0 32 (Some octets) new bs start eats len

-- a log that ends within its header
pub short_log : (known new : Option (List ℕ)) (bs : List ℕ) → Consumes known new bs → IsAtEnd new
    → length bs < 32 → IfSome known (λ octets. Finds octets None)
short_log None new bs eats end few = tt
short_log (Some octets) None bs eats end few = absurd eats
short_log (Some octets) (Some ys) bs eats end few =
    let sizes : length octets ≡ length bs + length ys = ap length eats ∙ length-append bs ys in
    let none : length ys ≡ 0 = ap length end in
    short_is_sound octets (omega arith)

-- a log whose header breaks its own sum
pub unsigned_log : (known new : Option (List ℕ)) (bs : List ℕ) (found : Option Damage)
    → Consumes known new bs → length bs ≡ 32
    → ((octets : List ℕ) → 32 ≤ length octets → bs ≡ header octets → Finds octets found)
    → IfSome known (λ octets. Finds octets found)
unsigned_log None new bs found eats len finds = tt
unsigned_log (Some octets) new bs found eats len finds =
    let read = read_header octets new bs eats len in
    finds octets read.1.0 (sym read.0)

-- a log whose header names no size of a page
pub unsized_log : (known new : Option (List ℕ)) (bs : List ℕ) → Consumes known new bs
    → length bs ≡ 32 → IsSigned bs → ¬ IsPageSize (be32 bs 8)
    → IfSome known (λ octets. Finds octets None)
unsized_log None new bs eats len signed no_size = tt
unsized_log (Some octets) new bs eats len signed no_size =
    let is = (read_header octets new bs eats len).0 in
    is_sound octets
    (λ found. found.breaks (subst IsSigned (sym is) signed))
    (λ frame commits found.
    no_size (subst (λ (h : List ℕ). IsPageSize (be32 h 8)) is found.sized))
    (λ frame commits found.
    no_size (subst (λ (h : List ℕ). IsPageSize (be32 h 8)) is found.sized))

-- a log that was scanned
pub scanned_log : (known new : Option (List ℕ)) (bs : List ℕ) (size : ℕ) (scanner : Scanner)
    (result : Result (Option Damage) Unread) → Consumes known new bs → length bs ≡ 32
    → IsPageSize size → size ≡ be32 bs 8
    → ((octets : List ℕ) → bs ≡ header octets → HasTaken octets 0 scanner)
    → ((octets : List ℕ) → IsPageSize (page_size octets) → 24 + size ≡ 24 + page_size octets
    → HasTaken octets 0 scanner → IsReadTo octets 32 new → IfOk result (Finds octets))
    → IfOk result (λ found. IfSome known (λ octets. Finds octets found))
scanned_log known new bs size scanner (Err e) eats len sized named taken scanned = tt
scanned_log None new bs size scanner (Ok found) eats len sized named taken scanned = tt
scanned_log (Some octets) new bs size scanner (Ok found) eats len sized named taken scanned =
    let read = read_header octets new bs eats len in
    let same : size ≡ page_size octets = named ∙ ap (λ (h : List ℕ). be32 h 8) (sym read.0) in
    scanned octets (subst IsPageSize same sized) (ap (λ (n : ℕ). 24 + n) same)
    (taken octets (sym read.0)) read.1
