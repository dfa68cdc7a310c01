-- Whether a log has commits that no `init` made, by what was read of it.
use Rattle.std.proofs.Common.{◌≡◌, ◌+◌, ◌<◌, ℕ, List, length, Bool, false, Option, Some, None}
use Rattle.std.proofs.Common.{refl, arith, sym, ◌∙◌, ap, subst}
use Rattle.std.proofs.lemmas.List.{length-append}
use Rattle.std.specs.Prelude.{IfOk, IfSome, Result, Ok, Err}
use Rattle.std.specs.Io.KnownBytes.{Consumes, IsAtEnd}
use Rattle.sqlite_wal.specs.Format.{be32, IsSigned}
use Rattle.sqlite_wal.specs.Recovery.{header}
use Rattle.sqlite_wal.specs.PageSize.{IsPageSize}
use Rattle.acct_sql_log.specs.declared.log_reader.Unread.{Unread}
use Rattle.acct_sql_log.specs.Chain.{page_size}
use Rattle.acct_sql_log.specs.Commits.{has_later, HasFrames, TellsLater}
use Rattle.acct_sql_log.specs.inner.Reading.{IsReadTo}
use Rattle.acct_sql_log.proofs.ReadingLemmas.{read_header}

-- a log without frames has none
none_has : (octets : List ℕ) → ¬ HasFrames octets → TellsLater octets false
none_has octets without = (λ has. absurd (without has), λ _. refl)

-- nor has one that ends within its header
pub short_has_none : (known new : Option (List ℕ)) (bs : List ℕ) → Consumes known new bs
    → IsAtEnd new → length bs < 32 → IfSome known (λ octets. TellsLater octets false)
short_has_none None new bs eats end few = tt
short_has_none (Some octets) None bs eats end few = absurd eats
short_has_none (Some octets) (Some ys) bs eats end few =
    let sizes : length octets ≡ length bs + length ys = ap length eats ∙ length-append bs ys in
    let none : length ys ≡ 0 = ap length end in
    none_has octets (λ has. let whole = has.0 in omega arith)

-- nor one whose header breaks its own sum
pub unsigned_has_none : (known new : Option (List ℕ)) (bs : List ℕ) → Consumes known new bs
    → length bs ≡ 32 → ¬ IsSigned bs → IfSome known (λ octets. TellsLater octets false)
unsigned_has_none None new bs eats len broken = tt
unsigned_has_none (Some octets) new bs eats len broken =
    let is = (read_header octets new bs eats len).0 in
    none_has octets (λ has. broken (subst IsSigned is has.1))

-- nor one whose header names no size of a page
pub unsized_has_none : (known new : Option (List ℕ)) (bs : List ℕ) → Consumes known new bs
    → length bs ≡ 32 → ¬ IsPageSize (be32 bs 8) → IfSome known (λ octets. TellsLater octets false)
unsized_has_none None new bs eats len no_size = tt
unsized_has_none (Some octets) new bs eats len no_size =
    let is = (read_header octets new bs eats len).0 in
    none_has octets (λ has. no_size (subst (λ (h : List ℕ). IsPageSize (be32 h 8)) is has.2))

-- a log whose frames were counted
pub counted_log : (known new : Option (List ℕ)) (bs : List ℕ) (size : ℕ)
    (result : Result Bool Unread) → Consumes known new bs → length bs ≡ 32 → IsSigned bs
    → IsPageSize size → size ≡ be32 bs 8
    → ((octets : List ℕ) → 24 + size ≡ 24 + page_size octets → bs ≡ header octets
    → IsReadTo octets 32 new → IfOk result (λ later. later ≡ has_later octets))
    → IfOk result (λ later. IfSome known (λ octets. TellsLater octets later))
counted_log known new bs size (Err e) eats len signed sized named counted = tt
counted_log None new bs size (Ok later) eats len signed sized named counted = tt
counted_log (Some octets) new bs size (Ok later) eats len signed sized named counted =
    let read = read_header octets new bs eats len in
    let same : size ≡ page_size octets = named ∙ ap (λ (h : List ℕ). be32 h 8) (sym read.0) in
    let is = counted octets (ap (λ (n : ℕ). 24 + n) same) (sym read.0) read.1 in (
      λ has. is,
      λ without. absurd (without (read.1.0, subst IsSigned (sym read.0) signed, subst IsPageSize same sized)),
    )
