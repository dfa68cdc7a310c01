use Rattle.std.proofs.Common.{◌≡◌, ◌+◌, length, sym, ◌∙◌, subst, rules, take, take_all, arith, refl}
use Rattle.std.proofs.Common.{length-take-le}
use Rattle.std.proofs.lemmas.Bool.{false≢true}
use Rattle.std.specs.Io.KnownBytes.{Consumes}
use Rattle.sqlite_wal.specs.PageSize.{IsPageSize}
use Rattle.acct_sql_log.proofs.ReadingLemmas.{short_log, unsigned_log, unsized_log}
use Rattle.acct_sql_log.proofs.ReadingLemmas.{scanned_log}
use Rattle.acct_sql_log.proofs.log_reader.damage_in.Goals as goal

pub returns-then-count-lt-HEADER_OCTETS : goal.returns-then-count-lt-HEADER_OCTETS
returns-then-count-lt-HEADER_OCTETS g c =
    let full : length c.fill.new.buffer ≡ 32 = search rules in
    let few = c.if-count-lt-HEADER_OCTETS.true in
    let count = c.in_ok-count.count in
    let size = length-take-le count c.fill.new.buffer c.in_ok-count.ensures.within in
    short_log _ _ (take count c.fill.new.buffer) c.in_ok-count.ensures.taken
    (c.in_ok-count.ensures.end (omega arith)) (omega arith)

pub returns-in_default : goal.returns-in_default
returns-in_default g c =
    let full : length c.fill.new.buffer ≡ 32 = search rules in
    let all = c.if-count-lt-HEADER_OCTETS.false in
    let eats = subst (Consumes _ _) (take_all c.in_ok-count.count c.fill.new.buffer (omega arith))
    c.in_ok-count.ensures.taken in
    unsigned_log _ _ c.fill.new.buffer _ eats full (λ octets whole is. c.header_damage.ensures octets whole is)

pub returns-in_default-new : goal.returns-in_default-new
returns-in_default-new g c =
    let full : length c.fill.new.buffer ≡ 32 = search rules in
    let all = c.if-count-lt-HEADER_OCTETS.false in
    let eats = subst (Consumes _ _) (take_all c.in_ok-count.count c.fill.new.buffer (omega arith))
    c.in_ok-count.ensures.taken in
    unsized_log _ _ c.fill.new.buffer eats full (c.in-Some.ensures.signed refl) (λ sized.
    false≢true (c.in_default-new.ensures.valid.1 (subst IsPageSize (sym c.number_at-named.ensures) sized)))

pub returns : goal.returns
returns g c =
    let full : length c.fill.new.buffer ≡ 32 = search rules in
    let all = c.if-count-lt-HEADER_OCTETS.false in
    let eats = subst (Consumes _ _) (take_all c.in_ok-count.count c.fill.new.buffer (omega arith))
    c.in_ok-count.ensures.taken in
    let room : length c.deref_mut.result.now ≡ 24 + c.bytes.result = search rules in
    scanned_log _ _ c.fill.new.buffer c.bytes.result c.in-Some.scanner c.scan.result eats full
    c.bytes.ensures.valid (c.bytes.ensures.value ∙ c.in-Some-new.ensures.value ∙ c.number_at-named.ensures)
    (λ octets is. c.in-Some.ensures.taken octets is)
    (λ octets sized same taken read. c.scan.ensures octets sized (room ∙ same) taken read)
