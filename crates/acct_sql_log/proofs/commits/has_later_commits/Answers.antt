use Rattle.std.proofs.Common.{◌≡◌, ◌+◌, ◌∙◌, length, sym, subst, rules, take, take_all}
use Rattle.std.proofs.Common.{length-take-le, arith}
use Rattle.std.proofs.lemmas.Bool.{false≢true}
use Rattle.std.specs.Io.KnownBytes.{Consumes}
use Rattle.sqlite_wal.specs.PageSize.{IsPageSize}
use Rattle.acct_sql_log.proofs.CommitLemmas.{short_has_none, unsigned_has_none}
use Rattle.acct_sql_log.proofs.CommitLemmas.{unsized_has_none, counted_log}
use Rattle.acct_sql_log.proofs.commits.has_later_commits.Goals as goal

pub returns-then-count-lt-HEADER_OCTETS : goal.returns-then-count-lt-HEADER_OCTETS
returns-then-count-lt-HEADER_OCTETS g c =
    let full : length c.fill.new.buffer ≡ 32 = search rules in
    let few = c.if-count-lt-HEADER_OCTETS.true in
    let count = c.in_ok-count.count in
    let size = length-take-le count c.fill.new.buffer c.in_ok-count.ensures.within in
    short_has_none _ _ (take count c.fill.new.buffer) c.in_ok-count.ensures.taken
    (c.in_ok-count.ensures.end (omega arith)) (omega arith)

pub returns-then-not-is_signed : goal.returns-then-not-is_signed
returns-then-not-is_signed g c =
    let full : length c.fill.new.buffer ≡ 32 = search rules in
    let all = c.if-count-lt-HEADER_OCTETS.false in
    let eats = subst (Consumes _ _) (take_all c.in_ok-count.count c.fill.new.buffer (omega arith))
    c.in_ok-count.ensures.taken in
    unsigned_has_none _ _ c.fill.new.buffer eats full
    (λ signed. false≢true (sym c.if-not-is_signed.true ∙ c.is_signed.ensures.1 signed))

pub returns-in_default : goal.returns-in_default
returns-in_default g c =
    let full : length c.fill.new.buffer ≡ 32 = search rules in
    let all = c.if-count-lt-HEADER_OCTETS.false in
    let eats = subst (Consumes _ _) (take_all c.in_ok-count.count c.fill.new.buffer (omega arith))
    c.in_ok-count.ensures.taken in
    unsized_has_none _ _ c.fill.new.buffer eats full (λ sized.
    false≢true (c.in_default.ensures.valid.1 (subst IsPageSize (sym c.number_at-named.ensures) sized)))

pub returns : goal.returns
returns g c =
    let full : length c.fill.new.buffer ≡ 32 = search rules in
    let all = c.if-count-lt-HEADER_OCTETS.false in
    let eats = subst (Consumes _ _) (take_all c.in_ok-count.count c.fill.new.buffer (omega arith))
    c.in_ok-count.ensures.taken in
    let space : length c.deref_mut.result.now ≡ 24 + c.bytes.result = search rules in
    counted_log _ _ c.fill.new.buffer c.bytes.result c.count_on.result eats full
    (c.is_signed.ensures.0 c.if-not-is_signed.false) c.bytes.ensures.valid
    (c.bytes.ensures.value ∙ c.in-Some.ensures.value ∙ c.number_at-named.ensures)
    (λ octets same heads read. c.count_on.ensures octets (space ∙ same) heads read)
