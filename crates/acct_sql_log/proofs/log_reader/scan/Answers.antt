use Rattle.std.proofs.Common.{◌≡◌, ◌+◌, ◌<◌, ℕ, length, refl, sym, ◌∙◌, ap, arith, subst, take_all}
use Rattle.std.proofs.Common.{length-take-le}
use Rattle.std.specs.Io.KnownBytes.{Consumes}
use Rattle.sqlite_wal.specs.Recovery.{frame_at}
use Rattle.acct_sql_log.specs.Chain.{page_size, frame_in}
use Rattle.acct_sql_log.specs.Scanner.{HasTaken}
use Rattle.acct_sql_log.specs.inner.Reading.{IsReadTo}
use Rattle.acct_sql_log.proofs.ReadingLemmas.{read_on, read_out, counts_frames, first_frame}
use Rattle.acct_sql_log.proofs.ReadingLemmas.{next_frame, read_part}
use Rattle.acct_sql_log.proofs.log_reader.scan.Goals as goal

pub loop-init : goal.loop-init
loop-init g c = (
  refl,
  c.requires.first,
  λ octets size taken read. (
    subst (λ (n : ℕ). HasTaken octets n c.args.scanner) (sym c.requires.first) taken,
    subst (λ (n : ℕ). IsReadTo octets n (g.R.Read.remaining c.args.log.now))
        (sym (ap (frame_at (page_size octets)) c.requires.first ∙ first_frame (page_size octets))) read,
  ),
)

pub returns-then-count-frame : goal.returns-then-count-frame
returns-then-count-frame g c octets sized size taken read =
    let so_far = c.loop.invariant.2 octets size taken read in
    let few = c.if-count-frame.true in
    let same = c.fill.auto.buffer in
    let count = c.in_ok-count.count in
    let whole = read_out octets (frame_at (page_size octets) c.loop.scanner.taken) count _ _ _
    so_far.1 c.in_ok-count.ensures.taken (c.in_ok-count.ensures.end few)
    (length-take-le count c.fill.new.buffer c.in_ok-count.ensures.within) in
    let length_is = c.loop.invariant.0 in
    let fewer : count < 24 + page_size octets = omega arith in
    let counts = counts_frames octets c.loop.scanner.taken count whole fewer in
    let part = read_part octets c.loop.scanner.taken count _ _ _ so_far.1 c.in_ok-count.ensures.taken
    (c.in_ok-count.ensures.end few)
    (length-take-le count c.fill.new.buffer c.in_ok-count.ensures.within) fewer in
    c.damage.ensures octets (subst (λ (n : ℕ). HasTaken octets n c.loop.scanner) (sym counts) so_far.0)
    (part ∙ ap (frame_in octets) (sym counts)) sized

pub loop-preserved : goal.loop-preserved
loop-preserved g c =
    let same = c.fill.auto.buffer in
    let length_is = c.loop.invariant.0 in
    let number = c.loop.invariant.1 in
    let one = c.take.ensures.one in (
      omega arith,
      omega arith,
      λ octets size taken read.
          let so_far = c.loop.invariant.2 octets size taken read in
          let at = frame_at (page_size octets) c.loop.scanner.taken in
          let eats = subst (Consumes _ _) (take_all c.in_ok-count.count c.fill.new.buffer
          c.if-count-frame.false) c.in_ok-count.ensures.taken in
          let len : length c.fill.new.buffer ≡ 24 + page_size octets = omega arith in
          let next = read_on octets at (24 + page_size octets) _ _ c.fill.new.buffer so_far.1 eats len in
          let place = next_frame (page_size octets) c.loop.scanner.taken in
          let here = sym (ap (frame_at (page_size octets)) one ∙ place) in (
            subst (λ (n : ℕ). HasTaken octets n c.take.new.self) (sym one)
                (c.take.ensures.taken octets c.loop.scanner.taken so_far.0 (sym next.0)),
            subst (λ (n : ℕ). IsReadTo octets n (g.R.Read.remaining c.fill.new.reader)) here next.1,
          ),
    )
