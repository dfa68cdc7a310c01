use Rattle.std.proofs.Common.{◌≡◌, ◌+◌, ◌<◌, ◌&&◌, ℕ, Bool, length, refl, sym, ◌∙◌, ap, ap₂, arith, subst}
use Rattle.std.proofs.Common.{take_all, length-take-le, not, nat_le}
use Rattle.std.specs.Io.KnownBytes.{Consumes}
use Rattle.sqlite_wal.specs.Recovery.{frame_at}
use Rattle.acct_sql_log.specs.Chain.{page_size}
use Rattle.acct_sql_log.specs.Commits.{commits_among, are_whole, init_commits}
use Rattle.acct_sql_log.specs.inner.Reading.{IsReadTo}
use Rattle.acct_sql_log.proofs.ReadingLemmas.{read_on, read_out, counts_frames, first_frame}
use Rattle.acct_sql_log.proofs.ReadingLemmas.{next_frame}
use Rattle.acct_sql_log.proofs.commits.count_on.Goals as goal

pub loop-init : goal.loop-init
loop-init g c = (
  refl,
  c.none-commits.ensures.first,
  λ octets size heads read. (
    (
      c.none-commits.ensures.none ∙ ap (commits_among octets) (sym c.none-commits.ensures.first),
      c.none-commits.ensures.whole ∙ ap (are_whole octets) (sym c.none-commits.ensures.first),
    ),
    subst (λ (n : ℕ). IsReadTo octets n (g.R.Read.remaining c.args.log.now))
        (sym (ap (frame_at (page_size octets)) c.none-commits.ensures.first
        ∙ first_frame (page_size octets))) read,
  ),
)

pub returns-then-count-frame : goal.returns-then-count-frame
returns-then-count-frame g c octets size heads read =
    let so_far = c.loop.invariant.2 octets size heads read in
    let few = c.if-count-frame.true in
    let same = c.fill.auto.buffer in
    let count = c.in_ok-count.count in
    let whole = read_out octets (frame_at (page_size octets) c.loop.commits.taken) count _ _ _
    so_far.1 c.in_ok-count.ensures.taken (c.in_ok-count.ensures.end few)
    (length-take-le count c.fill.new.buffer c.in_ok-count.ensures.within) in
    let length_is = c.loop.invariant.0 in
    let fewer : count < 24 + page_size octets = omega arith in
    let counts = counts_frames octets c.loop.commits.taken count whole fewer in
    c.are_later.ensures
    ∙ ap₂ (λ (n : ℕ) (b : Bool). not (nat_le n init_commits && b))
    (so_far.0.0 ∙ ap (commits_among octets) (sym counts))
    (so_far.0.1 ∙ ap (are_whole octets) (sym counts))

pub loop-preserved : goal.loop-preserved
loop-preserved g c =
    let same = c.fill.auto.buffer in
    let length_is = c.loop.invariant.0 in
    let number = c.loop.invariant.1 in
    let one = c.and_frame-commits.ensures.one in (
      omega arith,
      omega arith,
      λ octets size heads read.
          let so_far = c.loop.invariant.2 octets size heads read in
          let at = frame_at (page_size octets) c.loop.commits.taken in
          let eats = subst (Consumes _ _) (take_all c.in_ok-count.count c.fill.new.buffer
          c.if-count-frame.false) c.in_ok-count.ensures.taken in
          let len : length c.fill.new.buffer ≡ 24 + page_size octets = omega arith in
          let next = read_on octets at (24 + page_size octets) _ _ c.fill.new.buffer so_far.1 eats len in
          let place = next_frame (page_size octets) c.loop.commits.taken in
          let here = sym (ap (frame_at (page_size octets)) one ∙ place) in (
            c.and_frame-commits.ensures.taken octets heads so_far.0 (sym next.0),
            subst (λ (n : ℕ). IsReadTo octets n (g.R.Read.remaining c.fill.new.reader)) here next.1,
          ),
    )
