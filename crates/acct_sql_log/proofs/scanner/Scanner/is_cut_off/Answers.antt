use Rattle.std.proofs.Common.{ℕ, subst}
use Rattle.sqlite_wal.specs.Recovery.{header}
use Rattle.acct_sql_log.specs.Answered.{IsSealedLast, IsUnderWay}
use Rattle.acct_sql_log.specs.Chain.{frame_in, frame_count}
use Rattle.acct_sql_log.proofs.Counting.{same_first}
use Rattle.acct_sql_log.proofs.ReadingLemmas.{has_head}
use Rattle.acct_sql_log.proofs.scanner.Scanner.is_cut_off.Goals as goal

pub returns-in-Some : goal.returns-in-Some
returns-in-Some c log taken is =
    let frames = frame_count log in
    let known = subst (IsUnderWay log frames) c.in-Some.is taken.under_way in
    let first = known.0 in (
      λ yes'. (first, known.2, has_head log first known.1, known.3.0 yes'),
      λ cut. known.3.1 (subst (λ (n : ℕ). IsSealedLast (header log) (frame_in log n))
          (same_first log cut.0 first frames cut.1 known.2) cut.3),
    )
