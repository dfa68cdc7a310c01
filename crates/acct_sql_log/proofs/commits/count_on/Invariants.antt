-- Each frame that was read is counted.
use Rattle.std.proofs.Common.{◌≡◌, ◌+◌, ℕ, List, length}
use Rattle.sqlite_wal.specs.Recovery.{header, frame_at}
use Rattle.acct_sql_log.specs.Chain.{page_size}
use Rattle.acct_sql_log.specs.inner.Reading.{IsReadTo}
use Rattle.acct_sql_log.specs.inner.Counted.{AreCommits}
use Rattle.acct_sql_log.proofs.commits.count_on.Given as goal

abbrev pub invariant-loop : goal.invariant-loop
invariant-loop g l = (length l.frame ≡ length l.initial.frame) × (l.commits.taken ≡ l.counter)
    × ((octets : List ℕ) → length l.initial.frame ≡ 24 + page_size octets
    → l.head ≡ header octets → IsReadTo octets 32 (g.R.Read.remaining l.initial.log)
    → AreCommits octets l.commits
    × IsReadTo octets (frame_at (page_size octets) l.commits.taken) (g.R.Read.remaining l.log))
