-- The scanner has taken each frame that was read.
use Rattle.std.proofs.Common.{◌≡◌, ◌+◌, ℕ, List, length}
use Rattle.sqlite_wal.specs.Recovery.{frame_at}
use Rattle.acct_sql_log.specs.Chain.{page_size}
use Rattle.acct_sql_log.specs.Scanner.{HasTaken}
use Rattle.acct_sql_log.specs.inner.Reading.{IsReadTo}
use Rattle.acct_sql_log.proofs.log_reader.scan.Given as goal

abbrev pub invariant-loop : goal.invariant-loop
invariant-loop g l = (length l.frame ≡ length l.initial.frame) × (l.scanner.taken ≡ l.counter)
    × ((octets : List ℕ) → length l.initial.frame ≡ 24 + page_size octets
    → HasTaken octets 0 l.initial.scanner → IsReadTo octets 32 (g.R.Read.remaining l.initial.log)
    → HasTaken octets l.scanner.taken l.scanner
    × IsReadTo octets (frame_at (page_size octets) l.scanner.taken) (g.R.Read.remaining l.log))
