-- What a scanner knows of a log whose first frames it has taken.
use Rattle.std.specs.Prelude.{◌≡◌, ◌≤◌, ◌<◌, ◌-◌, ◌↔◌, ℕ, List, Option, Some, None, IsTrue}
use Rattle.sqlite_wal.specs.Format.{IsSigned}
use Rattle.sqlite_wal.specs.Recovery.{header, sum_before}
use Rattle.acct_sql_log.specs.declared.scanner.Break.{Break}
use Rattle.acct_sql_log.specs.declared.scanner.Scanner.{Scanner}
use Rattle.acct_sql_log.specs.Answered.{IsSynced, IsFollowed, IsUnderWay}
use Rattle.acct_sql_log.specs.Chain.{page_size, Holds, BreaksAt, commits_from}

-- Where the chain breaks up to so many frames, and what is known of the commit there.
abbrev pub IsBreakIn : List ℕ → ℕ → Option Break → Type 0
IsBreakIn log frames None = (link : ℕ) → link ≤ frames → Holds log link
IsBreakIn log frames (Some found) =
    (0 < found.link) × (found.link ≤ frames) × BreaksAt log found.link
    × (IsTrue found.is_synced ↔ IsSynced log (found.link - 1))
    × (IsTrue found.is_followed ↔ IsFollowed log (found.link - 1) frames)
    × (found.commits ≡ commits_from log found.link frames)

-- it has taken the header, which meets its own sum, and so many frames
pub record HasTaken (log : List ℕ) (frames : ℕ) (scanner : Scanner) : Type 0 where
  pub head : scanner.head ≡ header log
  pub signed : IsSigned (header log)
  pub taken : scanner.taken ≡ frames
  pub sum : scanner.sum ≡ sum_before (page_size log) log frames
  pub under_way : IsUnderWay log frames scanner.under_way
  pub broken : IsBreakIn log frames scanner.broken
