-- Which commits a log has, by the marks of its frames.
use Rattle.std.specs.Prelude.{◌≡◌, ◌+◌, ◌≤◌, ◌&&◌, ◌||◌, ℕ, zero, suc, Bool, true, false, not}
use Rattle.std.specs.Prelude.{if◌then◌else◌, nat_le, List, length}
use Rattle.sqlite_wal.specs.Format.{commit_size, IsSigned}
use Rattle.sqlite_wal.specs.PageSize.{IsPageSize}
use Rattle.sqlite_wal.specs.Recovery.{header}
use Rattle.acct_sql_log.specs.Chain.{page_size, frame_in, frame_count, ends_commit}

-- how many commits an `init` makes: an empty database, and then the tables and the plans of a book
abbrev pub init_commits : ℕ
init_commits = 2

-- how many commits end among the first frames
abbrev pub commits_among : List ℕ → ℕ → ℕ
commits_among log zero = 0
commits_among log (suc i) =
    commits_among log i + (if ends_commit (header log) (frame_in log i) then 1 else 0)

-- Each commit that ends among the first frames leaves no more pages than there are frames up to its
-- end. One that leaves more changed a database that was there before.
abbrev pub are_whole : List ℕ → ℕ → Bool
are_whole log zero = true
are_whole log (suc i) = are_whole log i
    && (not (ends_commit (header log) (frame_in log i))
    || nat_le (commit_size (frame_in log i)) (suc i))

-- a log has commits that no `init` made: it belongs to a book
abbrev pub has_later : List ℕ → Bool
has_later log = not (nat_le (commits_among log (frame_count log)) init_commits
    && are_whole log (frame_count log))

-- its frames can be told apart: its header meets its own sum, and names the size of a page
abbrev pub HasFrames : List ℕ → Type 0
HasFrames log = (32 ≤ length log) × IsSigned (header log) × IsPageSize (page_size log)

-- whether a log has such commits; one without frames has none
abbrev pub TellsLater : List ℕ → Bool → Type 0
TellsLater log later =
    (HasFrames log → later ≡ has_later log) × ((¬ HasFrames log) → later ≡ false)
