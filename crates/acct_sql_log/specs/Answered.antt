-- Which commits of a log were answered, by the frames that are there.
--
-- A commit is answered once it is synced, and the next one begins only then. With `--sync once` most
-- commits are written over zeros that were synced before, behind a frame that counts these, and are
-- synced once. Each other commit is synced before the octet that seals it is written, and again.
use Rattle.std.specs.Prelude.{◌≡◌, ◌≢◌, ◌+◌, ◌≤◌, ◌<◌, ◌↔◌, ℕ, Bool, List, length, slice_index}
use Rattle.std.specs.Prelude.{Option, Some, None, IsTrue}
use Rattle.sqlite_wal.specs.Format.{page_number, commit_size, count_page}
use Rattle.sqlite_wal.specs.Recovery.{header}
use Rattle.acct_sql_log.specs.Chain.{frame_in, frame_count, has_salts, has_a_salt}

-- A frame has the salts of a header, and begins a commit that counts the zeros below it.
abbrev pub BeginsCounted : List ℕ → List ℕ → Type 0
BeginsCounted head octets = IsTrue (has_salts head octets) × (page_number octets ≡ count_page)

-- A frame that begins a commit has its seal, is of this run of the log, and does not count. Of the
-- number of one that counts, each octet is there or is still 0: the number is that of the count, or
-- 0.
pub record IsSealedLast (head octets : List ℕ) : Type 0 where
  pub sealed : slice_index octets 8 ≡ slice_index head 16
  pub salted : IsTrue (has_a_salt head octets)
  pub written : page_number octets ≢ 0
  pub plain : page_number octets ≢ count_page

-- the commit of frame i, from 0, begins at frame `first`
pub record BeginsAt (log : List ℕ) (first i : ℕ) : Type 0 where
  pub low : first ≤ i
  pub behind : (j : ℕ) → j + 1 ≡ first → commit_size (frame_in log j) ≢ 0
  pub alone : (j : ℕ) → first ≤ j → j < i → commit_size (frame_in log j) ≡ 0

-- the commit of frame i was synced before it was sealed, and is sealed
abbrev pub IsSynced : List ℕ → ℕ → Type 0
IsSynced log i =
    (first : ℕ) × BeginsAt log first i × IsSealedLast (header log) (frame_in log first)

-- The log ends within a commit that was synced before it was sealed, and is sealed: its end was there
-- once. At least the head of its first frame is left.
abbrev pub IsCutOff : List ℕ → Type 0
IsCutOff log =
    (first : ℕ) × BeginsAt log first (frame_count log) × (24 ≤ length (frame_in log first))
    × IsSealedLast (header log) (frame_in log first)

-- Whether a commit is under way behind so many frames, and whether its first frame has its seal.
abbrev pub IsUnderWay : List ℕ → ℕ → Option Bool → Type 0
IsUnderWay log frames None = BeginsAt log frames frames
IsUnderWay log frames (Some is_sealed) =
    (first : ℕ) × (first < frames) × BeginsAt log first frames
    × (IsTrue is_sealed ↔ IsSealedLast (header log) (frame_in log first))

-- a commit that counts was begun behind frame i, among so many frames
abbrev pub IsFollowed : List ℕ → ℕ → ℕ → Type 0
IsFollowed log i frames =
    (later : ℕ) × (i < later) × (later < frames) × BeginsCounted (header log) (frame_in log later)
