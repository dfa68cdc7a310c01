-- The log of a book as a chain: its header is link 0, and its frames are links 1, 2 and so on. The
-- sum in each link continues from the link before it.
use Rattle.std.specs.Prelude.{◌≡◌, ◌+◌, ◌-◌, ◌/◌, ◌<◌, ◌==◌, ◌&&◌, ◌||◌, ℕ, zero, suc, Bool, not}
use Rattle.std.specs.Prelude.{if◌then◌else◌, nat_le, List, length, slice_index}
use Rattle.sqlite_wal.specs.Format.{be32, commit_size, IsSigned, IsFrame}
use Rattle.sqlite_wal.specs.Recovery.{header, frame, sum_before}

-- the size of a page, as the header names it
abbrev pub page_size : List ℕ → ℕ
page_size log = be32 (header log) 8

-- frame i, from 0
abbrev pub frame_in : List ℕ → ℕ → List ℕ
frame_in log i = frame (page_size log) log i

-- how many whole frames the log has
abbrev pub frame_count : List ℕ → ℕ
frame_count log = (length log - 32) / (24 + page_size log)

-- A link passes SQLite's test. A frame has the salts of the header and names a page, and its sum
-- continues from the link before it.
abbrev pub Holds : List ℕ → ℕ → Type 0
Holds log zero = IsSigned (header log)
Holds log (suc i) = IsFrame (header log) (sum_before (page_size log) log i) (frame_in log i)

-- it is the first that doesn't: SQLite stops reading there
pub record BreaksAt (log : List ℕ) (link : ℕ) : Type 0 where
  pub before : (earlier : ℕ) → earlier < link → Holds log earlier
  pub breaks : ¬ Holds log link

-- The octet of a link that the store writes last. It is the first of the header, and the first of
-- the salts in a frame that begins a commit. Until then it has another value.
abbrev pub IsSealed : List ℕ → ℕ → Type 0
IsSealed log zero = slice_index (header log) 0 ≡ 0x37
IsSealed log (suc i) = slice_index (frame_in log i) 8 ≡ slice_index (header log) 16

-- a frame has the salts of a header
abbrev pub has_salts : List ℕ → List ℕ → Bool
has_salts head octets = (be32 octets 8 == be32 head 16) && (be32 octets 12 == be32 head 20)

-- A frame has one of the two salts of a header. One of another run of the log has neither.
abbrev pub has_a_salt : List ℕ → List ℕ → Bool
has_a_salt head octets = (be32 octets 8 == be32 head 16) || (be32 octets 12 == be32 head 20)

-- a frame has the salts of a header, and ends a commit
abbrev pub ends_commit : List ℕ → List ℕ → Bool
ends_commit head octets = has_salts head octets && not (commit_size octets == 0)

-- How many commits end at or behind a link, among the first frames, by the marks of the frames. An
-- earlier run of the log has other salts, and does not count. Parts of a transaction that was given
-- up may lie there with the salts, and count.
abbrev pub commits_from : List ℕ → ℕ → ℕ → ℕ
commits_from log link zero = 0
commits_from log link (suc i) = commits_from log link i
    + (if nat_le link (suc i) && ends_commit (header log) (frame_in log i) then 1 else 0)
