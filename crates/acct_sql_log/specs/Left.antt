-- What a crash leaves of a log. That the store leaves no other is not proved: it is read from how
-- `sqlite_wal` writes, and tried by simulated power cuts.
use Rattle.std.specs.Prelude.{◌≡◌, ◌≢◌, ◌+◌, ◌≤◌, ◌<◌, ℕ, suc, List}
use Rattle.sqlite_wal.specs.Format.{commit_size}
use Rattle.sqlite_wal.specs.Recovery.{header}
use Rattle.acct_sql_log.specs.declared.damage.Damage.{Damage}
use Rattle.acct_sql_log.specs.Chain.{frame_in, frame_count, Holds, IsSealed}
use Rattle.acct_sql_log.specs.Answered.{BeginsCounted, IsSealedLast}
use Rattle.acct_sql_log.specs.Damage.{IsDamage}

-- Commits, and behind them what was written of one more.
pub record IsLeft (log : List ℕ) : Type 0 where
  -- the header is sealed once the rest of it is synced
  pub head : IsSealed log 0 → Holds log 0
  -- so many frames are those of commits, and each is whole
  pub committed : ℕ
  pub whole : committed ≤ frame_count log
  pub hold : (i : ℕ) → i < committed → Holds log (suc i)
  pub ends : (i : ℕ) → i + 1 ≡ committed → commit_size (frame_in log i) ≢ 0
  -- No other commit is whole. It is not sealed, or counts the zeros that it was written over.
  pub unfinished : (i : ℕ) → committed ≤ i → ((j : ℕ) → j ≤ i → Holds log (suc j))
      → commit_size (frame_in log i) ≡ 0
  pub unsealed : ¬ IsSealedLast (header log) (frame_in log committed)
  -- none was begun behind it
  pub last : (i : ℕ) → committed < i → i < frame_count log
      → ¬ BeginsCounted (header log) (frame_in log i)

-- none of it is damage
abbrev pub LeftIsSound : Type 0
LeftIsSound = (log : List ℕ) → IsLeft log → (damage : Damage) → ¬ IsDamage log damage
