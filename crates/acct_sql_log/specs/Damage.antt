-- When a log is damaged.
use Rattle.std.specs.Prelude.{◌≡◌, ◌<◌, ◌≤◌, ◌+◌, ◌-◌, ◌⊎◌, ℕ, List, length, Option, MatchOption}
use Rattle.sqlite_wal.specs.PageSize.{IsPageSize}
use Rattle.acct_sql_log.specs.declared.damage.Damage.{Damage}
use Rattle.acct_sql_log.specs.declared.damage.Damage.TheVariants as damage
use Rattle.acct_sql_log.specs.Chain.{page_size, frame_count, Holds, BreaksAt, IsSealed}
use Rattle.acct_sql_log.specs.Chain.{commits_from}
use Rattle.acct_sql_log.specs.Answered.{IsSynced, IsFollowed, IsCutOff}

-- The header was sealed, and breaks its own sum. The store syncs before it writes the octet that
-- seals the header, with `--sync once` too, so no crash leaves such a one.
pub record IsHeaderDamage (log : List ℕ) : Type 0 where
  pub whole : 32 ≤ length log
  pub was_sealed : IsSealed log 0
  pub breaks : ¬ Holds log 0

-- A frame breaks the chain, and its commit was answered: it was synced before it was sealed, or a
-- later one was begun.
pub record IsFrameDamage (log : List ℕ) (frame commits : ℕ) : Type 0 where
  pub sized : IsPageSize (page_size log)
  pub some : 0 < frame
  pub within : frame ≤ frame_count log
  pub first : BreaksAt log frame
  pub answered : IsSynced log (frame - 1) ⊎ IsFollowed log (frame - 1) (frame_count log)
  pub counted : commits ≡ commits_from log frame (frame_count log)

-- Each whole frame holds, but the log ends before a commit does that was answered, if the book's
-- store wrote it. What is missing counts as the next frame. No commit is shown to end there.
pub record IsCutShort (log : List ℕ) (frame commits : ℕ) : Type 0 where
  pub sized : IsPageSize (page_size log)
  pub hold : (link : ℕ) → link ≤ frame_count log → Holds log link
  pub answered : IsCutOff log
  pub missing : frame ≡ frame_count log + 1
  pub none : commits ≡ 0

-- what the damage of a log is
abbrev pub IsDamage : List ℕ → Damage → Type 0
IsDamage log damage.Header = IsHeaderDamage log
IsDamage log (damage.Frame frame commits) =
    IsFrameDamage log frame commits ⊎ IsCutShort log frame commits

-- what is found of a log: its damage, or none if it has none
abbrev pub Finds : List ℕ → Option Damage → Type 0
Finds log found = MatchOption found ((damage : Damage) → ¬ IsDamage log damage) (IsDamage log)
