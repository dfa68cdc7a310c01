-- What was counted of a log so far.
use Rattle.std.specs.Prelude.{◌≡◌, ℕ, List}
use Rattle.acct_sql_log.specs.declared.commits.Commits.{Commits}
use Rattle.acct_sql_log.specs.Commits.{commits_among, are_whole}

-- the commits that end among the frames that were taken
abbrev pub AreCommits : List ℕ → Commits → Type 0
AreCommits log commits =
    (commits.count ≡ commits_among log commits.taken)
    × (commits.are_whole ≡ are_whole log commits.taken)
