use Rattle.std.proofs.Common.{◌≡◌, ◌≤◌, take}
use Rattle.std.specs.Prelude.{count_by}
use Rattle.acct_desk_pages.specs.Logins.{is_open}
use Rattle.acct_desk_pages.proofs.login.count_open.Given as goal

abbrev pub invariant-loop-row : goal.invariant-loop-row
invariant-loop-row l = (l.count ≡ count_by is_open (take l.row-index l.rows))
    × (l.count ≤ l.row-index)
