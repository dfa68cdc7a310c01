use Rattle.std.proofs.Common.{◌≡◌, ℕ, [], map, take}
use Rattle.std.specs.Prelude.{fold, Vec}
use Rattle.std.specs.Global.{Global}
use Rattle.acct_desk_pages.specs.Logins.{with_station}
use Rattle.acct_desk_pages.proofs.login.other_stations.Given as goal

-- the set has the stations of the rows so far
abbrev pub invariant-loop-row : goal.invariant-loop-row
invariant-loop-row l = map (λ (k : Vec ℕ Global). k.items) l.stations.keys
    ≡ fold (with_station l.heard) [] (take l.row-index l.rows)
