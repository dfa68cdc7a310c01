use Rattle.std.proofs.Common.{◌≡◌, ◌++◌, map, take}
use Rattle.std.specs.List.{filter_map}
use Rattle.serde_json.specs.View.{view}
use Rattle.acct_desk_pages.specs.Overdrawn.{open_in}
use Rattle.acct_desk_pages.proofs.overdrawn.add_open_sessions.Given as goal

abbrev pub invariant-loop-row : goal.invariant-loop-row
invariant-loop-row l = map view l.sessions.items
    ≡ map view l.fn.sessions.items ++ filter_map open_in (take l.row-index l.rows)
