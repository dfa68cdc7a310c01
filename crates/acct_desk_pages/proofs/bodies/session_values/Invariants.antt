use Rattle.std.proofs.Common.{◌≡◌, map, take}
use Rattle.serde_json.specs.View.{view}
use Rattle.acct_desk_pages.specs.Bodies.{session_item}
use Rattle.acct_desk_pages.proofs.bodies.session_values.Given as goal

abbrev pub invariant-loop-row : goal.invariant-loop-row
invariant-loop-row l = map view l.values.items
    ≡ map (session_item l.plans) (take l.row-index l.rows)
