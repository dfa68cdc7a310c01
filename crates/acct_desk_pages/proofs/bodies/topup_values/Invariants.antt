use Rattle.std.proofs.Common.{◌≡◌, map, take}
use Rattle.serde_json.specs.View.{view}
use Rattle.acct_desk_pages.specs.Bodies.{topup_item}
use Rattle.acct_desk_pages.proofs.bodies.topup_values.Given as goal

abbrev pub invariant-loop-topup : goal.invariant-loop-topup
invariant-loop-topup l = map view l.values.items ≡ map topup_item (take l.topup-index l.topups)
