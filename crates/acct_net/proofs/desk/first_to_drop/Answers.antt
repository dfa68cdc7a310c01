use Rattle.std.proofs.Common.{◌≡◌, ◌+◌, Option, Some, None, refl, sym, subst}
use Rattle.std.specs.Prelude.{IfNone}
use Rattle.acct_net.proofs.DropLemmas.{Knows, none_step, some_step}
use Rattle.acct_net.proofs.desk.first_to_drop.Goals as goal
use Rattle.acct_net.proofs.desk.first_to_drop.Goals.{in-Some, in_default}

-- none was found
unseen : {X P : Type 0} (found : Option X) → ((x : X) → found ≡ Some x → ⊥) → IfNone found P → P
unseen None none then = then
unseen (Some x) none then = absurd (none x refl)

pub loop-place-preserved : goal.loop-place-preserved
loop-place-preserved g c = elim c.match-droppable_since.branch [
  | in-Some w ↦ subst (Knows c.args.places.now c.args.now (c.loop-place.place + 1))
      (sym w.first-is)
      (some_step c.args.places.now c.args.now c.loop-place.place c.index-places-place.result
      c.loop-place-test.true c.index-places-place.is w.in-Some.ensures.some.0 w.in-Some.since
      w.in-Some.ensures.some.1 c.loop-place.first w.earlier.result w.earlier.ensures.none
      w.earlier.ensures.both c.loop-place.invariant)
  | in_default w ↦ subst (Knows c.args.places.now c.args.now (c.loop-place.place + 1))
      (sym w.first-is)
      (none_step c.args.places.now c.args.now c.loop-place.place c.index-places-place.result
      c.loop-place-test.true c.index-places-place.is
      (unseen c.droppable_since.result w.in_default.not-Some c.droppable_since.ensures.none)
      c.loop-place.first
      c.loop-place.invariant)
]
