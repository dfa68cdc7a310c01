use Rattle.std.proofs.Common.{◌≡◌, ◌∙◌, ap, sym, None, ◌||◌, refl, rules}
use Rattle.std.specs.List.{list_any}
use Rattle.acct_desk.specs.Keys.{is_for_logins}
use Rattle.acct_desk.specs.KeyFaults.{key_fault}
use Rattle.acct_desk.proofs.KeyLemmas.{faultless_still, told_more}
use Rattle.acct_desk.proofs.keys.Keys.push.Goals as goal
use Rattle.acct_desk.proofs.keys.Keys.push.Goals.{then-self, else-self}

pub invariant_of-self : goal.invariant_of-self
invariant_of-self c =
    let keys = c.self.inside.list.items in
    let key = c.args.key in
    let alone : key_fault keys key ≡ None = search rules in
    let place = c.place.ensures in
    record {
      faultless = faultless_still c.place.result keys c.place.new.list.items key place.pushed
          place.unchanged c.self.invariant.faultless alone;
      placed = place.placed;
      routed = c.self.invariant.routed;
      told = c.self.invariant.told ∙ ap (list_any is_for_logins) (sym c.in_err-place.ensures.unchanged);
    }

pub invariant_of-self-2 : goal.invariant_of-self-2
invariant_of-self-2 c =
    let keys = c.self.inside.list.items in
    let key = c.args.key in
    let alone : key_fault keys key ≡ None = search rules in
    let place = c.place.ensures in
    let lets = c.lets_logins-is_for_logins.ensures in
    let either : c.if-self.self ≡ (c.self.inside.for_logins || is_for_logins key) =
    elim c.if-self.branch [
      | then-self w ↦ rw (w.self-is, w.if-self.true) refl
      | else-self w ↦ rw (w.self-is, w.if-self.false, lets) refl
    ] in
    record {
      faultless = faultless_still c.place.result keys c.place.new.list.items key place.pushed
          place.unchanged c.self.invariant.faultless alone;
      placed = place.placed;
      routed = c.self.invariant.routed;
      told = either ∙ told_more keys key c.self.inside.for_logins c.self.invariant.told
          ∙ ap (list_any is_for_logins) (sym c.in_ok-place.ensures.pushed);
    }
