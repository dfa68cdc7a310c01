use Rattle.std.proofs.Common.{◌≡◌, ◌∙◌, ◌+◌, ℕ, List, Option, Some, None}
use Rattle.std.proofs.Common.{sym, ap, arith}
use Rattle.std.proofs.lemmas.List.{length-drop}
use Rattle.std.proofs.lemmas.List.Quantifiers.{position-Some}
use Rattle.std.specs.List.{position}
use Rattle.std.specs.Prelude.{IfSome}
use Rattle.acct_net_callers.specs.declared.caller.Caller.{Caller}
use Rattle.acct_net.specs.inner.Places.{IsReadyAt, has_ready}
use Rattle.acct_net.proofs.PlaceLemmas.{ready_at, no_ready}
use Rattle.acct_net.proofs.SearchLemmas.{from_place, rest}
use Rattle.acct_net.proofs.desk.Desk.ready_place.Goals as goal

-- the first of all
first : {S : Type 0} (places : List (Option (Caller S))) (found : Option ℕ)
    → found ≡ position has_ready places → IfSome found (IsReadyAt places)
first places None is = tt
first places (Some place) is =
    let at = position-Some has_ready places place None (sym is) in
    ready_at places place at.0 at.1

pub returns-clause-ready : goal.returns-clause-ready
returns-clause-ready g c =
    let places = c.args.self.now.places.items in
    let is = rw c.as_slice-places.ensures.value at
    (sym c.first_ready.ensures.first ∙ c.in-Some.is) in
    let at = from_place has_ready places c.args.self.now.next c.in-Some.place
    (ap (position has_ready) (sym (rest has_ready places c.args.self.now.next)) ∙ is) in
    ready_at places (c.args.self.now.next + c.in-Some.place)
    (omega (arith, at.0, length-drop c.args.self.now.next places)) (at.1 None)

pub returns-2-clause-ready : goal.returns-2-clause-ready
returns-2-clause-ready g c =
    first c.args.self.now.places.items c.first_ready-2.result
    (rw c.as_slice-places.ensures.value at c.first_ready-2.ensures.first)

pub returns-2-clause-none : goal.returns-2-clause-none
returns-2-clause-none g c = λ none. no_ready c.args.self.now.places.items
    (rw c.as_slice-places.ensures.value at (sym c.first_ready-2.ensures.first ∙ none))
