use Rattle.std.proofs.Common.{◌≡◌, ◌∙◌, ◌<◌, ◌+◌, ℕ, List, Option, Some, None, length}
use Rattle.std.proofs.Common.{sym, ap, arith}
use Rattle.std.proofs.lemmas.List.{length-drop}
use Rattle.std.proofs.lemmas.List.Quantifiers.{position-Some}
use Rattle.std.specs.List.{position}
use Rattle.std.specs.Prelude.{IfSome}
use Rattle.acct_net.specs.declared.datagrams.RadiusSocket.{RadiusSocket}
use Rattle.acct_net.specs.inner.RadiusSockets.{MayReceiveAt}
use Rattle.acct_net.proofs.SearchLemmas.{from_place, none_passes, rest}
use Rattle.acct_net.proofs.datagrams.Datagrams.next_place.Goals as goal

-- the first of all
first : (sockets : List RadiusSocket) (found : Option ℕ)
    → found ≡ position (λ socket. socket.may_receive) sockets
    → IfSome found (λ place. place < length sockets) → IfSome found (MayReceiveAt sockets)
first sockets None is within = tt
first sockets (Some place) is within = (
  within,
  λ d. (position-Some (λ socket. socket.may_receive) sockets place d (sym is)).1,
)

pub returns-in-Some-clause-some : goal.returns-in-Some-clause-some
returns-in-Some-clause-some c =
    let is = rw c.as_slice-sockets.ensures.value at
    (sym c.first_place.ensures.first ∙ c.in-Some.is) in
    let at = from_place (λ (socket : RadiusSocket). socket.may_receive)
    c.args.self.now.sockets.items (c.args.self.now.last + 1) c.in-Some.place
    (ap (position (λ (socket : RadiusSocket). socket.may_receive))
    (sym (rest (λ (socket : RadiusSocket). socket.may_receive) c.args.self.now.sockets.items
    (c.args.self.now.last + 1))) ∙ is) in (
      omega (arith, at.0, length-drop (c.args.self.now.last + 1) c.args.self.now.sockets.items),
      at.1,
    )

pub returns-clause-none : goal.returns-clause-none
returns-clause-none c = λ none.
    none_passes (λ (socket : RadiusSocket). socket.may_receive) c.args.self.now.sockets.items
    (rw c.as_slice-sockets.ensures.value at (sym c.first_place-2.ensures.first ∙ none))

pub returns-clause-some : goal.returns-clause-some
returns-clause-some c =
    first c.args.self.now.sockets.items c.first_place-2.result
    (rw c.as_slice-sockets.ensures.value at c.first_place-2.ensures.first)
    (rw c.as_slice-sockets.ensures.value at c.first_place-2.ensures.within)
