use Rattle.std.proofs.Common.{◌+◌, ◌∙◌, Ok, Err, Result, ap, rules, sym}
use Rattle.std.specs.Prelude.{OnErr, is_some}
use Rattle.acct_net.specs.declared.datagrams.RadiusSocket.{RadiusSocket}
use Rattle.acct_net.proofs.PlaceLemmas.{put}
use Rattle.acct_net.proofs.SearchLemmas.{fewer}
use Rattle.acct_net.proofs.TurnLemmas.{later, same_turn}
use Rattle.acct_net.proofs.datagrams.Datagrams.receive.Goals as goal

-- what holds anyway holds after an error
on_err : {T E P : Type 0} (result : Result T E) → P → OnErr result P
on_err (Ok value) fact = tt
on_err (Err error) fact = fact

pub loop-place-smaller : goal.loop-place-smaller
loop-place-smaller c =
    fewer (λ (socket : RadiusSocket). socket.may_receive) c.loop-place.self.sockets.items
    c.in-Some.place c.receive.new.self c.receive.new.self c.in-Some.ensures.some.0
    (c.in-Some.ensures.some.1 c.receive.new.self) (rw c.in-None.is at c.in_ok-received.ensures.marked)

pub returns-in_err-received-clause-fault : goal.returns-in_err-received-clause-fault
returns-in_err-received-clause-fault c = on_err c.from_residual-in_err-received.result (
  c.receive.new.self,
  put c.loop-place.self.sockets.items c.in-Some.place c.receive.new.self c.in-Some.ensures.some.0,
  rw c.in_err-received.ensures.kept (search rules),
)

pub returns-in-Some-2-clause-some : goal.returns-in-Some-2-clause-some
returns-in-Some-2-clause-some c = (
  c.receive.new.self,
  put c.loop-place.self.sockets.items c.in-Some.place c.receive.new.self c.in-Some.ensures.some.0,
  ap (λ (socket : RadiusSocket). socket.received) c.in_ok-received.ensures.kept
      ∙ ap Ok c.in-Some-2.is,
  ap (λ (socket : RadiusSocket). socket.sent) c.in_ok-received.ensures.kept,
)

pub returns-in-Some-2-clause-turn : goal.returns-in-Some-2-clause-turn
returns-in-Some-2-clause-turn c =
    same_turn (λ (socket : RadiusSocket). socket.may_receive) c.loop-place.self.sockets.items
    (c.args.self.now.last + 1) c.in-Some.place c.receive.new.self c.receive.new.self
    (c.in_ok-received.ensures.marked ∙ ap is_some c.in-Some-2.is
    ∙ sym (c.in-Some.ensures.some.1 c.receive.new.self))
    ∙ sym c.loop-place.invariant.1 ∙ sym c.in-Some.ensures.turn

pub loop-place-preserved : goal.loop-place-preserved
loop-place-preserved c = (
  c.loop-place.invariant.0,
  later (λ (socket : RadiusSocket). socket.may_receive) c.receive.new.self
      (rw c.in-None.is at c.in_ok-received.ensures.marked) c.loop-place.self.sockets.items
      (c.args.self.now.last + 1) c.in-Some.place
      (sym c.loop-place.invariant.1 ∙ sym c.in-Some.ensures.turn),
)
