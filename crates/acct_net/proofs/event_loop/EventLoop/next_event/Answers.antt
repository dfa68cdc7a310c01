use Rattle.std.proofs.Common.{Err, Ok, Result, inl, inr, refl}
use Rattle.std.specs.Prelude.{OnErr}
use Rattle.acct_net.proofs.event_loop.EventLoop.next_event.Goals as goal
use Rattle.acct_net.proofs.event_loop.EventLoop.next_event.Goals.{then-self+in-Ok-None}
use Rattle.acct_net.proofs.event_loop.EventLoop.next_event.Goals.{then-self+in_default}
use Rattle.acct_net.proofs.event_loop.EventLoop.next_event.Goals.{else-self+in-Ok-None-next_datagram}
use Rattle.acct_net.proofs.event_loop.EventLoop.next_event.Goals.{else-self+in_default-next_datagram}
use Rattle.acct_net.proofs.event_loop.EventLoop.next_event.Goals.{in_default-next_datagram-via-in-Ok+in-Some-1, in_default-next_datagram-via-in-Err-1}

-- what holds anyway holds after an error
on_err : {T E P : Type 0} (result : Result T E) → P → OnErr result P
on_err (Ok value) fact = tt
on_err (Err error) fact = fact

-- what follows from what an error says holds after it
lift : {T E P Q : Type 0} (result : Result T E) → (P → Q) → OnErr result P → OnErr result Q
lift (Ok value) follows fact = tt
lift (Err error) follows fact = follows fact

pub returns-clause-fault : goal.returns-clause-fault
returns-clause-fault g c = elim c.if-self.branch [
  | then-self+in-Ok-None w ↦ rw (w.event-is, w.self-is)
      (lift w.next_datagram.result (λ lost. inr (inr lost)) w.next_datagram.ensures.fault)
  | then-self+in_default w ↦ rw w.event-is (on_err _ (inr (inl refl)))
  | else-self+in-Ok-None-next_datagram w ↦ rw w.event-is (on_err _ (inr (inl refl)))
  | else-self+in_default-next_datagram w ↦ rw (w.event-is, w.self-is)
      (elim w.in_default-next_datagram-1.branch [
        | in_default-next_datagram-via-in-Ok+in-Some-1 w' ↦ rw w'.datagram-is tt
        | in_default-next_datagram-via-in-Err-1 w' ↦ rw w'.datagram-is
            (lift w.next_datagram-else-self.result (λ lost. inr (inr lost))
            w.next_datagram-else-self.ensures.fault)
      ])
]
