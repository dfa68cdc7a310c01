use Rattle.std.proofs.Common.{◌≡◌, ℕ, List, Option, Result, Ok, Err}
use Rattle.std.specs.Prelude.{IfOk}
use Rattle.acct_service.specs.declared.exchange.Fault.{Fault}
use Rattle.acct_net_callers.specs.declared.caller.Stage.{Stage}
use Rattle.acct_net_callers.specs.declared.caller.Stage.TheVariants as stage
use Rattle.acct_net_callers.specs.declared.caller.Step.{Step}
use Rattle.acct_net_callers.specs.declared.request_buffer.RequestBuffer.{RequestBuffer}
use Rattle.acct_net_callers.specs.Transfer.{Receives, Ends}
use Rattle.acct_net_callers.specs.Progress.{Advances, Proceeds}
use Rattle.acct_net_callers.proofs.caller.Caller.proceed.Goals as goal

-- what is added to a request is what its read gave
reads : {S : Type 0} (left held : S → Option (List ℕ)) (old read new : S) → new ≡ read
    → (request buffer : RequestBuffer) (before after : Stage) → before ≡ stage.Reading request
    → Receives (left old) (left read) request.octets.items buffer.octets.items
    → Ends (left read) request.has_ended buffer.has_ended
    → (result : Result Step Fault) → IfOk result (Advances (stage.Reading buffer) after)
    → IfOk result (Proceeds (left old) (left new) (held old) (held new) before after)
reads left held old read new same request buffer before after is receives ends (Err fault) follows =
    follows
reads left held old read new same request buffer before after is receives ends (Ok step) follows =
    rw is (rw same record {
      buffer = buffer;
      receives = receives;
      ends = ends;
      follows = follows;
    })

pub returns-in_ok-has_moved-in-Reading-clause-proceeds : goal.returns-in_ok-has_moved-in-Reading-clause-proceeds
returns-in_ok-has_moved-in-Reading-clause-proceeds g c = reads g.S.Read.remaining g.S.Write.contents
    c.args.self.now.stream c.fill.new.reader c.advance.new.self.stream c.advance.ensures.same
    c.in-Reading.request c.fill.new.self c.args.self.now.stage c.advance.new.self.stage
    c.in-Reading.is c.in_ok-has_moved-in-Reading.ensures.receives
    c.in_ok-has_moved-in-Reading.ensures.ends
    c.advance.result
    c.advance.ensures.advances
