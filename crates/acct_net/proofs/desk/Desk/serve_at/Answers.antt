use Rattle.std.proofs.Common.{◌≡◌, ℕ, List, Option, Some}
use Rattle.std.proofs.Common.{rules, refl, inr}
use Rattle.acct_net_callers.specs.declared.caller.Stage.{Stage}
use Rattle.acct_net_callers.specs.declared.caller.Stage.TheVariants as stage
use Rattle.acct_net_callers.specs.declared.caller.Step.TheVariants as step
use Rattle.acct_net_callers.specs.Progress.{Proceeds}
use Rattle.acct_net.proofs.PlaceLemmas.{found, put}
use Rattle.acct_net.proofs.desk.Desk.serve_at.Goals as goal

-- a caller whose request is handed out awaits its response
waits : (old_left new_left old_held new_held : Option (List ℕ)) (before after : Stage)
    (request : List ℕ)
    → Proceeds old_left new_left old_held new_held before after (step.Received request)
    → after ≡ stage.Waiting request
waits old_left new_left old_held new_held (stage.Reading buffer) after request proceeds =
    proceeds.follows.0
waits old_left new_left old_held new_held (stage.Writing left) after request proceeds =
    absurd proceeds.1
waits old_left new_left old_held new_held (stage.Waiting asked) after request proceeds =
    absurd proceeds.1
waits old_left new_left old_held new_held stage.Closing after request proceeds = absurd proceeds.1

pub returns-in-Received : goal.returns-in-Received
returns-in-Received g c =
    let proceeds = rw c.in-Received.is at c.in_ok-step.ensures.proceeds in record {
      waiting = (
        c.proceed.new.self,
        put c.args.self.now.places.items c.args.place (Some c.proceed.new.self) (search rules),
        waits (g.R.Stream.Read.remaining c.in_ok-caller.caller.stream)
            (g.R.Stream.Read.remaining c.proceed.new.self.stream)
            (g.R.Stream.Write.contents c.in_ok-caller.caller.stream)
            (g.R.Stream.Write.contents c.proceed.new.self.stream)
            c.in_ok-caller.caller.stage c.proceed.new.self.stage c.in-Received.request proceeds,
      );
      received = record {
        place = c.args.place;
        has_place = refl;
        before = c.in_ok-caller.caller;
        was = found (λ m. m.now) c.get_mut.result c.in_ok-slot.slot c.take.result
            c.in_ok-caller.caller c.args.self.now.places.items c.args.place
            c.in_ok-slot.ensures.ok_part c.get_mut.ensures.item.3 c.take.ensures.value
            c.in_ok-caller.ensures.ok_part;
        after = c.proceed.new.self;
        others = refl;
        proceeds = proceeds;
      };
      others = inr (Some c.proceed.new.self, refl);
      none = λ is. absurd (cc is);
      failed = tt;
      other = refl;
    }
