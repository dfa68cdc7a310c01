-- What the file of a server's counts has, and how a call of the exchange counts.
use Rattle.std.specs.Prelude.{◌≡◌, Bool, false, Option, Some, None, Result}
use Rattle.acct_service.specs.declared.event.Event.{Event}
use Rattle.acct_service.specs.declared.event.What.{What}
use Rattle.acct_service.specs.declared.exchange.Fault.{Fault}
use Rattle.acct_wire.specs.declared.reason.Reason.{Reason}
use Rattle.acct_program_commands.specs.Tally.{with_mute, with_came, is_event, last_event}
use Rattle.acct_program_commands.specs.Tally.{with_arrival, has_datagram, is_request, with_reply}
use Rattle.acct_program_commands.specs.Tally.{with_report, with_drop, with_drop_for}
use Rattle.acct_program_commands.specs.declared.figures.Figures.{Figures}
use Rattle.acct_program_commands.specs.declared.figures.State.{State}
use Rattle.acct_program_commands.specs.declared.status_file.StatusFile.{StatusFile}

module _ {R E : Type 0} where
  -- what was counted so far, beside this state
  abbrev pub figures_of : StatusFile R E → State → Figures
  figures_of status state = record {
    tally = status.meter.tally;
    dropped = status.dropped;
    started_at = status.started_at;
    last_event_at = status.last_event_at;
    datagrams = status.datagrams;
    reports = status.reports;
    requests = status.requests;
    state = state;
  }

  -- an event that got no answer before the next turn is counted
  abbrev pub muted : StatusFile R E → StatusFile R E
  muted status = record status {
    meter = record {
      tally = with_mute status.meter.is_unanswered status.meter.tally;
      is_unanswered = false;
    };
  }

  -- a turn that received this is counted
  abbrev pub with_turn : Result (Option Event) Fault → StatusFile R E → StatusFile R E
  with_turn came status = record (muted status) {
    meter = record {
      tally = with_came came (with_mute status.meter.is_unanswered status.meter.tally);
      is_unanswered = is_event came;
    };
    last_event_at = last_event came status.last_event_at;
    datagrams = with_arrival (has_datagram came) came status.datagrams;
    requests = with_arrival (is_request came) came status.requests;
  }

  -- a reply to this, which was taken or not, is counted
  abbrev pub with_answer : What → Bool → StatusFile R E → StatusFile R E
  with_answer what is_taken status = record status {
    meter = record { tally = with_reply is_taken status.meter.tally; is_unanswered = false };
    reports = with_report what status.reports;
  }

  -- a drop for this reason is counted
  abbrev pub with_refusal : Reason → StatusFile R E → StatusFile R E
  with_refusal reason status = record status {
    meter = record { tally = with_drop status.meter.tally; is_unanswered = false };
    dropped = with_drop_for reason status.dropped;
  }

  -- It counts so, and else only writes its file.
  abbrev pub CountsAs : (StatusFile R E → StatusFile R E) → Option (StatusFile R E)
      → Option (StatusFile R E) → Type 0
  CountsAs counted None new = new ≡ None
  CountsAs counted (Some old) None = ⊥
  CountsAs counted (Some old) (Some new) =
      new ≡ record (counted old) { file = new.file; errors = new.errors }
