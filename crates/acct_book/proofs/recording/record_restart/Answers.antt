use Rattle.std.proofs.Common.{sym, subst}
use Rattle.std.specs.Prelude.{Err}
use Rattle.acct_model.specs.declared.entry.Entry.TheVariants.{Restart}
use Rattle.acct_book.specs.declared.recording.RecordError.TheVariants.{Unavailable}
use Rattle.acct_book.specs.Effect.{effect_of}
use Rattle.acct_book.specs.Step.{Does}
use Rattle.acct_book.proofs.Steps.{restart_adds}
use Rattle.acct_book.proofs.Exits.{same_error, reads_none, now_added, write_failed}
use Rattle.acct_book.proofs.recording.record_restart.Goals as goal

pub returns-in_err-close_client : goal.returns-in_err-close_client
returns-in_err-close_client g c =
    let b = g.B.Book in
    let plans = c.args.plans.now in
    let old = c.args.book.now in
    let entry = Restart c.args.restart.now in
    subst (λ x. Does b plans old c.close_client.new.self (effect_of entry x))
    (sym (same_error c.from_residual.result Unavailable c.from_residual.ensures.1))
    (write_failed {T = Unit {0}} b plans entry old old c.close_client.new.self (Err Unavailable)
    c.close_client.result _ (reads_none b old Unavailable) c.close_client.ensures
    (λ _. restart_adds plans (b.content old) c.args.restart.now _ c.as_str.ensures)
    g.met.B.Book.settled c.in_err-close_client.ensures.err)

pub returns : goal.returns
returns g c =
    let b = g.B.Book in
    let plans = c.args.plans.now in
    let old = c.args.book.now in
    now_added {T = Unit {0}} b plans (Restart c.args.restart.now) old old c.close_client.new.self
    (Err Unavailable) c.close_client.result _ (reads_none b old Unavailable) c.close_client.ensures
    (λ _. restart_adds plans (b.content old) c.args.restart.now _ c.as_str.ensures)
    g.met.B.Book.settled c.in_ok-close_client.ensures.answers c.in_ok-close_client.ensures.ok
