use Rattle.std.proofs.Common.{◌≡◌, sym, subst, rules, SFits}
use Rattle.std.specs.Int.{w64}
use Rattle.std.proofs.lemmas.Int.{to_z-of_z}
use Rattle.acct_model.specs.declared.entry.Entry.TheVariants.{Report}
use Rattle.acct_book.specs.declared.recording.RecordError.TheVariants.{Unavailable}
use Rattle.acct_book.specs.Content.{with_session}
use Rattle.acct_book.specs.inner.Calls.{AddsEntry}
use Rattle.acct_book.specs.Effect.{effect_of}
use Rattle.acct_book.specs.Step.{Does}
use Rattle.acct_book.proofs.Exits.{same_error, passed_on, now_added, write_failed}
use Rattle.acct_book.proofs.recording.record_report.Goals as goal

pub returns-in_err-row : goal.returns-in_err-row
returns-in_err-row g c =
    let b = g.B.Book in
    passed_on b c.args.plans.now (Report c.args.report.now) c.args.book.now c.debited.new.book
    c.debited.result c.in_err-row.field-0.0 c.from_residual.result c.in_err-row.was
    c.from_residual.ensures.1 c.in_err-row.ensures.own c.debited.ensures.reads
    c.debited.ensures.answers c.in_err-row.ensures.refused g.met.B.Book.settled

pub returns-in_err-put_session : goal.returns-in_err-put_session
returns-in_err-put_session g c =
    let b = g.B.Book in
    let plans = c.args.plans.now in
    let old = c.args.book.now in
    let entry = Report c.args.report.now in
    let fits : SFits w64 c.in_ok-row.balance = search rules in
    let exact : _ ≡ c.in_ok-row.balance = to_z-of_z w64 c.in_ok-row.balance fits in
    subst (λ x. Does b plans old c.put_session.new.self (effect_of entry x))
    (sym (same_error c.from_residual-in_err-put_session.result Unavailable
    c.from_residual-in_err-put_session.ensures.1))
    (write_failed b plans entry old c.debited.new.book c.put_session.new.self c.debited.result
    c.put_session.result _ c.debited.ensures.reads c.put_session.ensures
    (λ now. subst (AddsEntry plans entry (b.content old)) (sym
    (λ i. with_session (c.debited.ensures.reads.same now i) c.in_ok-row.row (exact i)))
    (c.in_ok-row.ensures.added now))
    g.met.B.Book.settled c.in_err-put_session.ensures.err)

pub returns : goal.returns
returns g c =
    let b = g.B.Book in
    let plans = c.args.plans.now in
    let old = c.args.book.now in
    let entry = Report c.args.report.now in
    let fits : SFits w64 c.in_ok-row.balance = search rules in
    let exact : _ ≡ c.in_ok-row.balance = to_z-of_z w64 c.in_ok-row.balance fits in
    now_added b plans entry old c.debited.new.book c.put_session.new.self c.debited.result
    c.put_session.result _ c.debited.ensures.reads c.put_session.ensures
    (λ now. subst (AddsEntry plans entry (b.content old)) (sym
    (λ i. with_session (c.debited.ensures.reads.same now i) c.in_ok-row.row (exact i)))
    (c.in_ok-row.ensures.added now))
    g.met.B.Book.settled c.in_ok-put_session.ensures.answers c.in_ok-put_session.ensures.ok
