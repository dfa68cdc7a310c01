use Rattle.std.proofs.Common.{◌≡◌, sym, subst, rules, SFits}
use Rattle.std.specs.Prelude.{Err}
use Rattle.std.specs.Int.{w64}
use Rattle.std.proofs.lemmas.Int.{to_z-of_z}
use Rattle.acct_model.specs.declared.entry.Entry.TheVariants.{TopUp}
use Rattle.acct_book.specs.declared.recording.RecordError.TheVariants.{Unavailable}
use Rattle.acct_book.specs.Content.{with_topup}
use Rattle.acct_book.specs.inner.Calls.{AddsEntry}
use Rattle.acct_book.specs.Effect.{effect_of}
use Rattle.acct_book.specs.Step.{Does}
use Rattle.acct_book.proofs.Exits.{same_error, topup_own, passed_on, now_added, write_failed}
use Rattle.acct_book.proofs.recording.record_topup.Goals as goal

pub returns-in_err-balance : goal.returns-in_err-balance
returns-in_err-balance g c =
    let b = g.B.Book in
    passed_on b c.args.plans.now (TopUp c.args.topup.now) c.args.book.now c.credited.new.book
    c.credited.result c.in_err-balance.field-0.0 c.from_residual.result c.in_err-balance.was
    c.from_residual.ensures.1 (topup_own c.args.topup.now (Err c.in_err-balance.field-0.0))
    c.credited.ensures.reads c.credited.ensures.answers c.in_err-balance.ensures.refused
    g.met.B.Book.settled

pub returns-in_err-put_topup : goal.returns-in_err-put_topup
returns-in_err-put_topup g c =
    let b = g.B.Book in
    let plans = c.args.plans.now in
    let old = c.args.book.now in
    let entry = TopUp c.args.topup.now in
    let fits : SFits w64 c.in-Some.balance = search rules in
    let exact : _ ≡ c.in-Some.balance = to_z-of_z w64 c.in-Some.balance fits in
    subst (λ x. Does b plans old c.put_topup.new.self (effect_of entry x))
    (sym (same_error c.from_residual-in_err-put_topup.result Unavailable
    c.from_residual-in_err-put_topup.ensures.1))
    (write_failed b plans entry old c.credited.new.book c.put_topup.new.self c.credited.result
    c.put_topup.result _ c.credited.ensures.reads c.put_topup.ensures
    (λ now. subst (AddsEntry plans entry (b.content old)) (sym
    (λ i. with_topup (c.credited.ensures.reads.same now i) c.args.topup.now (exact i)))
    (rw c.in-Some.is at (c.in_ok-balance.ensures.added now)))
    g.met.B.Book.settled c.in_err-put_topup.ensures.err)

pub returns : goal.returns
returns g c =
    let b = g.B.Book in
    let plans = c.args.plans.now in
    let old = c.args.book.now in
    let entry = TopUp c.args.topup.now in
    let fits : SFits w64 c.in-Some.balance = search rules in
    let exact : _ ≡ c.in-Some.balance = to_z-of_z w64 c.in-Some.balance fits in
    now_added b plans entry old c.credited.new.book c.put_topup.new.self c.credited.result
    c.put_topup.result _ c.credited.ensures.reads c.put_topup.ensures
    (λ now. subst (AddsEntry plans entry (b.content old)) (sym
    (λ i. with_topup (c.credited.ensures.reads.same now i) c.args.topup.now (exact i)))
    (rw c.in-Some.is at (c.in_ok-balance.ensures.added now)))
    g.met.B.Book.settled c.in_ok-put_topup.ensures.answers c.in_ok-put_topup.ensures.ok
