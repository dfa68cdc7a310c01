use Rattle.std.proofs.Common.{◌≡◌, pos, ◌+ℤ◌, ◌-ℤ◌, sym, ap, ◌∙◌, subst, rules, SFits}
use Rattle.std.specs.Int.{w64}
use Rattle.std.proofs.lemmas.Int.{to_z-of_z}
use Rattle.acct_book.specs.Content.{with_session}
use Rattle.acct_model.specs.History.{InRange}
use Rattle.acct_model.specs.declared.entry.Entry.TheVariants.{Report}
use Rattle.acct_book.specs.Outcome.{IsOverLimit}
use Rattle.acct_book.proofs.Calls.{report_read, read_new, read_over}
use Rattle.acct_book.proofs.recording.debited.Goals as goal

pub returns-in-Some-clause-added : goal.returns-in-Some-clause-added
returns-in-Some-clause-added g c = λ now history st.
    let c0 = g.B.Book.content c.args.book.now in
    let o1 = c.in_ok-balance.ensures.reads.was_open now in
    let same1 = c.in_ok-found.ensures.reads.same o1 in
    let read = report_read c.args.plans.now c0 (g.B.Book.content c.session.new.self)
    c.args.report.now c.in_ok-key.key c.in_ok-found.found c.in_ok-row.row c.in_ok-row.before
    c.charge-after.result c.as_slice.result.now c.in_ok-balance.balance
    same1 c.in_ok-key.ensures (c.in_ok-found.ensures.found o1) c.in_ok-row.ensures.row
    c.in_ok-row.ensures.before c.charge-after.ensures.exact
    (c.as_slice.ensures ∙ ap (λ r. r.account) c.row.view_is) (c.in_ok-balance.ensures.found now) in
    let old_fits : SFits w64 c.in_ok-balance.balance = search rules in
    let new_fits : SFits w64 c.in-Some.next = search rules in
    let old : _ ≡ c.in_ok-balance.balance = to_z-of_z w64 c.in_ok-balance.balance old_fits in
    let new : _ ≡ c.in-Some.next = to_z-of_z w64 c.in-Some.next new_fits in
    let added = read_new c.args.plans.now c0 history c.args.report.now c.in_ok-row.row
    c.in_ok-row.before c.charge-after.result c.in_ok-balance.balance c.in-Some.next
    (with_session c0 c.in_ok-row.row _)
    read st (c.in-Some.ensures.some ∙ ap (λ z. (z +ℤ pos c.in_ok-row.before)
    -ℤ pos c.charge-after.result) old) c.in-Some.ensures.fits
    (ap (with_session c0 c.in_ok-row.row) new) in
    (added.admissible, added.fresh, added.stands)

pub returns-clause-refused : goal.returns-clause-refused
returns-clause-refused g c = λ now history st.
    let c0 = g.B.Book.content c.args.book.now in
    let o1 = c.in_ok-balance.ensures.reads.was_open now in
    let same1 = c.in_ok-found.ensures.reads.same o1 in
    let read = report_read c.args.plans.now c0 (g.B.Book.content c.session.new.self)
    c.args.report.now c.in_ok-key.key c.in_ok-found.found c.in_ok-row.row c.in_ok-row.before
    c.charge-after.result c.as_slice.result.now c.in_ok-balance.balance
    same1 c.in_ok-key.ensures (c.in_ok-found.ensures.found o1) c.in_ok-row.ensures.row
    c.in_ok-row.ensures.before c.charge-after.ensures.exact
    (c.as_slice.ensures ∙ ap (λ r. r.account) c.row.view_is) (c.in_ok-balance.ensures.found now) in
    let fits : SFits w64 c.in_ok-balance.balance = search rules in
    let old : _ ≡ c.in_ok-balance.balance = to_z-of_z w64 c.in_ok-balance.balance fits in
    subst (IsOverLimit c.args.plans.now history (Report c.args.report.now)) (sym old)
    (read_over c.args.plans.now c0 history c.args.report.now c.in_ok-row.row
    c.in_ok-row.before c.charge-after.result c.in_ok-balance.balance read st
    (λ f. c.in-None.ensures.none (subst (λ z. InRange
    ((z +ℤ pos c.in_ok-row.before) -ℤ pos c.charge-after.result)) (sym old) f)))
