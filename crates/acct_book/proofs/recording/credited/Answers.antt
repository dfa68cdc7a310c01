use Rattle.std.proofs.Common.{◌≡◌, pos, ◌+ℤ◌, ◌-ℤ◌, sym, ap, ◌∙◌, subst, rules, SFits}
use Rattle.std.specs.Prelude.{None}
use Rattle.std.specs.Int.{w64}
use Rattle.std.proofs.lemmas.Int.{to_z-of_z}
use Rattle.acct_model.specs.declared.entry.Entry.TheVariants.{TopUp}
use Rattle.acct_book.specs.Content.{with_topup, kept_balance}
use Rattle.acct_model.specs.History.{InRange}
use Rattle.acct_book.specs.Outcome.{IsOverLimit}
use Rattle.acct_book.proofs.Calls.{topup_read_new, topup_read_over}
use Rattle.acct_book.proofs.recording.credited.Goals as goal

pub returns-in-Some-moved-clause-added : goal.returns-in-Some-moved-clause-added
returns-in-Some-moved-clause-added g c = λ now history st.
    let o1 = c.in_ok-balance.ensures.reads.was_open now in
    let same1 = c.in_ok-kept.ensures.reads.same o1 in
    let c0 = g.B.Book.content c.args.book.now in
    let t = c.args.topup.now in
    let number = c.as_str.ensures ∙ ap (λ r. r.voucher) c.topup.view_is in
    let account = c.as_slice.ensures ∙ ap (λ r. r.account) c.topup.view_is in
    let sum = c.from.ensures ∙ ap (λ r. r.sum) c.topup.view_is in
    let none : c0.topups t.voucher ≡ None = ap c0.topups (sym number)
    ∙ sym (c.in_ok-kept.ensures.found o1) ∙ c.in_default.is in
    let balance : c.in_ok-balance.balance ≡ kept_balance c0 t.account
    = c.in_ok-balance.ensures.found now ∙ (λ i. kept_balance (same1 i) (account i)) in
    let old_fits : SFits w64 c.in_ok-balance.balance = search rules in
    let new_fits : SFits w64 c.in-Some-moved.next = search rules in
    let old : _ ≡ c.in_ok-balance.balance = to_z-of_z w64 c.in_ok-balance.balance old_fits in
    let new : _ ≡ c.in-Some-moved.next = to_z-of_z w64 c.in-Some-moved.next new_fits in
    let added = topup_read_new c.args.plans.now c0 history t c.in_ok-balance.balance
    c.in-Some-moved.next (with_topup c0 t _) st none balance
    (c.in-Some-moved.ensures.some ∙ (λ i. (old i +ℤ pos (sum i)) -ℤ pos 0))
    c.in-Some-moved.ensures.fits (ap (with_topup c0 t) new) in
    (added.admissible, added.fresh, added.stands)

pub returns-in-None-clause-refused : goal.returns-in-None-clause-refused
returns-in-None-clause-refused g c = λ now history st.
    let o1 = c.in_ok-balance.ensures.reads.was_open now in
    let same1 = c.in_ok-kept.ensures.reads.same o1 in
    let c0 = g.B.Book.content c.args.book.now in
    let t = c.args.topup.now in
    let number = c.as_str.ensures ∙ ap (λ r. r.voucher) c.topup.view_is in
    let account = c.as_slice.ensures ∙ ap (λ r. r.account) c.topup.view_is in
    let sum = c.from.ensures ∙ ap (λ r. r.sum) c.topup.view_is in
    let none : c0.topups t.voucher ≡ None = ap c0.topups (sym number)
    ∙ sym (c.in_ok-kept.ensures.found o1) ∙ c.in_default.is in
    let balance : c.in_ok-balance.balance ≡ kept_balance c0 t.account
    = c.in_ok-balance.ensures.found now ∙ (λ i. kept_balance (same1 i) (account i)) in
    let fits : SFits w64 c.in_ok-balance.balance = search rules in
    let old : _ ≡ c.in_ok-balance.balance = to_z-of_z w64 c.in_ok-balance.balance fits in
    subst (IsOverLimit c.args.plans.now history (TopUp t)) (sym old)
    (topup_read_over c.args.plans.now c0 history t c.in_ok-balance.balance st none balance
    (λ f. c.in-None.ensures.none (subst InRange (sym (λ i. (old i +ℤ pos (sum i)) -ℤ pos 0))
    f)))
