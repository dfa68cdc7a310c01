use Rattle.std.proofs.Common.{◌≡◌, ◌+◌, length, arith, sym, ap, ◌∙◌, subst}
use Rattle.std.specs.Prelude.{Ok}
use Rattle.acct_book.specs.Content.{Content}
use Rattle.acct_book_forward.specs.inner.Forwarding.{AreIn, AreAllOf}
use Rattle.acct_book_forward.proofs.Carrying.{not_ok}
use Rattle.acct_book_forward.proofs.CarriedParts.{IsBatch, batch_taken, batch_apart, batch_there}
use Rattle.acct_book_forward.proofs.CarriedParts.{batch_stands}
use Rattle.acct_book_forward.specs.Carrying.{CountsOn}
use Rattle.acct_book_forward.proofs.CarriedOn.{looked_on, joined_on, batch_on, AreThere}
use Rattle.acct_book_forward.proofs.CarriedOn.{none_counted, counts_joined, rows_counted}
use Rattle.acct_book_forward.proofs.forwarding.carry_batch.Goals as goal

pub carry_rows-requires-clause-stand : goal.carry_rows-requires-clause-stand
carry_rows-requires-clause-stand g c = λ still.
    let old = g.B.Book.content c.args.book.now in
    let are = batch_stands c.args.task.now.selection.now c.as_slice.result.now c.in_ok-found.found.items
    c.batch_of-rows.result.items old c.args.task.now.account.now c.batch_of-rows.ensures
    (c.in_ok-found.ensures.found still) in
    subst (λ (x : Content). AreIn x.rows c.deref-2.result.now)
    (sym (c.rows_under.ensures.reads.same still))
    (subst (AreIn old.rows) (sym c.deref-2.ensures.value) are.0)

pub carry_rows-requires-clause-alike : goal.carry_rows-requires-clause-alike
carry_rows-requires-clause-alike g c = λ still.
    let are = batch_stands c.args.task.now.selection.now c.as_slice.result.now c.in_ok-found.found.items
    c.batch_of-rows.result.items (g.B.Book.content c.args.book.now) c.args.task.now.account.now
    c.batch_of-rows.ensures (c.in_ok-found.ensures.found still) in
    subst (λ class. AreAllOf c.args.task.now.account.now class c.deref-2.result.now)
    (c.as_slice.ensures ∙ sym c.as_slice-2.ensures)
    (subst (AreAllOf c.args.task.now.account.now c.as_slice.result.now)
    (sym c.deref-2.ensures.value) are.1)

pub carry_rows-requires-clause-apart : goal.carry_rows-requires-clause-apart
carry_rows-requires-clause-apart g c =
    batch_apart c.args.task.now.selection.now c.as_slice.result.now c.in_ok-found.found.items
    c.deref-2.result.now
    (c.batch_of-rows.ensures.0, c.deref-2.ensures.value ∙ c.batch_of-rows.ensures.1)

pub returns-in_err-carry_rows-clause-carries : goal.returns-in_err-carry_rows-clause-carries
returns-in_err-carry_rows-clause-carries g c =
    let b = g.B.Book in
    let mid = c.rows_under.new.book in
    let reads = c.rows_under.ensures.reads in
    let rows = c.deref-2.result.now in
    let task = c.args.task.now in
    let is : IsBatch task.selection.now c.as_slice.result.now c.in_ok-found.found.items rows = (
      c.batch_of-rows.ensures.0,
      c.deref-2.ensures.value ∙ c.batch_of-rows.ensures.1,
    ) in
    let there : b.is_open mid → AreThere (b.content mid) rows = λ still.
    subst (λ x. AreThere x rows) (sym (reads.same still))
    (batch_there task.selection.now c.as_slice.result.now c.in_ok-found.found.items rows
    (b.content c.args.book.now) task.account.now is (c.in_ok-found.ensures.found still)) in
    joined_on b task.selection.now task.plans.now c.args.book.now mid c.carry_rows.new.book
    c.rows_under.result c.from_residual-in_err-carry_rows.result
    (looked_on b task.selection.now task.plans.now c.args.book.now mid c.rows_under.result
    c.rows_under.result reads reads.answers)
    (batch_on b task.selection.now task.plans.now rows mid c.carry_rows.new.book
    c.carry_rows.result c.from_residual-in_err-carry_rows.result there
    (batch_taken task.selection.now c.as_slice.result.now c.in_ok-found.found.items rows is)
    c.carry_rows.ensures
    (λ sound. not_ok c.from_residual-in_err-carry_rows.result _
    (b.is_open c.carry_rows.new.book) c.from_residual-in_err-carry_rows.ensures.1))

pub returns-then-branch-clause-carries : goal.returns-then-branch-clause-carries
returns-then-branch-clause-carries g c =
    let b = g.B.Book in
    let mid = c.rows_under.new.book in
    let reads = c.rows_under.ensures.reads in
    let rows = c.deref-2.result.now in
    let task = c.args.task.now in
    let is : IsBatch task.selection.now c.as_slice.result.now c.in_ok-found.found.items rows = (
      c.batch_of-rows.ensures.0,
      c.deref-2.ensures.value ∙ c.batch_of-rows.ensures.1,
    ) in
    let there : b.is_open mid → AreThere (b.content mid) rows = λ still.
    subst (λ x. AreThere x rows) (sym (reads.same still))
    (batch_there task.selection.now c.as_slice.result.now c.in_ok-found.found.items rows
    (b.content c.args.book.now) task.account.now is (c.in_ok-found.ensures.found still)) in
    joined_on b task.selection.now task.plans.now c.args.book.now mid c.carry_rows.new.book
    c.rows_under.result _
    (looked_on b task.selection.now task.plans.now c.args.book.now mid c.rows_under.result
    c.rows_under.result reads reads.answers)
    (batch_on b task.selection.now task.plans.now rows mid c.carry_rows.new.book
    c.carry_rows.result _ there
    (batch_taken task.selection.now c.as_slice.result.now c.in_ok-found.found.items rows is)
    c.carry_rows.ensures c.in_ok-carry_rows.ensures.answers)

pub returns-then-branch-clause-counts : goal.returns-then-branch-clause-counts
returns-then-branch-clause-counts g c =
    let b = g.B.Book in
    let mid = c.rows_under.new.book in
    let new = c.carry_rows.new.book in
    let reads = c.rows_under.ensures.reads in
    let rows = c.deref-2.result.now in
    let task = c.args.task.now in
    let is : IsBatch task.selection.now c.as_slice.result.now c.in_ok-found.found.items rows = (
      c.batch_of-rows.ensures.0,
      c.deref-2.ensures.value ∙ c.batch_of-rows.ensures.1,
    ) in
    let there : b.is_open mid → AreThere (b.content mid) rows = λ still.
    subst (λ x. AreThere x rows) (sym (reads.same still))
    (batch_there task.selection.now c.as_slice.result.now c.in_ok-found.found.items rows
    (b.content c.args.book.now) task.account.now is (c.in_ok-found.ensures.found still)) in
    let count : 0 + length rows ≡ c.len-count.result =
    omega (arith, ap length c.deref-2.ensures.value, c.len-count.ensures) in
    subst (CountsOn b task.selection.now task.plans.now c.args.book.now new) count
    (counts_joined b task.selection.now task.plans.now c.args.book.now mid new 0 (length rows)
    c.carry_rows.ensures.was_open
    (none_counted b task.selection.now task.plans.now c.args.book.now mid c.rows_under.result reads)
    (rows_counted b task.selection.now task.plans.now rows mid new c.carry_rows.result there
    (batch_taken task.selection.now c.as_slice.result.now c.in_ok-found.found.items rows is)
    c.carry_rows.ensures (c.in_ok-carry_rows.was ∙ ap Ok c.if-branch.true)))
