use Rattle.std.proofs.Common.{◌+◌, ◌-◌, ◌^◌, ◌∙◌, min, subst, sym, ap}
use Rattle.acct_book_forward.proofs.Carrying.{not_ok}
use Rattle.acct_book_forward.proofs.CarriedOn.{begun_on, told_on, joined_on, begun_counted, counts_before}
use Rattle.acct_book_forward.proofs.CarriedOn.{counts_kept}
use Rattle.acct_book_forward.specs.Carrying.{CountsOn, CountsUpTo}
use Rattle.acct_book_forward.specs.inner.Forwarding.{count_of}
use Rattle.acct_book_forward.proofs.forwarding.carry_part.Goals.{in-Carried+else-not-has_more, in-TooLarge+in-Ok}
use Rattle.acct_book_forward.proofs.forwarding.carry_part.Goals as goal

pub loop-init : goal.loop-init
loop-init g c = record {
  carries = λ error. begun_on g.B.Book c.args.task.now.selection.now c.args.task.now.plans.now
      c.args.book.now error;
  counts = begun_counted g.B.Book c.args.task.now.selection.now c.args.task.now.plans.now
      c.args.book.now;
  answers = c.requires.answers;
}

pub carry_batch-requires-clause-in_order : goal.carry_batch-requires-clause-in_order
carry_batch-requires-clause-in_order g c = λ still.
    c.requires.in_order ((c.loop.invariant.carries (record {})).was_open still)

pub returns-in_err-count-clause-carries : goal.returns-in_err-count-clause-carries
returns-in_err-count-clause-carries g c =
    let b = g.B.Book in
    let new = c.carry_batch.new.book in
    let task = c.args.task.now in
    told_on b task.selection.now task.plans.now c.args.book.now new c.carry_batch.result
    c.from_residual.result
    (joined_on b task.selection.now task.plans.now c.args.book.now c.loop.book new _
    c.carry_batch.result (c.loop.invariant.carries (record {})) c.carry_batch.ensures.carries)
    (λ sound. not_ok c.from_residual.result _ (b.is_open new) c.from_residual.ensures.1)

pub returns-then-not-has_more-clause-carries : goal.returns-then-not-has_more-clause-carries
returns-then-not-has_more-clause-carries g c =
    let b = g.B.Book in
    let new = c.carry_batch.new.book in
    let task = c.args.task.now in
    told_on b task.selection.now task.plans.now c.args.book.now new c.carry_batch.result _
    (joined_on b task.selection.now task.plans.now c.args.book.now c.loop.book new _
    c.carry_batch.result (c.loop.invariant.carries (record {})) c.carry_batch.ensures.carries)
    c.in_ok-count.ensures.carries.answers

pub returns-then-not-has_more-clause-counts : goal.returns-then-not-has_more-clause-counts
returns-then-not-has_more-clause-counts g c =
    let b = g.B.Book in
    let new = c.carry_batch.new.book in
    let task = c.args.task.now in
    let turn = c.in_ok-count.field-0 in
    counts_before b task.selection.now task.plans.now c.args.book.now c.loop.book new c.loop.carried
    (count_of turn) c.saturating_add-carried.result c.carry_batch.ensures.carries.was_open
    (c.saturating_add-carried.ensures
    ∙ ap (λ turn. min (c.loop.carried + count_of turn) (2 ^ 64 - 1)) (sym c.in-Carried.is))
    c.loop.invariant.counts c.in_ok-count.ensures.counts

pub returns-in-Err-clause-carries : goal.returns-in-Err-clause-carries
returns-in-Err-clause-carries g c =
    let b = g.B.Book in
    let new = c.carry_batch.new.book in
    let task = c.args.task.now in
    told_on b task.selection.now task.plans.now c.args.book.now new c.carry_batch.result _
    (joined_on b task.selection.now task.plans.now c.args.book.now c.loop.book new _
    c.carry_batch.result (c.loop.invariant.carries (record {})) c.carry_batch.ensures.carries)
    (λ sound. tt)

pub loop-preserved : goal.loop-preserved
loop-preserved g c =
    let b = g.B.Book in
    let new = c.carry_batch.new.book in
    let task = c.args.task.now in
    record {
      carries = λ error. told_on b task.selection.now task.plans.now c.args.book.now new
          c.carry_batch.result _
          (joined_on b task.selection.now task.plans.now c.args.book.now c.loop.book new _
          c.carry_batch.result (c.loop.invariant.carries error) c.carry_batch.ensures.carries)
          (λ sound. tt);
      counts = elim c.match-branch-2.branch [
        | in-Carried+else-not-has_more w ↦
            subst (CountsUpTo b task.selection.now task.plans.now c.args.book.now new)
            (sym w.carried-is)
            (counts_before b task.selection.now task.plans.now c.args.book.now c.loop.book new
            c.loop.carried (count_of c.in_ok-count.field-0) w.saturating_add-carried.result
            c.carry_batch.ensures.carries.was_open
            (w.saturating_add-carried.ensures
            ∙ ap (λ turn. min (c.loop.carried + count_of turn) (2 ^ 64 - 1)) (sym w.in-Carried.is))
            c.loop.invariant.counts c.in_ok-count.ensures.counts)
        | in-TooLarge+in-Ok w ↦
            subst (CountsUpTo b task.selection.now task.plans.now c.args.book.now new)
            (sym w.carried-is)
            (counts_kept b task.selection.now task.plans.now c.args.book.now c.loop.book new
            c.loop.carried c.carry_batch.ensures.carries.was_open c.loop.invariant.counts
            (subst (CountsOn b task.selection.now task.plans.now c.loop.book new)
            (ap count_of w.in-TooLarge.is) c.in_ok-count.ensures.counts))
      ];
      answers = c.in_ok-count.ensures.carries.answers;
    }
