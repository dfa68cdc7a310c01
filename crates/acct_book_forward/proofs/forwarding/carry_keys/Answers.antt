use Rattle.std.proofs.Common.{subst, sym}
use Rattle.std.specs.List.Sorted.{IsStrictlySortedBy}
use Rattle.acct_book.specs.Maps.{key_cmp}
use Rattle.acct_book_forward.proofs.Carrying.{not_ok}
use Rattle.acct_book_forward.proofs.CarriedOn.{begun_on, told_on, joined_on, begun_counted, counts_up}
use Rattle.acct_book_forward.proofs.InOrder.{order_take, order_drop}
use Rattle.acct_book_forward.proofs.forwarding.carry_keys.Goals as goal

pub loop-rest-init : goal.loop-rest-init
loop-rest-init g c = record {
  carries = λ error. begun_on g.B.Book c.args.task.now.selection.now c.args.task.now.plans.now
      c.args.book.now error;
  counts = begun_counted g.B.Book c.args.task.now.selection.now c.args.task.now.plans.now
      c.args.book.now;
  answers = c.requires.answers;
  in_order = c.requires.in_order;
}

pub carry_part-requires-clause-in_order : goal.carry_part-requires-clause-in_order
carry_part-requires-clause-in_order g c = λ still.
    subst (IsStrictlySortedBy key_cmp) (sym c.split_at.ensures.front)
    (order_take key_cmp _ c.loop-rest.rest.now
    (c.loop-rest.invariant.in_order ((c.loop-rest.invariant.carries (record {})).was_open still)))

pub returns-in_err-carry_part-clause-carries : goal.returns-in_err-carry_part-clause-carries
returns-in_err-carry_part-clause-carries g c =
    let b = g.B.Book in
    let new = c.carry_part.new.book in
    let task = c.args.task.now in
    told_on b task.selection.now task.plans.now c.args.book.now new c.carry_part.result
    c.from_residual.result
    (joined_on b task.selection.now task.plans.now c.args.book.now c.loop-rest.book new _
    c.carry_part.result (c.loop-rest.invariant.carries (record {})) c.carry_part.ensures.carries)
    (λ sound. not_ok c.from_residual.result _ (b.is_open new) c.from_residual.ensures.1)

pub loop-rest-preserved : goal.loop-rest-preserved
loop-rest-preserved g c =
    let b = g.B.Book in
    let new = c.carry_part.new.book in
    let task = c.args.task.now in
    record {
      carries = λ error. told_on b task.selection.now task.plans.now c.args.book.now new
          c.carry_part.result _
          (joined_on b task.selection.now task.plans.now c.args.book.now c.loop-rest.book new _
          c.carry_part.result (c.loop-rest.invariant.carries error) c.carry_part.ensures.carries)
          (λ sound. tt);
      counts = counts_up b task.selection.now task.plans.now c.args.book.now c.loop-rest.book new
          c.loop-rest.carried c.in_ok-carry_part.field-0 c.saturating_add-carried.result
          c.carry_part.ensures.carries.was_open c.saturating_add-carried.ensures
          c.loop-rest.invariant.counts c.in_ok-carry_part.ensures.counts;
      answers = c.in_ok-carry_part.ensures.carries.answers;
      in_order = λ still. subst (IsStrictlySortedBy key_cmp) (sym c.split_at.ensures.back)
          (order_drop key_cmp _ c.loop-rest.rest.now (c.loop-rest.invariant.in_order still));
    }

pub returns-clause-carries : goal.returns-clause-carries
returns-clause-carries g c =
    let task = c.args.task.now in
    told_on g.B.Book task.selection.now task.plans.now c.args.book.now c.loop-rest.book _ _
    (c.loop-rest.invariant.carries (record {})) c.loop-rest.invariant.answers
