use Rattle.std.proofs.Common.{ap, subst, sym}
use Rattle.acct_book_forward.specs.Carrying.{CountsUpTo}
use Rattle.acct_book_forward.specs.declared.forwarding.Tally.{Tally}
use Rattle.acct_book_forward.proofs.Carrying.{not_ok}
use Rattle.acct_book_forward.proofs.CarriedOn.{begun_counted, begun_on, counts_up, joined_on, told_on}
use Rattle.acct_program_commands.proofs.Forwarded.{counts_still}
use Rattle.acct_program_commands.proofs.forward_command.carry_all.Goals as goal

pub loop-init : goal.loop-init
loop-init g c = record {
  carries = λ error. begun_on g.B.Book c.args.selection.now c.args.plans.now c.args.book.now error;
  counts = subst (CountsUpTo g.B.Book c.args.selection.now c.args.plans.now c.args.book.now
      c.args.book.now) (sym (ap (λ (t : Tally). t.carried) c.new-totals.ensures.sums.2))
      (begun_counted g.B.Book c.args.selection.now c.args.plans.now c.args.book.now);
}

pub returns-in_err-account-clause-carries : goal.returns-in_err-account-clause-carries
returns-in_err-account-clause-carries g c =
    let b = g.B.Book in
    let new = c.carry_next.new.book in
    told_on b c.args.selection.now c.args.plans.now c.args.book.now new c.carry_next.result
    c.from_residual.result
    (joined_on b c.args.selection.now c.args.plans.now c.args.book.now c.loop.book new _
    c.carry_next.result (c.loop.invariant.carries (record {})) c.carry_next.ensures.carries)
    (λ sound. not_ok c.from_residual.result _ (b.is_open new) c.from_residual.ensures.1)

pub returns-in_default-clause-carries : goal.returns-in_default-clause-carries
returns-in_default-clause-carries g c =
    let b = g.B.Book in
    let new = c.carry_next.new.book in
    told_on b c.args.selection.now c.args.plans.now c.args.book.now new c.carry_next.result _
    (joined_on b c.args.selection.now c.args.plans.now c.args.book.now c.loop.book new _
    c.carry_next.result (c.loop.invariant.carries (record {})) c.carry_next.ensures.carries)
    c.in_ok-account.ensures.carries.answers

pub returns-in_default-clause-counts : goal.returns-in_default-clause-counts
returns-in_default-clause-counts g c =
    let b = g.B.Book in
    counts_still b c.args.selection.now c.args.plans.now c.args.book.now c.loop.book
    c.carry_next.new.book c.loop.totals.sessions.carried c.carry_next.ensures.carries.was_open
    c.loop.invariant.counts
    (rw c.in_default.is at c.in_ok-account.ensures.counts)

pub loop-preserved : goal.loop-preserved
loop-preserved g c =
    let b = g.B.Book in
    let new = c.carry_next.new.book in
    record {
      carries = λ error.
          told_on b c.args.selection.now c.args.plans.now c.args.book.now new c.carry_next.result _
          (joined_on b c.args.selection.now c.args.plans.now c.args.book.now c.loop.book new _
          c.carry_next.result (c.loop.invariant.carries error) c.carry_next.ensures.carries)
          (λ sound. tt);
      counts = counts_up b c.args.selection.now c.args.plans.now c.args.book.now c.loop.book new
          c.loop.totals.sessions.carried c.in-Some.tally.carried _
          c.carry_next.ensures.carries.was_open
          (ap (λ (t : Tally). t.carried) c.add.ensures.sums.sessions_are) c.loop.invariant.counts
          (rw c.in-Some.is at c.in_ok-account.ensures.counts);
    }
