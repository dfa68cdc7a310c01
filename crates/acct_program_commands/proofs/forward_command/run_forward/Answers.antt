use Rattle.acct_book_forward.proofs.Carrying.{not_ok}
use Rattle.acct_program_commands.proofs.Audited.{appends_kept}
use Rattle.acct_program_commands.proofs.Forwarded.{forwards_then, ok_same, tells_forward}
use Rattle.acct_program_commands.specs.Survey.{TellsForward}
use Rattle.acct_program_commands.proofs.forward_command.run_forward.Goals as goal

pub returns-in_err-totals-clause-runs : goal.returns-in_err-totals-clause-runs
returns-in_err-totals-clause-runs g c =
    let b = g.B.Book in
    record {
      forwards = forwards_then b c.args.plans.now c.args.carrying.now c.args.clock.moment
          c.args.clock.written_at c.args.book.now c.look.new.book c.carry.new.book c.carry.result _
          c.look.ensures.looks c.in_ok-found.ensures.answers c.carry.ensures.forwards
          (λ sound. not_ok _ _ (b.is_open c.carry.new.book)
          c.from_residual-in_err-totals.ensures.1);
      told = λ still. not_ok _ _
          (TellsForward b c.args.plans.now c.args.carrying.now c.args.clock.moment
          (g.W.Write.contents c.args.output.now) (g.W.Write.contents c.look.new.output)
          c.args.book.now c.carry.new.book) c.from_residual-in_err-totals.ensures.1;
    }

pub returns-in_err-write_totals-clause-runs : goal.returns-in_err-write_totals-clause-runs
returns-in_err-write_totals-clause-runs g c =
    let b = g.B.Book in
    record {
      forwards = forwards_then b c.args.plans.now c.args.carrying.now c.args.clock.moment
          c.args.clock.written_at c.args.book.now c.look.new.book c.carry.new.book c.carry.result _
          c.look.ensures.looks c.in_ok-found.ensures.answers c.carry.ensures.forwards
          (λ sound. not_ok _ _ (b.is_open c.carry.new.book)
          c.from_residual-in_err-write_totals.ensures.1);
      told = λ still. not_ok _ _
          (TellsForward b c.args.plans.now c.args.carrying.now c.args.clock.moment
          (g.W.Write.contents c.args.output.now) (g.W.Write.contents c.write_totals.new.output)
          c.args.book.now c.carry.new.book) c.from_residual-in_err-write_totals.ensures.1;
    }

pub returns-in_err-flush-clause-runs : goal.returns-in_err-flush-clause-runs
returns-in_err-flush-clause-runs g c =
    let b = g.B.Book in
    record {
      forwards = forwards_then b c.args.plans.now c.args.carrying.now c.args.clock.moment
          c.args.clock.written_at c.args.book.now c.look.new.book c.carry.new.book c.carry.result _
          c.look.ensures.looks c.in_ok-found.ensures.answers c.carry.ensures.forwards
          (λ sound. not_ok _ _ (b.is_open c.carry.new.book)
          c.from_residual-in_err-flush.ensures.1);
      told = λ still. not_ok _ _
          (TellsForward b c.args.plans.now c.args.carrying.now c.args.clock.moment
          (g.W.Write.contents c.args.output.now) (g.W.Write.contents c.flush.new.self)
          c.args.book.now c.carry.new.book) c.from_residual-in_err-flush.ensures.1;
    }

pub returns-clause-runs : goal.returns-clause-runs
returns-clause-runs g c =
    let b = g.B.Book in
    record {
      forwards = forwards_then b c.args.plans.now c.args.carrying.now c.args.clock.moment
          c.args.clock.written_at c.args.book.now c.look.new.book c.carry.new.book c.carry.result _
          c.look.ensures.looks c.in_ok-found.ensures.answers c.carry.ensures.forwards
          c.in_ok-totals.ensures.forwards.carries.answers;
      told = tells_forward b c.args.plans.now c.args.carrying.now c.args.clock.moment
          c.args.book.now c.look.new.book c.carry.new.book _ _ _ c.in_ok-found.found
          c.in_ok-totals.totals c.look.ensures.looks c.carry.ensures.forwards.carries.was_open
          (rw c.in_ok-selection.ensures at c.in_ok-found.ensures.counts)
          (rw c.is_some.ensures at
          (rw c.in_ok-selection.ensures at c.in_ok-found.ensures.told))
          (λ is. ok_same _ _ c.carry.result c.in_ok-totals.was (c.carry.ensures.dry is))
          (λ is. ok_same _ _ c.carry.result c.in_ok-totals.was (c.carry.ensures.none is))
          (rw c.in_ok-selection.ensures at c.in_ok-totals.ensures.counts)
          (appends_kept _ _ _ _ c.in_ok-write_totals.ensures c.in_ok-flush.ensures.bytes);
    }
