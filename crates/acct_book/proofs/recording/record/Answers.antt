use Rattle.std.proofs.Common.{sym, subst}
use Rattle.acct_book.specs.Effect.{effect_of}
use Rattle.acct_book.specs.Step.{Does}
use Rattle.acct_book.proofs.recording.record.Goals as goal

pub returns-in-Report : goal.returns-in-Report
returns-in-Report g c =
    subst (λ e. Does g.B.Book c.args.plans.now c.args.book.now c.record_report.new.book
    (effect_of e c.record_report.result)) (sym c.in-Report.is) c.record_report.ensures

pub returns-in-Restart : goal.returns-in-Restart
returns-in-Restart g c =
    subst (λ e. Does g.B.Book c.args.plans.now c.args.book.now c.record_restart.new.book
    (effect_of e c.record_restart.result)) (sym c.in-Restart.is) c.record_restart.ensures

pub returns-in-TopUp : goal.returns-in-TopUp
returns-in-TopUp g c =
    subst (λ e. Does g.B.Book c.args.plans.now c.args.book.now c.record_topup.new.book
    (effect_of e c.record_topup.result)) (sym c.in-TopUp.is) c.record_topup.ensures
