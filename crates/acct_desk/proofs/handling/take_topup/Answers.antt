use Rattle.acct_model.specs.declared.shown.NoMemory.{NoMemory}
use Rattle.acct_desk.specs.Asks.{credit}
use Rattle.acct_desk.proofs.HandleLemmas.{mute_handles, recorded_handles}
use Rattle.acct_desk.proofs.handling.take_topup.Goals as goal

pub returns : goal.returns
returns g c =
    let b = g.B.Book in
    recorded_handles {E = NoMemory} b c.args.plans.now c.args.book.now c.record-recorded.new.book
    c.args.topup
    c.record-recorded.result c.answer_of.result c.record-recorded.ensures c.answer_of.ensures

pub returns-in_default : goal.returns-in_default
returns-in_default g c =
    mute_handles {E = NoMemory} g.B.Book c.args.plans.now (credit c.args.topup) c.args.book.now _
