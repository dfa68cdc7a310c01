use Rattle.std.proofs.Common.{Ok, Err}
use Rattle.acct_model.specs.declared.shown.NoMemory.{NoMemory}
use Rattle.acct_service.proofs.Steps.{request_step}
use Rattle.acct_service.proofs.outbox.Outbox.answer_request.Goals as goal

pub returns-in-Ok-clause-step : goal.returns-in-Ok-clause-step
returns-in-Ok-clause-step g c oldest =
    let (ask, asks, handles) = c.in-Ok.ensures in
    request_step g.B.Book oldest c.args.config.now c.args.book.now c.handle.new.book {E = NoMemory}
    c.args.bytes.now c.args.moment ask (Ok c.in-Ok.response) asks handles

pub returns-in-Err-clause-step : goal.returns-in-Err-clause-step
returns-in-Err-clause-step g c oldest =
    let (ask, asks, handles) = c.in-Err.ensures in
    request_step g.B.Book oldest c.args.config.now c.args.book.now c.handle.new.book {E = NoMemory}
    c.args.bytes.now c.args.moment ask (Err c.in-Err.field-0) asks handles
