use Rattle.std.proofs.Common.{ap, ◌∙◌, Err}
use Rattle.acct_wire.proofs.AnswerParts.{dropped_does, reply_does, limit_does, refused_does}
use Rattle.acct_wire.proofs.AnswerParts.{differs_never, written_past}
use Rattle.acct_wire.proofs.answering.answer_within.Goals as goal

pub returns-in-Err-clause-answers : goal.returns-in-Err-clause-answers
returns-in-Err-clause-answers g c =
    let d = c.args.datagram.now in
    dropped_does g.B.Book c.args.oldest c.args.clients.now c.args.plans.now d.source d.bytes.now d.moment
    c.args.out.now c.args.book.now c.in-Err.reason c.in-Err.ensures.dropped

pub returns-in-Ok-record-clause-answers : goal.returns-in-Ok-record-clause-answers
returns-in-Ok-record-clause-answers g c =
    let d = c.args.datagram.now in
    let r = c.in-Ok.request in
    reply_does g.B.Book c.args.oldest c.args.clients.now c.args.plans.now d.source d.bytes.now d.moment
    c.args.book.now c.record.new.book r.client.now r.packet.id r.packet.authenticator
    r.packet.attributes r.entry c.in-Ok.ensures.asks c.in-Ok.ensures.recent c.write_response.result c.args.out.now
    c.write_response.new.out c.record.result c.in-Ok-record.field-0 c.as_slice-secret.result.now
    c.as_slice-secret.ensures c.in-Ok-record.is
    c.write_response.ensures.written c.write_response.ensures.size c.record.ensures

pub returns-in-Ok-record-clause-written : goal.returns-in-Ok-record-clause-written
returns-in-Ok-record-clause-written g c =
    let r = c.in-Ok.request in
    written_past r.packet.id c.write_response.result r.packet.authenticator
    c.as_slice-secret.result.now
    c.args.out.now c.write_response.new.out r.packet.attributes c.write_response.ensures.written
    c.write_response.ensures.size c.write_response.ensures.most

pub returns-in-Err-BalanceLimit-clause-answers : goal.returns-in-Err-BalanceLimit-clause-answers
returns-in-Err-BalanceLimit-clause-answers g c =
    let d = c.args.datagram.now in
    let r = c.in-Ok.request in
    limit_does g.B.Book c.args.oldest c.args.clients.now c.args.plans.now d.source d.bytes.now d.moment
    c.args.book.now c.record.new.book r.client.now r.packet.id r.packet.authenticator
    r.packet.attributes r.entry c.in-Ok.ensures.asks c.in-Ok.ensures.recent c.args.out.now c.record.result
    c.in-Err-BalanceLimit.field-0-0
    (c.in-Err-BalanceLimit.is ∙ ap Err c.in-Err-BalanceLimit.field-0-is) c.record.ensures

pub returns-in-Err-VoucherDiffers-clause-answers : goal.returns-in-Err-VoucherDiffers-clause-answers
returns-in-Err-VoucherDiffers-clause-answers g c =
    let d = c.args.datagram.now in
    let r = c.in-Ok.request in
    absurd (differs_never g.B.Book c.args.oldest c.args.clients.now c.args.plans.now d.source d.bytes.now d.moment
    c.args.book.now c.record.new.book r.client.now r.packet.id r.packet.authenticator
    r.packet.attributes r.entry c.in-Ok.ensures.asks c.in-Ok.ensures.recent c.record.result
    c.in-Err-VoucherDiffers.field-0-0
    (c.in-Err-VoucherDiffers.is ∙ ap Err c.in-Err-VoucherDiffers.field-0-is) c.record.ensures)

pub returns-clause-answers : goal.returns-clause-answers
returns-clause-answers g c =
    let d = c.args.datagram.now in
    let r = c.in-Ok.request in
    refused_does g.B.Book c.args.oldest c.args.clients.now c.args.plans.now d.source d.bytes.now d.moment
    c.args.book.now c.record.new.book r.client.now r.packet.id r.packet.authenticator
    r.packet.attributes r.entry c.in-Ok.ensures.asks c.in-Ok.ensures.recent c.args.out.now c.record.result
    (c.in-Err-Unavailable.is ∙ ap Err c.in-Err-Unavailable.field-0-is) c.record.ensures
