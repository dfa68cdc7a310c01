use Rattle.std.proofs.Common.{ap, sym, ◌∙◌}
use Rattle.std.specs.Option.{option_copied}
use Rattle.acct_wire.proofs.AnswerParts.{aged}
use Rattle.acct_wire.proofs.answering.requested.Goals as goal

pub returns-then-is_too_old-clause-dropped : goal.returns-then-is_too_old-clause-dropped
returns-then-is_too_old-clause-dropped c =
    let d = c.args.datagram.now in
    let p = c.in-Ok.packet in
    aged c.args.oldest c.args.clients.now d.source d.bytes.now d.moment c.in-Some.client.now
    c.as_slice.result.now p.id p.authenticator p.attributes
    c.in-Ok-asked_of.entry
    (sym c.at.ensures ∙ ap option_copied c.in-Some.is) c.as_slice.ensures
    c.in-Ok.ensures.request c.in-Ok-asked_of.ensures.asked
    (c.is_too_old.ensures.0 c.if-is_too_old.true)
