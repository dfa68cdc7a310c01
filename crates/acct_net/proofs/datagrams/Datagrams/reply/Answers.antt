use Rattle.std.proofs.Common.{◌∙◌, Err, Ok, Some, ap, rules, subst}
use Rattle.acct_net.specs.inner.Sent.{WasSent}
use Rattle.acct_net.specs.declared.datagrams.RadiusSocket.{RadiusSocket}
use Rattle.acct_net.proofs.PlaceLemmas.{put}
use Rattle.acct_net.proofs.datagrams.Datagrams.reply.Goals as goal

pub returns-in-Ok-clause-sent : goal.returns-in-Ok-clause-sent
returns-in-Ok-clause-sent c = (
  c.send.new.self,
  put c.args.self.now.sockets.items c.args.self.now.last c.send.new.self (search rules),
  ap (λ (socket : RadiusSocket). socket.sent) c.in-Ok.ensures.kept
      ∙ ap (λ size. Some (Ok size, c.args.to)) c.if-count-bytes.true,
  subst (λ size. WasSent c.args.bytes.now c.args.to (Ok size)) c.if-count-bytes.true
      c.in-Ok.ensures.sent,
)

pub returns-in_default-clause-failed : goal.returns-in_default-clause-failed
returns-in_default-clause-failed c = λ _. (
  c.send.new.self,
  put c.args.self.now.sockets.items c.args.self.now.last c.send.new.self (search rules),
  (
    Ok c.in-Ok.count,
    ap (λ (socket : RadiusSocket). socket.sent) c.in-Ok.ensures.kept,
    λ same. c.if-count-bytes.false (cc same),
    c.in-Ok.ensures.sent,
  ),
)

pub returns-in_default-2-clause-failed : goal.returns-in_default-2-clause-failed
returns-in_default-2-clause-failed c = λ _. (
  c.send.new.self,
  put c.args.self.now.sockets.items c.args.self.now.last c.send.new.self (search rules),
  (
    Err c.in_default.field-0,
    ap (λ (socket : RadiusSocket). socket.sent) c.in_default.ensures.kept,
    λ same. cc same,
    c.in_default.ensures.sent,
  ),
)
