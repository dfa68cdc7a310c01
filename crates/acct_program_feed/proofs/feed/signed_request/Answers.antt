use Rattle.std.proofs.Common.{arith}
use Rattle.acct_program_feed.proofs.Signing.{fits, front}
use Rattle.acct_program_feed.proofs.feed.signed_request.Goals as goal

pub returns-in-Ok : goal.returns-in-Ok
returns-in-Ok c = (
  omega (arith, c.in-Ok.ensures.size, c.in-Ok.ensures.most),
  front c.args.identifier _ c.in-Ok.size c.args.octets.now _ _ _ (omega arith)
      (rw c.as_slice.ensures at c.in-Ok.ensures.written) c.in-Ok.ensures.size,
)

pub shared_ref_as_front-result : goal.shared_ref_as_front-result
shared_ref_as_front-result c =
    fits c.args.identifier c.in-Ok.size c.args.octets.now _ _ _
    (rw c.as_slice.ensures at c.in-Ok.ensures.written) c.in-Ok.ensures.size
    c.sign_request.array_long
