use Rattle.acct_model.proofs.Walked.{walked}
use Rattle.acct_model.proofs.stamp.are_same.Goals as goal

pub returns : goal.returns
returns c =
    walked c.loop-i.same c.args.one.now c.args.other.now c.loop-i.i c.if-one-other.false
    c.loop-i-test.false c.loop-i.invariant
