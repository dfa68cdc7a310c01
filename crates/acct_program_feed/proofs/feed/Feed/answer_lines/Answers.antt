use Rattle.std.proofs.Common.{refl, ◌∙◌}
use Rattle.acct_program_feed.proofs.Runs.{ran_none, ran_more}
use Rattle.acct_program_feed.proofs.feed.Feed.answer_lines.Goals as goal

pub loop-line-init : goal.loop-line-init
loop-line-init g c =
    let start = c.into_iter-line-iterator.ensures.into_iter_gives ∙ c.new-line-items.ensures in (
      refl,
      rw start (ran_none g.B.Book c.args.self.now.server.config.clients
          c.args.self.now.server.config.plans c.args.self.now.server.book c.args.input.now _),
    )

pub loop-line-preserved-then-are_good : goal.loop-line-preserved-then-are_good
loop-line-preserved-then-are_good g c =
    let same = c.loop-line.invariant.0 in
    let goes = c.in-Some.ensures.steps in
    let more = ran_more g.B.Book c.args.self.now.server.config.clients
    c.args.self.now.server.config.plans _ _ _ _
    _ _ _ _ _ _ _ _ c.loop-line.invariant.1 goes.0 goes.1
    (rw same at c.in_ok-is_good.ensures.printed) in
    (c.in_ok-is_good.ensures.same_config ∙ same, rw c.if-are_good.true at more)

pub loop-line-preserved : goal.loop-line-preserved
loop-line-preserved g c =
    let same = c.loop-line.invariant.0 in
    let goes = c.in-Some.ensures.steps in
    let more = ran_more g.B.Book c.args.self.now.server.config.clients
    c.args.self.now.server.config.plans _ _ _ _
    _ _ _ _ _ _ _ _ c.loop-line.invariant.1 goes.0 goes.1
    (rw same at c.in_ok-is_good.ensures.printed) in (
      c.in_ok-is_good.ensures.same_config ∙ same,
      rw c.if-are_good.false (rw c.if-are_good.false at more),
    )

pub returns : goal.returns
returns g c = record { ran = rw c.in-None.ensures.steps.0 at c.loop-line.invariant.1 }
