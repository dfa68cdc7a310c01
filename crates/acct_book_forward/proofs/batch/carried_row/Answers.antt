use Rattle.std.proofs.Common.{◌≡◌, rules, refl}
use Rattle.acct_book_forward.specs.inner.Forwarding.{IsForward}
use Rattle.acct_book_forward.proofs.Carrying.{carried_report}
use Rattle.acct_book_forward.proofs.batch.carried_row.Goals as goal

pub returns-in_ok-row-in-Some-clause-carried : goal.returns-in_ok-row-in-Some-clause-carried
returns-in_ok-row-in-Some-clause-carried g c = λ now.
    let old = g.B.Book.content c.args.book.now in
    let plan = c.plan_of-plan.result.now in
    let own : plan.class ≡ c.args.batch.now.class.now = search rules in
    let forward : IsForward plan c.args.batch.now.account.now c.args.batch.now.rows.now c.in_ok-found.found
    c.args.into.now c.in-Some.report = search rules in
    carried_report c.args.batch.now.plans.now old old plan c.args.batch.now.account.now c.args.batch.now.class.now
    c.args.batch.now.rows.now c.in_ok-found.found c.args.into.now c.in-Some.report c.in_ok-row-in-Some.row
    refl (c.in_ok-found.ensures.found now) c.requires.some
    (c.requires.stand (c.in_ok-found.ensures.reads.was_open now))
    (c.requires.alike (c.in_ok-found.ensures.reads.was_open now))
    c.requires.line c.requires.apart c.plan_of-plan.ensures.found own c.plan_of-plan.ensures.block
    forward c.in_ok-row-in-Some.ensures.row
