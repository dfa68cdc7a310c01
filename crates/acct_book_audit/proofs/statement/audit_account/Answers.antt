use Rattle.std.proofs.Common.{subst}
use Rattle.acct_book.specs.Walk.{AreTopUpsOf}
use Rattle.acct_book_audit.specs.Balancing.{States}
use Rattle.acct_book_audit.proofs.Right.{right_balanced}
use Rattle.acct_book_audit.proofs.statement.audit_account.Goals as goal

pub returns-clause-right : goal.returns-clause-right
returns-clause-right g c = λ opens kept.
    let content = g.B.Book.content c.args.book.now in
    let plans = c.args.plans.now in
    let account = c.args.account.now in
    let rows = c.in_ok-rows.rows.items in
    let topups = c.in_ok-topups.topups.items in
    let opened = c.in_ok-topups.ensures.reads.was_open opens in
    right_balanced plans content account c.args.balance c.state.result (record {
      rows = rows;
      topups = topups;
      are_rows = c.in_ok-rows.ensures.found opened;
      are_topups = subst (λ t. AreTopUpsOf t account topups) (c.in_ok-rows.ensures.reads.same opened)
          (c.in_ok-topups.ensures.found opens);
      states = subst (λ rs. States plans rs topups c.state.result) c.deref.ensures.value
          (subst (λ ts. States plans c.deref.result.now ts c.state.result) c.deref-2.ensures.value
          c.state.ensures.states);
      balance = c.state.ensures.balance;
    }) kept
