use Rattle.std.proofs.Common.{◌≡◌, ap, ◌∙◌, subst, rules, SFits, Some}
use Rattle.std.specs.Int.{w64}
use Rattle.std.specs.declared.cmp.Ordering.TheVariants.{Equal, Greater}
use Rattle.std.proofs.lemmas.Int.{to_z-of_z}
use Rattle.acct_book.specs.Maps.{octets_cmp}
use Rattle.acct_book.specs.Walk.{IsNextBalance}
use Rattle.acct_book_audit.specs.inner.Walk.{octets_in}
use Rattle.acct_book_audit.proofs.Found.{follows, passes_by}
use Rattle.acct_book_audit.proofs.balance_search.find_balance.Goals as goal

pub returns-in-Equal-clause-found : goal.returns-in-Equal-clause-found
returns-in-Equal-clause-found g c = λ opens.
    let step = c.in_ok-next.ensures in
    let inv = c.loop.invariant in
    let after = octets_in c.loop.after in
    let account = c.args.account.now in
    let next = subst (λ content. IsNextBalance content after
    (Some (c.in-Some.next.items, c.in-Some.balance))) (inv.quiet.same (step.reads.was_open opens))
    (rw c.in-Some.is at (step.found opens)) in
    let items = c.as_slice.ensures.value in
    let compared = c.in-Equal.ensures in
    let same : octets_cmp c.in-Some.next.items account ≡ Equal = cc in
    let fits : SFits w64 c.in-Some.balance = search rules in
    ap Some (to_z-of_z w64 c.in-Some.balance fits)
    ∙ follows (g.B.Book.content c.args.book.now) account after inv.past c.in-Some.next.items
    c.in-Some.balance next same

pub returns-in-Greater-clause-found : goal.returns-in-Greater-clause-found
returns-in-Greater-clause-found g c = λ opens.
    let step = c.in_ok-next.ensures in
    let inv = c.loop.invariant in
    let after = octets_in c.loop.after in
    let account = c.args.account.now in
    let next = subst (λ content. IsNextBalance content after
    (Some (c.in-Some.next.items, c.in-Some.balance))) (inv.quiet.same (step.reads.was_open opens))
    (rw c.in-Some.is at (step.found opens)) in
    let items = c.as_slice.ensures.value in
    let compared = c.in-Greater.ensures in
    let behind : octets_cmp c.in-Some.next.items account ≡ Greater = cc in
    passes_by (g.B.Book.content c.args.book.now) account after inv.past c.in-Some.next.items
    c.in-Some.balance next behind
