use Rattle.acct_desk.proofs.PageLemmas.{balance_shows, not_both}
use Rattle.acct_desk.proofs.pages.balance_page.Goals as goal

pub returns-clause-shows : goal.returns-clause-shows
returns-clause-shows g c =
    let b = g.B.Book in
    λ plans. balance_shows plans c.args.account.now b c.args.book.now c.balance-told.new.self
    c.balance-told.result c.told_balance.result c.balance-told.ensures.reads
    c.balance-told.ensures.found c.told_balance.ensures.shown c.told_balance.ensures.answers

pub returns-clause-steady : goal.returns-clause-steady
returns-clause-steady g c = λ steady is.
    not_both c.balance-told.result (c.balance-told.ensures.steady steady)
    (c.told_balance.ensures.refused is)
