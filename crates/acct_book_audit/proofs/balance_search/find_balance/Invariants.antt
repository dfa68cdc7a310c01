use Rattle.acct_book.specs.Step.{OnlyLooks}
use Rattle.acct_book.specs.Maps.{octets_cmp}
use Rattle.acct_book.specs.Walk.{IsPast}
use Rattle.acct_book_audit.specs.inner.Walk.{octets_in}
use Rattle.acct_book_audit.proofs.balance_search.find_balance.Given as goal

abbrev pub invariant-loop : goal.invariant-loop
invariant-loop g l = record {
  quiet : OnlyLooks g.B.Book l.fn.book l.book;
  past : IsPast octets_cmp (octets_in l.after) l.account;
}
