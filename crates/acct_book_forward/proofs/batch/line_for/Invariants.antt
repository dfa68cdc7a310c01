use Rattle.std.proofs.Common.{◌<◌}
use Rattle.acct_book.specs.Step.{OnlyLooks}
use Rattle.acct_book_forward.proofs.batch.line_for.Given as goal

-- the calls so far only read, and after the first the book is open if it is sound
abbrev pub invariant-loop-number : goal.invariant-loop-number
invariant-loop-number g l = record {
  looks : OnlyLooks g.B.Book l.fn.book l.book;
  answers : 1 < l.number → g.B.Book.is_sound l.book → g.B.Book.is_open l.book;
}
