use Rattle.std.specs.Prelude.{drop}
use Rattle.acct_book.specs.Step.{OnlyLooks}
use Rattle.acct_book_forward.proofs.RowsUnder.{AreFound}
use Rattle.acct_book_forward.proofs.forwarding.rows_under.Given as goal

-- the calls so far only read, and found these rows
abbrev pub invariant-loop-key : goal.invariant-loop-key
invariant-loop-key g l = record {
  looks : OnlyLooks g.B.Book l.fn.book l.book;
  answers : g.B.Book.is_sound l.book → g.B.Book.is_open l.book;
  found : g.B.Book.is_open l.book → AreFound (g.B.Book.content l.fn.book) l.task.account.now
      l.rows.items (drop l.key-index l.keys);
}
