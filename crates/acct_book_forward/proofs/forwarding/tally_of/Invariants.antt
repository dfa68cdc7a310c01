use Rattle.std.specs.Prelude.{◌≡◌}
use Rattle.std.specs.Prelude.{take}
use Rattle.acct_book.specs.Step.{OnlyLooks}
use Rattle.acct_book.specs.Walk.{AreKeysOf}
use Rattle.acct_book_forward.proofs.Counted.{AreCounted}
use Rattle.acct_book_forward.proofs.forwarding.tally_of.Given as goal

-- the calls so far only read, and the rows under the keys so far are counted
abbrev pub invariant-loop-key : goal.invariant-loop-key
invariant-loop-key g l = record {
  looks : OnlyLooks g.B.Book l.fn.book l.book;
  carried : l.tally.carried ≡ l.carried;
  answers : g.B.Book.is_sound l.book → g.B.Book.is_open l.book;
  are : g.B.Book.is_open l.book
      → AreKeysOf (g.B.Book.content l.fn.book) l.account l.key-items;
  counted : g.B.Book.is_open l.book → AreCounted (g.B.Book.content l.fn.book) l.selection
      (take l.key-index l.key-items) l.tally;
}
