use Rattle.std.specs.Prelude.{IsTrue, ◌⊎◌, take}
use Rattle.std.specs.Io.KnownBytes.{Appends}
use Rattle.acct_book.specs.Step.{OnlyLooks}
use Rattle.acct_book.specs.Walk.{AreKeysOf}
use Rattle.acct_book_forward.proofs.Counted.{AreCounted}
use Rattle.acct_program_commands.specs.Forwarding.{IsHeardIn}
use Rattle.acct_program_commands.proofs.Surveyed.{texts_at}
use Rattle.acct_program_commands.proofs.forward_command.survey_account.Given as goal

-- The calls so far only read, and a session was heard of lately if one is said to be. The rows under
-- the keys so far are counted, and what is to be printed of them was.
abbrev pub invariant-loop-key : goal.invariant-loop-key
invariant-loop-key g l = record {
  looks : OnlyLooks g.B.Book l.fn.book l.book;
  answers : g.B.Book.is_sound l.book → g.B.Book.is_open l.book;
  heard : g.B.Book.is_open l.book → IsTrue l.seen.is_heard
      → IsTrue l.fn.is_heard
      ⊎ IsHeardIn l.fn.task.selection.now (g.B.Book.content l.fn.book) l.fn.task.clock.moment;
  are : g.B.Book.is_open l.book
      → AreKeysOf (g.B.Book.content l.fn.book) l.account l.key-items;
  counted : g.B.Book.is_open l.book → AreCounted (g.B.Book.content l.fn.book)
      l.fn.task.selection.now (take l.key-index l.key-items) l.seen.tally;
  told : g.B.Book.is_open l.book → Appends (g.W.Write.contents l.fn.output)
      (g.W.Write.contents l.output) (texts_at l.fn.task.lists_open l.fn.task.selection.now
      (g.B.Book.content l.fn.book) (take l.key-index l.key-items));
}
