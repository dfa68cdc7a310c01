use Rattle.std.specs.Prelude.{IsTrue}
use Rattle.acct_book.specs.Step.{OnlyLooks}
use Rattle.acct_program_commands.specs.Forwarding.{IsHeardIn}
use Rattle.acct_program_commands.proofs.Surveyed.{IsSurveyed}
use Rattle.acct_program_commands.proofs.forward_command.survey.Given as goal

-- The calls so far only read, and a session was heard of lately if one is said to be. The accounts
-- so far are counted, and what is to be printed of them was.
abbrev pub invariant-loop : goal.invariant-loop
invariant-loop g l = record {
  looks : OnlyLooks g.B.Book l.fn.book l.book;
  heard : g.B.Book.is_open l.book → IsTrue l.totals.is_heard
      → IsHeardIn l.fn.task.selection.now (g.B.Book.content l.fn.book) l.fn.task.clock.moment;
  surveyed : g.B.Book.is_open l.book → IsSurveyed (g.B.Book.content l.fn.book)
      l.fn.task.selection.now l.fn.task.lists_open l.after l.totals
      (g.W.Write.contents l.fn.output) (g.W.Write.contents l.output);
}
