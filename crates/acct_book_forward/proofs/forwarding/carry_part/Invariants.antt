use Rattle.std.specs.Prelude.{ℕ, Err}
use Rattle.acct_book.specs.declared.book.Unavailable.{Unavailable}
use Rattle.acct_book_forward.specs.Carrying.{CarriesOn, CountsUpTo}
use Rattle.acct_book_forward.proofs.forwarding.carry_part.Given as goal

-- batches were carried
abbrev pub invariant-loop : goal.invariant-loop
invariant-loop g l = record {
  carries : (error : Unavailable) → CarriesOn {T = ℕ} g.B.Book l.task.selection.now
      l.task.plans.now l.fn.book l.book (Err error);
  counts : CountsUpTo g.B.Book l.task.selection.now l.task.plans.now l.fn.book l.book l.carried;
  answers : g.B.Book.is_sound l.book → g.B.Book.is_open l.book;
}
