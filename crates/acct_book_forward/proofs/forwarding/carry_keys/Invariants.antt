use Rattle.std.specs.Prelude.{ℕ, Err, length}
use Rattle.std.specs.List.Sorted.{IsStrictlySortedBy}
use Rattle.acct_book.specs.Maps.{key_cmp}
use Rattle.acct_book.specs.declared.book.Unavailable.{Unavailable}
use Rattle.acct_book_forward.specs.Carrying.{CarriesOn, CountsUpTo}
use Rattle.acct_book_forward.proofs.forwarding.carry_keys.Given as goal

-- the rows under the keys so far were carried
abbrev pub invariant-loop-rest : goal.invariant-loop-rest
invariant-loop-rest g l = record {
  carries : (error : Unavailable) → CarriesOn {T = ℕ} g.B.Book l.task.selection.now
      l.task.plans.now l.fn.book l.book (Err error);
  counts : CountsUpTo g.B.Book l.task.selection.now l.task.plans.now l.fn.book l.book l.carried;
  answers : g.B.Book.is_sound l.book → g.B.Book.is_open l.book;
  in_order : g.B.Book.is_open l.fn.book → IsStrictlySortedBy key_cmp l.rest;
}

abbrev pub decreases-loop-rest : goal.decreases-loop-rest
decreases-loop-rest g l = length l.rest
