use Rattle.std.specs.Prelude.{Err}
use Rattle.acct_book_forward.specs.Carrying.{CarriesOn, CountsUpTo}
use Rattle.acct_book.specs.declared.book.Unavailable.{Unavailable}
use Rattle.acct_program_commands.specs.declared.forward_command.Totals.{Totals}
use Rattle.acct_program_commands.proofs.forward_command.carry_all.Given as goal

-- sessions were carried, and so many
abbrev pub invariant-loop : goal.invariant-loop
invariant-loop g l = record {
  carries : (error : Unavailable)
      → CarriesOn {T = Totals} g.B.Book l.selection l.plans l.fn.book l.book (Err error);
  counts : CountsUpTo g.B.Book l.selection l.plans l.fn.book l.book l.totals.sessions.carried;
}
