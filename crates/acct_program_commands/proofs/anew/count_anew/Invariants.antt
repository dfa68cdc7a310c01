use Rattle.std.proofs.Common.{◌≡◌, ◌≤◌, List, None}
use Rattle.std.specs.List.{count_by}
use Rattle.acct_book.specs.Content.{key_of}
use Rattle.acct_book.specs.Row.{RowFacts}
use Rattle.acct_book.specs.Step.{OnlyLooks}
use Rattle.acct_book.specs.Walk.{IsNextRow}
use Rattle.acct_book.proofs.Walking.{Walked}
use Rattle.acct_program_commands.specs.Anew.{is_anew}
use Rattle.acct_program_commands.proofs.anew.count_anew.Given as goal

abbrev pub invariant-loop-turn : goal.invariant-loop-turn
invariant-loop-turn g l = record {
  quiet : OnlyLooks g.B.Book l.fn.book l.book;
  bound : l.count ≤ l.turn;
  walk : (rows : List RowFacts)
      × (l.count ≡ count_by (is_anew l.stamping) rows)
      × (g.B.Book.is_open l.book
      → Walked (IsNextRow (g.B.Book.content l.fn.book)) key_of None rows l.after);
}
