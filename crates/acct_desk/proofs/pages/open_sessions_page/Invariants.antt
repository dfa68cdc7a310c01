use Rattle.std.proofs.Common.{◌≡◌, ◌<◌, List, length, map}
use Rattle.std.specs.Prelude.{option_map}
use Rattle.std.specs.List.{filter_map}
use Rattle.serde_json.specs.View.{view}
use Rattle.acct_book.specs.Step.{OnlyLooks}
use Rattle.acct_book.specs.Walk.{AreRowsOf}
use Rattle.acct_desk_pages.specs.Overdrawn.{open_in}
use Rattle.acct_desk.specs.Overdrawn.{Looked, rows_looked}
use Rattle.acct_desk.proofs.Parts.{Begun}
use Rattle.acct_desk.proofs.pages.open_sessions_page.Given as goal

abbrev pub invariant-loop : goal.invariant-loop
invariant-loop g l = record {
  reads : OnlyLooks g.B.Book l.fn.book l.book;
  part : (accounts : List Looked)
      × (g.B.Book.is_open l.book
      → Begun (g.B.Book.content l.fn.book).balances (AreRowsOf (g.B.Book.content l.fn.book))
      (option_map (λ account. account.items) l.fn.after) accounts
      (option_map (λ account. account.items) l.last))
      × (map view l.found.items ≡ filter_map open_in (rows_looked accounts));
  counted : (length part.0 ≡ l.counter) × (length (rows_looked part.0) ≡ l.rows);
  low : l.rows < 1000;
  opened : 0 < l.counter → g.B.Book.is_sound l.book → g.B.Book.is_open l.book;
}
