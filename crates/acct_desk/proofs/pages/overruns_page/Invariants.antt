use Rattle.std.proofs.Common.{◌≡◌, ℕ, ℤ, List, map}
use Rattle.std.specs.Prelude.{None, option_map}
use Rattle.std.specs.List.{filter_map}
use Rattle.serde_json.specs.View.{view}
use Rattle.acct_desk_pages.specs.Bodies.{overrun_in}
use Rattle.acct_book.specs.Step.{OnlyLooks}
use Rattle.acct_book.specs.Maps.{octets_cmp}
use Rattle.acct_book.specs.Walk.{IsNext}
use Rattle.acct_book.proofs.Walking.{Walked}
use Rattle.acct_desk.proofs.pages.overruns_page.Given as goal

abbrev pub invariant-loop : goal.invariant-loop
invariant-loop g l = record {
  reads : OnlyLooks g.B.Book l.fn.book l.book;
  walked : (accounts : List (List ℕ × ℤ))
      × (g.B.Book.is_open l.book
      → Walked (IsNext octets_cmp (g.B.Book.content l.fn.book).balances) (λ e. e.0) None accounts
      (option_map (λ account. account.items) l.last))
      × (map view l.over.items ≡ filter_map overrun_in accounts);
}
