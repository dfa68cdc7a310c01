use Rattle.std.proofs.Common.{◌≡◌, List, None}
use Rattle.std.specs.Prelude.{flat_map, length}
use Rattle.std.specs.Io.KnownBytes.{Appends}
use Rattle.csv.specs.Writing.{text_written}
use Rattle.acct_book.specs.Step.{OnlyLooks}
use Rattle.acct_book.proofs.Walking.{Walked}
use Rattle.acct_files.specs.Exporting.{IsBetweenLines}
use Rattle.acct_files.proofs.walk.write_each.Given as goal

abbrev pub invariant-loop-count : goal.invariant-loop-count
invariant-loop-count g l = record {
  between : IsBetweenLines l.lines;
  quiet : OnlyLooks g.B.Book l.fn.book l.book;
  walk : (members : List _)
      × Appends (text_written g.W.Write.contents l.fn.lines)
      (text_written g.W.Write.contents l.lines)
      (flat_map (g.X.Export.text_of l.export) members)
      × (length members ≡ l.count)
      × (g.B.Book.is_open l.book
      → Walked (g.X.Export.is_next (g.B.Book.content l.fn.book)) g.X.Export.key_of None members
      l.after);
}
