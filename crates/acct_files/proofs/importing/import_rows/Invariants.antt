use Rattle.std.proofs.Common.{◌≤◌, ◌+◌, None}
use Rattle.csv.specs.Reading.{source_of}
use Rattle.acct_model.specs.History.{History}
use Rattle.acct_book.specs.Step.{StoodFor}
use Rattle.acct_files.specs.Importing.{KeepsOpen}
use Rattle.acct_files.specs.inner.Reading.{IsAtRecord}
use Rattle.acct_files.proofs.Halfway.{Halfway}
use Rattle.acct_files.proofs.importing.import_rows.Given as goal

abbrev pub invariant-loop-number : goal.invariant-loop-number
invariant-loop-number g l = record {
  rows : IsAtRecord l.rows;
  added : l.report.added + 2 ≤ l.number;
  repeated : l.report.repeated + 2 ≤ l.number;
  number : l.number ≤ 1000002;
  keeps : KeepsOpen g.B.Book None
      l.report.added l.fn.book l.book;
  halfway : g.B.Book.is_sound l.book → (history : History)
      → StoodFor g.B.Book l.plans l.fn.book history
      → Halfway g.B.Book g.R.Read.remaining l.plans l.moment
      (source_of g.R.Read.remaining l.fn.rows) history l.rows l.number l.report l.fn.book l.book;
}
