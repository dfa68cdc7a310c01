use Rattle.std.proofs.Common.{◌≡◌, ◌≤◌, List, None, length}
use Rattle.std.specs.Prelude.{flat_map}
use Rattle.std.specs.Io.KnownBytes.{Appends}
use Rattle.acct_book.specs.Step.{OnlyLooks}
use Rattle.acct_book_audit.specs.Audit.{Counts}
use Rattle.acct_book.proofs.Walking.{Walked}
use Rattle.acct_book_audit.proofs.members.audit_members.Given as goal

abbrev pub invariant-loop-turn : goal.invariant-loop-turn
invariant-loop-turn g l = record {
  quiet : OnlyLooks g.B.Book l.fn.book l.book;
  all : l.seen.all ≡ l.turn;
  bound : l.seen.wrong ≤ l.turn;
  walk : (members : List _)
      × (g.B.Book.is_open l.book
      → Walked (g.M.Members.is_next l.fn.plans (g.B.Book.content l.fn.book)) g.M.Members.key_of
      None members l.after)
      × Counts l.seen (length members) (length (flat_map g.M.Members.found_of members))
      × Appends (g.A.Auditor.told l.fn.auditor) (g.A.Auditor.told l.auditor)
      (flat_map g.A.Auditor.words (flat_map g.M.Members.found_of members));
}
