use Rattle.std.proofs.Common.{refl, None}
use Rattle.acct_book.specs.Row.{RowFacts}
use Rattle.acct_book.specs.Content.{key_of}
use Rattle.acct_book.specs.Maps.{key_cmp}
use Rattle.acct_book.specs.Walk.{IsNextRow}
use Rattle.acct_book.proofs.WalkLaws.{walks-meet-all}
use Rattle.acct_files.specs.Exporting.{line, session_header, session_fields}
use Rattle.acct_files.proofs.Walking.{exported}
use Rattle.acct_files.proofs.session_lines.export_sessions.Goals as goal

pub returns-clause-text : goal.returns-clause-text
returns-clause-text g c =
    let content = g.B.Book.content c.args.book.now in
    exported key_cmp content.rows (IsNextRow content) key_of (λ after. after) key_of
    (λ (row : RowFacts). row) (λ _ _ found. found) (λ _ end. end) (λ _. refl)
    (λ done. g.W.Write.contents done.0) (λ done. done.1) (g.B.Book.is_open c.write_members.new.book)
    (g.W.Write.contents c.args.writer) session_header
    (λ e. line (session_fields c.args.plans.now e.1)) ((walks-meet-all content).rows None) refl
    c.write_members.result c.write_members.ensures.text
