use Rattle.std.proofs.Common.{refl, ℕ, Option, None}
use Rattle.std.specs.Prelude.{ℤ, Vec, option_map}
use Rattle.std.specs.Global.{Global}
use Rattle.acct_book.specs.Maps.{octets_cmp}
use Rattle.acct_book.specs.Walk.{IsNextBalance}
use Rattle.acct_book.proofs.WalkLaws.{walks-meet-all}
use Rattle.acct_files.specs.Exporting.{account_header, account_line}
use Rattle.acct_files.proofs.Walking.{exported}
use Rattle.acct_files.proofs.account_lines.export_accounts.Goals as goal

pub returns-clause-text : goal.returns-clause-text
returns-clause-text g c =
    let content = g.B.Book.content c.args.book.now in
    let what = c.args.what in
    let shown = λ (after : Option (Vec ℕ Global)). option_map (λ a. a.items) after in
    exported octets_cmp content.balances
    (λ after kept. IsNextBalance content (shown after)
    (option_map (λ (k : Vec ℕ Global × ℤ). (k.0.items, k.1)) kept))
    (λ k. k.0) shown (λ k. k.0.items) (λ k. k.1) (λ _ _ found. found) (λ _ end. end) (λ _. refl)
    (λ done. g.W.Write.contents done.0) (λ done. done.1) (g.B.Book.is_open c.write_members.new.book)
    (g.W.Write.contents c.args.writer) (account_header what) (λ e. account_line what e.0 e.1)
    ((walks-meet-all content).balances None) refl c.write_members.result
    c.write_members.ensures.text
