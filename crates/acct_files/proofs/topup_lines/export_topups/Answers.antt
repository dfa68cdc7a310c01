use Rattle.std.proofs.Common.{refl, None}
use Rattle.acct_model.specs.Vouchers.{TopUpFacts}
use Rattle.acct_book.specs.Maps.{octets_cmp}
use Rattle.acct_book.specs.Walk.{IsNextTopUp}
use Rattle.acct_book.proofs.WalkLaws.{walks-meet-all}
use Rattle.acct_files.specs.Exporting.{line, topup_header, topup_fields}
use Rattle.acct_files.proofs.Walking.{exported}
use Rattle.acct_files.proofs.topup_lines.export_topups.Goals as goal

pub returns-clause-text : goal.returns-clause-text
returns-clause-text g c =
    let content = g.B.Book.content c.args.book.now in
    let number = λ (topup : TopUpFacts). topup.voucher in
    exported octets_cmp content.topups (IsNextTopUp content) number (λ after. after) number
    (λ (topup : TopUpFacts). topup) (λ _ _ found. found) (λ _ end. end) (λ _. refl)
    (λ done. g.W.Write.contents done.0) (λ done. done.1) (g.B.Book.is_open c.write_members.new.book)
    (g.W.Write.contents c.args.writer) topup_header (λ e. line (topup_fields e.1))
    ((walks-meet-all content).topups None) refl c.write_members.result
    c.write_members.ensures.text
