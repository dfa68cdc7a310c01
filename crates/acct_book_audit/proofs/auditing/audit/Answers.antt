use Rattle.std.proofs.Common.{◌∙◌}
use Rattle.acct_book_audit.specs.declared.auditor.Audit.{Audit}
use Rattle.acct_book_audit.proofs.MetAll.{all_found, audited, audit_told}
use Rattle.acct_book_audit.proofs.Whole.{clean_exactly}
use Rattle.acct_book_audit.proofs.auditing.audit.Goals as goal

pub returns-clause-audited : goal.returns-clause-audited
returns-clause-audited g c = λ opens.
    let content = g.B.Book.content in
    let plans = c.args.plans.now in
    let opened = c.in_ok-vouchers.ensures.reads.was_open opens in
    let before = c.in_ok-sessions.ensures.reads.was_open opened in
    let same = c.in_ok-accounts.ensures.reads.same before in
    let also = c.in_ok-sessions.ensures.reads.same opened in
    let (accounts, met_accounts, count_accounts, told_accounts) = c.in_ok-accounts.ensures.seen in
    let (sessions, met_sessions, count_sessions, told_sessions) = c.in_ok-sessions.ensures.seen in
    let (vouchers, met_vouchers, count_vouchers, told_vouchers) = c.in_ok-vouchers.ensures.seen in
    let audit : Audit = record {
      accounts = c.in_ok-accounts.accounts;
      sessions = c.in_ok-sessions.sessions;
      vouchers = c.in_ok-vouchers.vouchers;
    } in (
      all_found plans (content c.args.book.now) audit accounts sessions vouchers,
      audited plans (content c.args.book.now) (content c.audit_members.new.book)
          (content c.audit_members-2.new.book) audit accounts sessions vouchers same (also ∙ same)
          (met_accounts before) (met_sessions opened) (met_vouchers opens) count_accounts
          count_sessions count_vouchers,
      audit_told plans (content c.args.book.now) audit accounts sessions vouchers
          g.A.Auditor.words _ _ _ _ told_accounts told_sessions told_vouchers,
    )

pub returns-clause-clean : goal.returns-clause-clean
returns-clause-clean g c = λ opens.
    let content = g.B.Book.content in
    let plans = c.args.plans.now in
    let opened = c.in_ok-vouchers.ensures.reads.was_open opens in
    let before = c.in_ok-sessions.ensures.reads.was_open opened in
    let first = c.in_ok-accounts.ensures.reads.was_open before in
    let same = c.in_ok-accounts.ensures.reads.same before in
    let also = c.in_ok-sessions.ensures.reads.same opened in
    let (accounts, met_accounts, count_accounts, told_accounts) = c.in_ok-accounts.ensures.seen in
    let (sessions, met_sessions, count_sessions, told_sessions) = c.in_ok-sessions.ensures.seen in
    let (vouchers, met_vouchers, count_vouchers, told_vouchers) = c.in_ok-vouchers.ensures.seen in
    let audit : Audit = record {
      accounts = c.in_ok-accounts.accounts;
      sessions = c.in_ok-sessions.sessions;
      vouchers = c.in_ok-vouchers.vouchers;
    } in
    clean_exactly plans (content c.args.book.now) (g.met.B.Book.own_keys c.args.book.now first) audit
    (all_found plans (content c.args.book.now) audit accounts sessions vouchers)
    (audited plans (content c.args.book.now) (content c.audit_members.new.book)
    (content c.audit_members-2.new.book) audit accounts sessions vouchers same (also ∙ same)
    (met_accounts before) (met_sessions opened) (met_vouchers opens) count_accounts
    count_sessions count_vouchers)
