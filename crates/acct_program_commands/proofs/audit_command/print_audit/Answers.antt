use Rattle.std.proofs.Common.{rules, sym, ◌∙◌, true≢false}
use Rattle.std.specs.Prelude.{IsTrue}
use Rattle.acct_program_commands.proofs.Audited.{appends_kept, audits_clean, audits_wrong}
use Rattle.acct_program_commands.proofs.audit_command.print_audit.Goals as goal

pub returns-then-not-is_clean-clause-audits : goal.returns-then-not-is_clean-clause-audits
returns-then-not-is_clean-clause-audits g c =
    audits_wrong g.B.Book c.args.config.now c.args.book.now c.audited.new.book _ _ _
    c.in_ok-audit.audit c.in_ok-audit.ensures.looks c.in_ok-audit.ensures.clean
    c.in_ok-write_sizes.ensures.sizes c.in_ok-audit.ensures.told _ c.in_ok-flush.ensures.bytes
    (λ clean. true≢false (sym (c.is_clean.ensures.1 clean) ∙ c.if-not-is_clean.true))

pub returns-clause-audits : goal.returns-clause-audits
returns-clause-audits g c =
    let clean : IsTrue c.is_clean.result = search rules in
    audits_clean g.B.Book c.args.config.now c.args.book.now c.audited.new.book _ _ _
    c.in_ok-audit.audit c.in_ok-audit.ensures.looks c.in_ok-audit.ensures.clean
    c.in_ok-write_sizes.ensures.sizes c.in_ok-audit.ensures.told _ c.in_ok-flush.ensures.bytes _
    (c.is_clean.ensures.0 clean)
    (appends_kept _ _ _ _ c.in_ok-write_balanced.ensures c.in_ok-flush-2.ensures.bytes)
