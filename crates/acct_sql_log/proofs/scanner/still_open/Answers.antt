use Rattle.std.proofs.Common.{◌∙◌, ap, sym}
use Rattle.sqlite_wal.specs.Format.{commit_size}
use Rattle.acct_sql_log.proofs.Counting.{is_still_open}
use Rattle.acct_sql_log.proofs.scanner.still_open.Goals as goal

pub returns-then-number_at-eq0 : goal.returns-then-number_at-eq0
returns-then-number_at-eq0 c log frames before under synced is =
    is_still_open log frames before _ under synced
    (ap commit_size (sym is) ∙ (sym c.number_at.ensures ∙ c.if-number_at-eq0.true))
