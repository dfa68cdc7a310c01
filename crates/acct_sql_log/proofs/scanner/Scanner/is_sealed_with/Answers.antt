use Rattle.acct_sql_log.proofs.Counting.{under_way_synced}
use Rattle.acct_sql_log.proofs.scanner.Scanner.is_sealed_with.Goals as goal

pub returns-in-Some : goal.returns-in-Some
returns-in-Some c log frames taken is =
    under_way_synced log frames _ _ taken.under_way c.in-Some.is
