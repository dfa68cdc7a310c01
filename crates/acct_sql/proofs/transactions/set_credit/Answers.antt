use Rattle.std.proofs.Common.{rules}
use Rattle.acct_sql.proofs.transactions.set_credit.Goals as goal

-- The search is kept short: it finds this, and gives up soon on a body that breaks it.
pub set_balance-requires : goal.set_balance-requires
set_balance-requires g c = search rules fits 100
