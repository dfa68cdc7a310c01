use Rattle.std.proofs.Common.{rules}
use Rattle.acct_sql_upkeep.proofs.adding.do_fit.Goals as goal

-- The search is kept short: it finds this, and gives up soon on a body that breaks it.
pub returns-then-are_plans-2 : goal.returns-then-are_plans-2
returns-then-are_plans-2 c = search rules fits 100
