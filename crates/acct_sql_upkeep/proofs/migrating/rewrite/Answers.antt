use Rattle.std.proofs.Common.{rules}
use Rattle.acct_sql_upkeep.proofs.migrating.rewrite.Goals as goal

-- Each search is kept short: it finds these, and gives up soon on a body that breaks one.
pub write_all-done-requires-clause-older : goal.write_all-done-requires-clause-older
write_all-done-requires-clause-older g c = search rules fits 100

pub returns-clause-made : goal.returns-clause-made
returns-clause-made g c = search rules fits 100

pub returns-clause-undone : goal.returns-clause-undone
returns-clause-undone g c = search rules fits 100

pub returns-clause-survives : goal.returns-clause-survives
returns-clause-survives g c = search rules fits 100
