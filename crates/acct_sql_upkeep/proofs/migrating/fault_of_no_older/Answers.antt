use Rattle.std.proofs.Common.{pos}
use Rattle.acct_sql_upkeep.proofs.migrating.fault_of_no_older.Goals as goal

pub returns-clause-fault : goal.returns-clause-fault
returns-clause-fault g c = c.older_fault.ensures.other (pos 1) c.fault_of_other.ensures.fault
