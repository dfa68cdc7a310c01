use Rattle.std.proofs.Common.{◌∙◌}
use Rattle.sqlite.specs.Held.{state}
use Rattle.acct_sql_upkeep.proofs.MigrationLemmas.{unfit_refused}
use Rattle.acct_sql_upkeep.proofs.migrating.migrate_book.Goals as goal

pub returns-in_default-clause-refused : goal.returns-in_default-clause-refused
returns-in_default-clause-refused g c clean = unfit_refused c.args.plans.now
    (state g.S.Store c.args.conn.now).now c.fault_of_no_older.result
    (λ older is. c.in_default.ensures older (c.schema.ensures.value ∙ is))
    c.fault_of_no_older.ensures.fault
