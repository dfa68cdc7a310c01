use Rattle.std.proofs.Common.{rules, ◌≡◌, subst, w64, to_z, of_z}
use Rattle.acct_sql_tables.specs.Migrate.{number_of}
use Rattle.acct_sql_tables.specs.inner.Looked.{IsNumberFault}
use Rattle.acct_sql_upkeep.proofs.migrating.older_fault.Goals as goal

pub returns-in-WrongSchema-clause-older : goal.returns-in-WrongSchema-clause-older
returns-in-WrongSchema-clause-older c older db fault =
    let n = c.in-WrongSchema.number in
    let back : to_z w64 (of_z w64 n) ≡ n = search rules in
    c.fault_of_number.ensures.older older db (rw back (subst (IsNumberFault (number_of older) db)
    c.in-WrongSchema.is fault))
