use Rattle.std.proofs.Common.{rules, ◌≡◌, w64, to_z, of_z}
use Rattle.acct_sql_tables.specs.inner.Looked.{tables_at}
use Rattle.acct_sql_upkeep.proofs.migrating.check_older_number.Goals as goal

pub returns-in-Err-clause-refused : goal.returns-in-Err-clause-refused
returns-in-Err-clause-refused g c clean =
    let back : to_z w64 (of_z w64 c.number.result) ≡ c.number.result = search rules in
    c.older_fault.ensures.older c.args.older (tables_at g.S.Store c.args.conn.now).trees
    (rw (back, c.number.ensures) at (c.in-Err.ensures.refused clean))
