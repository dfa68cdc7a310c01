use Rattle.std.proofs.Common.{rules, ◌≢◌}
use Rattle.sqlite.specs.Held.{state}
use Rattle.acct_sql_tables.specs.Tables.{book_schema}
use Rattle.acct_sql_upkeep.proofs.NumberLemmas.{other_refused}
use Rattle.acct_sql_upkeep.proofs.adopting.examine.Goals as goal

pub returns-else-is_book_schema-clause-refused : goal.returns-else-is_book_schema-clause-refused
returns-else-is_book_schema-clause-refused g c clean =
    let other : (state g.S.Store c.args.conn.now).now.schema ≢ book_schema = search rules in
    other_refused c.args.plans.now (state g.S.Store c.args.conn.now).now _ other
    c.fault_of_other.ensures.fault
