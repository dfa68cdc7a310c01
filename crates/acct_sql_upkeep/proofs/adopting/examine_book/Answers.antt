use Rattle.std.proofs.Common.{rules}
use Rattle.sqlite.specs.Held.{state}
use Rattle.acct_sql_upkeep.proofs.NumberLemmas.{book_refused}
use Rattle.acct_sql_upkeep.proofs.adopting.examine_book.Goals as goal

pub returns-in_err-check_number-clause-refused : goal.returns-in_err-check_number-clause-refused
returns-in_err-check_number-clause-refused g c clean =
    let refused = book_refused c.args.plans.now (state g.S.Store c.args.conn.now).now _
    (c.in_err-check_number.ensures.refused clean) in
    search rules
