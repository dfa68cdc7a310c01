use Rattle.sqlite.specs.Held.{state}
use Rattle.acct_sql.proofs.ColumnLemmas.{keeps_balance}
use Rattle.acct_sql.proofs.laws.balances_are_their_columns.Goals as goal

pub returns : goal.returns
returns g c balance told kept = keeps_balance (state g.S.Store c.args.book.now).now
    (c.rests.ensures.book told.0.0 told.0.1) c.args.account.now balance kept
