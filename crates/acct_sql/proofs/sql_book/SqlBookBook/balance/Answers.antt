use Rattle.std.proofs.Common.{◌≡◌, refl, rules, w64, SFits}
use Rattle.std.proofs.lemmas.Int.{to_z-of_z}
use Rattle.acct_book.specs.Content.{kept_balance}
use Rattle.acct_sql_tables.specs.Book.{content_at}
use Rattle.acct_sql_tables.proofs.ReadLemmas.{read_done}
use Rattle.acct_sql.proofs.CallLemmas.{failed, found_in_answer, read_in_answer, read_leaves}
use Rattle.acct_sql.proofs.CallLemmas.{still_holds}
use Rattle.acct_sql.proofs.KnownLemmas.{knows_balance, was_ok}
use Rattle.acct_sql.proofs.RememberLemmas.{remembers_read}
use Rattle.acct_sql.proofs.sql_book.SqlBookBook.balance.Goals as goal

pub read_balance-requires : goal.read_balance-requires
read_balance-requires g c = c.self.invariant.0

pub invariant_of-self : goal.invariant_of-self
invariant_of-self g c = still_holds c.read_balance.ensures.read
    c.in_err-balance.ensures c.self.invariant

pub returns-in_err-balance : goal.returns-in_err-balance
returns-in_err-balance g c = record {
  found = found_in_answer (λ conn balance. balance ≡ kept_balance (content_at g.S.Store conn)
      c.args.account.now) c.self.view_is
      (failed {told = c.from_residual.result} c.in_err-balance.ensures c.from_residual.ensures.0)
      c.read_balance.ensures.found;
  steady = λ none. absurd none;
  reads = read_in_answer c.self.view_is c.read_balance.ensures.read
      (failed {told = c.from_residual.result} c.in_err-balance.ensures c.from_residual.ensures.0);
  plans = read_leaves c.self.view_is c.read_balance.ensures.read;
}

pub invariant_of-self-2 : goal.invariant_of-self-2
invariant_of-self-2 g c =
    let fits : SFits w64 c.in_ok-balance.balance = search rules in (
      c.read_balance.ensures.read.resting,
      remembers_read c.read_balance.ensures.read c.self.invariant.1,
      knows_balance c.in_ok-balance.ensures c.self.invariant.2 c.read_balance.ensures.read
          c.args.account.now c.in_ok-balance.balance
          (rw (to_z-of_z w64 c.in_ok-balance.balance fits) at c.keep_balance.ensures.balances)
          c.keep_balance.ensures.sessions
          (λ o. found_in_answer {old = c.self.inside.conn}
          (λ conn balance. balance ≡ kept_balance (content_at g.S.Store conn)
          c.args.account.now) refl c.in_ok-balance.ensures c.read_balance.ensures.found o),
    )

pub returns-clause-reads : goal.returns-clause-reads
returns-clause-reads g c = read_done g.S.Store c.args.self.now c.self.inside.conn
    c.read_balance.new.conn c.read_balance.result c.in_ok-balance.balance _ c.self.view_is
    (was_ok c.in_ok-balance.ensures) c.read_balance.ensures.read.read
