use Rattle.acct_book.specs.Walk.{AreRowsOf}
use Rattle.acct_sql_tables.specs.Book.{content_at}
use Rattle.acct_sql.proofs.CallLemmas.{found_in_answer, read_in_answer, read_leaves, still_holds}
use Rattle.acct_sql.proofs.sql_book.SqlBookBook.sessions_of.Goals as goal

pub read_sessions-requires : goal.read_sessions-requires
read_sessions-requires g c = c.self.invariant.0

pub invariant_of-self : goal.invariant_of-self
invariant_of-self g c = still_holds c.read_sessions.ensures.read
    c.kept_or_forget.ensures c.self.invariant

pub returns : goal.returns
returns g c = record {
  found = found_in_answer (λ conn rows. AreRowsOf (content_at g.S.Store conn) c.args.account.now
      rows.items) c.self.view_is c.kept_or_forget.ensures c.read_sessions.ensures.found;
  reads = read_in_answer c.self.view_is c.read_sessions.ensures.read c.kept_or_forget.ensures;
  plans = read_leaves c.self.view_is c.read_sessions.ensures.read;
}
