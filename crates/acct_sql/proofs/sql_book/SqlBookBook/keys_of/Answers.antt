use Rattle.acct_book.specs.Walk.{AreKeysOf}
use Rattle.acct_sql_tables.specs.Book.{content_at}
use Rattle.acct_sql.proofs.CallLemmas.{found_in_answer, read_in_answer, read_leaves, still_holds}
use Rattle.acct_sql.proofs.sql_book.SqlBookBook.keys_of.Goals as goal

pub read_keys-requires : goal.read_keys-requires
read_keys-requires g c = c.self.invariant.0

pub invariant_of-self : goal.invariant_of-self
invariant_of-self g c = still_holds c.read_keys.ensures.read
    c.kept_or_forget.ensures c.self.invariant

pub returns : goal.returns
returns g c = record {
  found = found_in_answer (λ conn keys. AreKeysOf (content_at g.S.Store conn) c.args.account.now
      keys.items) c.self.view_is c.kept_or_forget.ensures c.read_keys.ensures.found;
  reads = read_in_answer c.self.view_is c.read_keys.ensures.read c.kept_or_forget.ensures;
  plans = read_leaves c.self.view_is c.read_keys.ensures.read;
}
