use Rattle.std.proofs.Common.{option_map}
use Rattle.std.specs.Option.{option_copied}
use Rattle.acct_book.specs.Walk.{IsNextBalance}
use Rattle.acct_sql_tables.specs.Book.{content_at}
use Rattle.acct_sql.proofs.CallLemmas.{found_in_answer, read_in_answer, read_leaves, still_holds}
use Rattle.acct_sql.proofs.sql_book.SqlBookBook.next_account.Goals as goal

pub read_next_account-requires : goal.read_next_account-requires
read_next_account-requires g c = c.self.invariant.0

pub invariant_of-self : goal.invariant_of-self
invariant_of-self g c = still_holds c.read_next_account.ensures.read
    c.kept_or_forget.ensures c.self.invariant

pub returns : goal.returns
returns g c = record {
  found = found_in_answer (λ conn kept. IsNextBalance (content_at g.S.Store conn) (option_copied
      c.args.after) (option_map (λ k. (k.0.items, k.1)) kept)) c.self.view_is
      c.kept_or_forget.ensures c.read_next_account.ensures.found;
  reads = read_in_answer c.self.view_is c.read_next_account.ensures.read c.kept_or_forget.ensures;
  plans = read_leaves c.self.view_is c.read_next_account.ensures.read;
}
