use Rattle.std.proofs.Common.{◌≡◌}
use Rattle.acct_sql_tables.specs.Book.{content_at}
use Rattle.acct_sql.proofs.CallLemmas.{found_in_answer, read_in_answer, read_leaves, still_holds}
use Rattle.acct_sql.proofs.sql_book.SqlBookBook.voucher.Goals as goal

pub read_voucher-requires : goal.read_voucher-requires
read_voucher-requires g c = c.self.invariant.0

pub invariant_of-self : goal.invariant_of-self
invariant_of-self g c = still_holds c.read_voucher.ensures.read
    c.kept_or_forget.ensures c.self.invariant

pub returns : goal.returns
returns g c = record {
  found = found_in_answer (λ conn topup. topup ≡ (content_at g.S.Store conn).topups
      c.args.number.now) c.self.view_is c.kept_or_forget.ensures c.read_voucher.ensures.found;
  reads = read_in_answer c.self.view_is c.read_voucher.ensures.read c.kept_or_forget.ensures;
  plans = read_leaves c.self.view_is c.read_voucher.ensures.read;
}
