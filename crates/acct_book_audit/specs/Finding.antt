-- What an audit finds.
use Rattle.std.specs.Prelude.{ℕ, List}
use Rattle.acct_model.specs.Vouchers.{TopUpFacts}
use Rattle.acct_book.specs.Row.{RowFacts}
use Rattle.acct_book_audit.specs.declared.statement.Statement.{Statement}

pub data Finding : Type 0 where
  -- the balance of an account is not right, by this statement
  WrongAccount : List ℕ → Statement → Finding
  -- no balance is kept for the account of a session
  StraySession : RowFacts → Finding
  -- no balance is kept for the account of a voucher
  StrayVoucher : TopUpFacts → Finding
