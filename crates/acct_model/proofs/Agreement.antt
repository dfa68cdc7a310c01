-- What a balance depends on, in one record.
use Rattle.acct_model.specs.Agreement.{BalancesAgree}
use Rattle.acct_model.proofs.Agree.{balances-same}
use Rattle.acct_model.proofs.Bare.{balance-claims}
use Rattle.acct_model.proofs.Repeats.{balance-repeated}

pub balances-agree : BalancesAgree
balances-agree = record {
  by_claims = balance-claims;
  repeated = balance-repeated;
  any_order = balances-same;
}
