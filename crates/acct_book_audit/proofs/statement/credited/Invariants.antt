use Rattle.std.proofs.Common.{◌≡◌, ◌≤◌, ◌*◌, ◌^◌, take}
use Rattle.std.specs.List.{sum_by}
use Rattle.acct_book_audit.proofs.statement.credited.Given as goal

abbrev pub invariant-loop-topup : goal.invariant-loop-topup
invariant-loop-topup l = record {
  exact : l.total ≡ sum_by (λ topup. topup.sum) (take l.topup-index l.topups);
  bound : l.total ≤ l.topup-index * 2 ^ 64;
}
