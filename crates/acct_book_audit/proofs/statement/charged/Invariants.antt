use Rattle.std.proofs.Common.{◌≡◌, ◌≤◌, ◌*◌, ◌^◌, take}
use Rattle.std.specs.List.{sum_by}
use Rattle.acct_book_audit.specs.Balancing.{planned_charge}
use Rattle.acct_book_audit.proofs.statement.charged.Given as goal

abbrev pub invariant-loop-row : goal.invariant-loop-row
invariant-loop-row l = record {
  exact : l.total ≡ sum_by (planned_charge l.plans) (take l.row-index l.rows);
  bound : l.total ≤ l.row-index * 2 ^ 93;
}
