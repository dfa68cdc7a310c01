use Rattle.std.proofs.Common.{◌≡◌, ◌≤◌, ◌*◌, ◌^◌, take, Some}
use Rattle.std.specs.List.{sum_by}
use Rattle.acct_book_forward.specs.inner.Forwarding.{blocks_at}
use Rattle.acct_book_forward.proofs.batch.started_in.Given as goal

abbrev pub invariant-loop-row : goal.invariant-loop-row
invariant-loop-row l = record {
  exact : l.total ≡ sum_by (λ row. blocks_at l.plan (Some row)) (take l.row-index l.rows);
  bound : l.total ≤ l.row-index * 2 ^ 63;
}
