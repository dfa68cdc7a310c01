use Rattle.std.proofs.Common.{Ok, [], take, ℕ, List, None}
use Rattle.acct_model.specs.declared.plan.Plan.{Plan}
use Rattle.acct_sql_tables.specs.inner.Inside.{RunsInside}
use Rattle.acct_sql_tables.specs.inner.Migrating.{HasWritten}
use Rattle.acct_sql_upkeep.proofs.migrating.add_counts.Given as goal

abbrev pub invariant-loop-plan : goal.invariant-loop-plan
invariant-loop-plan g l = RunsInside {T = ℕ} {E = ℕ} g.S.Store l.fn.tx.conn l.tx.conn
    (λ old new. (all : List Plan) → HasWritten all [] None old
    → HasWritten all (take l.plan-index l.plans) None new) (Ok 0)
