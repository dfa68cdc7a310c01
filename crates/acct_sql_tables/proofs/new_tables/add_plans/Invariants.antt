use Rattle.std.proofs.Common.{Ok, [], take, ℕ}
use Rattle.sqlite.specs.Effect.{Database}
use Rattle.acct_sql_tables.specs.inner.Inside.{RunsInside}
use Rattle.acct_sql_tables.specs.inner.NewBook.{HasPlans}
use Rattle.acct_sql_tables.proofs.new_tables.add_plans.Given as goal

abbrev pub invariant-loop-plan : goal.invariant-loop-plan
invariant-loop-plan g l = RunsInside {T = ℕ} {E = ℕ} g.S.Store l.fn.tx.conn l.tx.conn
    (λ old new. (c : Database) → HasPlans c [] old → HasPlans c (take l.plan-index l.plans) new)
    (Ok 0)
