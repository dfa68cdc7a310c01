use Rattle.std.proofs.Common.{Ok, take, ℕ, List, ◌++◌}
use Rattle.sqlite.specs.Tree.{Trees}
use Rattle.sqlite.specs.Effect.{Database}
use Rattle.acct_model.specs.declared.plan.Plan.{Plan}
use Rattle.acct_sql_tables.specs.inner.Inside.{RunsInside}
use Rattle.acct_sql_tables.specs.inner.NewBook.{HasPlansOver}
use Rattle.acct_sql_upkeep.specs.inner.Adding.{AreShownOf}
use Rattle.acct_sql_upkeep.proofs.adding.add_missing.Given as goal

abbrev pub invariant-loop-plan : goal.invariant-loop-plan
invariant-loop-plan g l = RunsInside {T = ℕ} {E = ℕ} g.S.Store l.fn.tx.conn l.tx.conn
    (λ old new. (c : Database) (first : Trees) (kept : List Plan)
    → AreShownOf l.plans l.prices kept → HasPlansOver c first kept old
    → HasPlansOver c first (kept ++ take l.plan-index l.plans) new) (Ok 0)
