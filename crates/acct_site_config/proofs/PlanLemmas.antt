-- The fault of a list of plans in which no plan has a fault of its own.
use Rattle.std.proofs.Common.{◌≡◌, List, Some, None, refl, Bool, true, false}
use Rattle.std.specs.Prelude.{if◌then◌else◌}
use Rattle.acct_model.specs.declared.plan.Plan.{Plan}
use Rattle.acct_model.specs.declared.plans.PlanError.{PlanError}
use Rattle.acct_model.specs.declared.plans.PlanError.TheVariants.{NoDefault}
use Rattle.acct_model.specs.PlanFaults.{default_fault}
use Rattle.acct_site_config.specs.PlanTables.{has_default}

absent : (has : Bool) (fault : PlanError) → (if has then None else Some NoDefault) ≡ Some fault
    → (has ≡ false) × (fault ≡ NoDefault)
absent true fault e = absurd (cc)
absent false fault e = (refl, cc)

-- it is that no plan is `default`
pub lacks_default : (plans : List Plan) (fault : PlanError) → default_fault plans ≡ Some fault
    → (has_default plans ≡ false) × (fault ≡ NoDefault)
lacks_default plans fault e = absent (has_default plans) fault e
