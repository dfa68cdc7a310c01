-- What an addition of plans may leave, and which plans are in force.
use Rattle.std.proofs.Common.{◌≡◌, ◌⊎◌, inl, inr, List, sym, ap, ◌∙◌}
use Rattle.sqlite.specs.State.{State, HasCleanDisk, Survives}
use Rattle.acct_model.specs.declared.plan.Plan.{Plan}
use Rattle.acct_book.specs.Content.{Content, keeping}
use Rattle.acct_sql_tables.specs.Book.{Left}
use Rattle.acct_sql_tables.specs.Content.{content_in_tables}
use Rattle.acct_sql_tables.proofs.ListedLemmas.{plans_listed}
use Rattle.acct_sql_upkeep.specs.Add.{HasAdded}
use Rattle.acct_sql.specs.Kept.{KeptAreInForce}

-- a crash leaves the contents of what it could leave before, or that of the tables with the added
-- plans
pub left_by_addition : (plans : List Plan) (old new : State)
    → Survives old new (HasAdded plans old.now.trees) → HasCleanDisk new
    → (content : Content) → Left new content
    → Left old content ⊎ (content ≡ keeping plans (content_in_tables old.now.trees))
left_by_addition plans old new survives clean content left =
    elim (survives.crash clean left.0 left.1) [
      | inl before ↦ inl (left.0, before, left.2)
      | inr added ↦ inr (left.2 ∙ added.content)
    ]

pub kept_in_force : KeptAreInForce
kept_in_force kept plans db history faultless keeps stood class =
    sym (ap (λ listed. listed class) (plans_listed kept db faultless keeps)) ∙ stood.kept class
