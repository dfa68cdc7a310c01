use Rattle.std.proofs.Common.{true≢false, sym, inl, inr, List}
use Rattle.std.proofs.lemmas.List.Elements.{All-contains}
use Rattle.std.specs.Prelude.{Contains}
use Rattle.acct_model.specs.declared.plan.Plan.{Plan}
use Rattle.acct_program_commands.specs.NewSite.{HaveSame, IsChange}
use Rattle.acct_program_commands.specs.declared.new_site.Change.{Change}
use Rattle.acct_program_commands.specs.declared.new_site.Change.TheVariants.{New, Missing, Other}
use Rattle.acct_program_commands.proofs.new_site.compared.Goals as goal

-- a plan that one of two lists does not have
differ : (own in_force : List Plan) (plan : Plan) (how : Change)
    → IsChange own in_force plan how → ¬ HaveSame own in_force
differ own in_force plan New is same =
    is.0.1 (All-contains (Contains in_force) own plan same.1 is.0.0)
differ own in_force plan Missing is same =
    is.0.1 (All-contains (Contains own) in_force plan same.0 is.0.0)
differ own in_force plan Other (inl is) same =
    is.0.1 (All-contains (Contains in_force) own plan same.1 is.0.0)
differ own in_force plan Other (inr is) same =
    is.0.1 (All-contains (Contains own) in_force plan same.0 is.0.0)

pub returns-in-Ok-clause-current : goal.returns-in-Ok-clause-current
returns-in-Ok-clause-current c = (
  λ never. absurd (true≢false (sym never)),
  λ same. absurd (differ _ _ _ _ c.in-Some.ensures.some same),
)

pub returns-in-Err-clause-current : goal.returns-in-Err-clause-current
returns-in-Err-clause-current c = (
  λ never. absurd (true≢false (sym never)),
  λ same. absurd (differ _ _ _ _ c.in-Some.ensures.some same),
)
