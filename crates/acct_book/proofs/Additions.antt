-- Why a content stands for a history after plans were added to it.
use Rattle.std.proofs.Common.{◌≡◌, List, ◌∷◌, cond, refl, ap, ◌∙◌, subst}
use Rattle.std.specs.Prelude.{ℕ, Option, Some, None, option_map}
use Rattle.acct_model.specs.declared.plan.Plan.{Plan}
use Rattle.acct_model.specs.Plans.{plan_for, plans_before, plans_added}
use Rattle.acct_model.specs.History.{PlansAdded, History, reports, is_known, InRange}
use Rattle.acct_model.proofs.SamePlans.{SamePlans, same-kept, same-balance, same-plan_for}
use Rattle.acct_model.proofs.KeptLaws.{before-added}
use Rattle.acct_book.specs.declared.key.Key.{Key}
use Rattle.acct_book.specs.Rows.{name_of, row_of_reports, is_restarted, row_of}
use Rattle.acct_book.specs.Content.{Content, keeping}
use Rattle.acct_book.specs.Stands.{AreKept, Stands}
use Rattle.acct_book.specs.Laws.{AdditionsStand}

-- the row of a session is the same by plans that say the same
pub same-row : (these those : List Plan) (history : History) (key : Key) → SamePlans these those
    → row_of these history key ≡ row_of those history key
same-row these those history key same =
    ap (λ plan. row_of_reports plan key (is_restarted history key) (reports history (name_of key)))
    (same-kept these those history (name_of key) same).0

-- plans that say the same are kept by the same lists
same-listed : (these those : List Plan) (kept : Option (List ℕ → Option Plan))
    → SamePlans these those → AreKept these kept → AreKept those kept
same-listed these those None same is = tt
same-listed these those (Some plan_of) same is =
    λ class. is class ∙ same-plan_for these those class same

-- a list of plans, if there is one, that was replaced by these
listed-anew : (plans : List Plan) (kept : Option (List ℕ → Option Plan))
    → AreKept plans (option_map (λ plan_of. plan_for plans) kept)
listed-anew plans None = tt
listed-anew plans (Some plan_of) = λ class. refl

-- by plans that say the same a content stands for the same histories
pub same-stands : (these those : List Plan) (content : Content) (history : History)
    → SamePlans these those → Stands these content history → Stands those content history
same-stands these those content history same st = record {
  rows = λ key. st.rows key ∙ same-row these those history key same;
  balances = λ account. st.balances account
      ∙ ap (λ z. cond (is_known history account) (Some z) None)
      (same-balance these those history account same);
  topups = st.topups;
  kept = same-listed these those content.plans same st.kept;
  in_range = λ account. subst InRange (same-balance these those history account same)
      (st.in_range account);
}

-- a content of the old plans stands for the history with the addition, once it keeps the new plans
pub added-stands : (plans added : List Plan) (content : Content) (history : History)
    → Stands (plans_before added plans) content history
    → Stands plans (keeping plans content) (PlansAdded added ∷ history)
added-stands plans added content history st = record {
  rows = st.rows;
  balances = st.balances;
  topups = st.topups;
  kept = listed-anew plans content.plans;
  in_range = st.in_range;
}

pub additions_stand : AdditionsStand
additions_stand old new content history good fine extends st =
    added-stands new (plans_added old new) content history
    (same-stands old (plans_before (plans_added old new) new) content history
    (before-added old new good fine extends) st)
