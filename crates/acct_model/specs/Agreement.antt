-- What a balance depends on.
use Rattle.std.specs.Prelude.{◌≡◌, ℕ, ◌↔◌, false, List, [], ◌∷◌, Contains, Some}
use Rattle.std.specs.List.{list_any}
use Rattle.acct_model.specs.Report.{ReportFacts}
use Rattle.acct_model.specs.Plans.{has_class}
use Rattle.acct_model.specs.declared.plan.Plan.{Plan}
use Rattle.acct_model.specs.declared.entry.Entry.{Entry}
use Rattle.acct_model.specs.History.{Accepted, PlansAdded, History, all_reports, balance_of}
use Rattle.acct_model.specs.Claims.{Claim, claim_of, claims, IsConsistent}

-- the same claims, in any order and number
abbrev pub ClaimsTheSame : History → History → Type 0
ClaimsTheSame these those =
    (claim : Claim) → Contains (claims these) claim ↔ Contains (claims those) claim

-- every account has one balance in both
abbrev pub BalancesAreEqual : List Plan → History → History → Type 0
BalancesAreEqual plans these those =
    (account : List ℕ) → balance_of plans these account ≡ balance_of plans those account

-- each addition is of plans whose classes no report has that was accepted before it
abbrev pub AddsForNone : History → Type 0
AddsForNone [] = Unit {0}
AddsForNone (Accepted next ∷ older) = AddsForNone older
AddsForNone (PlansAdded added ∷ older) =
    ((report : ReportFacts) → Contains (all_reports older) report
    → list_any (has_class report.class) added ≡ false)
    × AddsForNone older

-- What a balance depends on: the claims of a history. It does not depend on their order or number,
-- if the history is consistent and plans were added only for classes that no report accepted before
-- has. The plans are those in force at the end of both.
pub record BalancesAgree : Type 0 where
  -- a balance depends only on the claims: not on moments, delays and all else that an entry says,
  -- and not on restarts
  pub by_claims : (plans : List Plan) (these those : History)
      → AddsForNone these → AddsForNone those → claims these ≡ claims those
      → BalancesAreEqual plans these those
  -- what is accepted again moves no balance
  pub repeated : (plans : List Plan) (history : History) (next : Entry) (claim : Claim)
      → claim_of next ≡ Some claim → Contains (claims history) claim
      → BalancesAreEqual plans (Accepted next ∷ history) history
  -- the balances of a consistent list depend on which claims it has, and not on their order or
  -- number
  pub any_order : (plans : List Plan) (these those : History)
      → AddsForNone these → AddsForNone those
      → IsConsistent these → ClaimsTheSame these those → BalancesAreEqual plans these those
