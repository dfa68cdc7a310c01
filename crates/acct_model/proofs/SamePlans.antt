-- What sessions cost depends on which plan each class has, and not on the order of the plans.
use Rattle.std.proofs.Common.{◌≡◌, ℕ, Bool, true, false, not, cond, Option, None, Some, List}
use Rattle.std.proofs.Common.{[], ◌∷◌, refl, sym, ◌∙◌, ap, true≢false}
use Rattle.std.specs.Prelude.{bytes_eq, is_some, option_map, pos, ◌-ℤ◌}
use Rattle.std.specs.List.{find, sum_by}
use Rattle.std.specs.Option.{option_or, option_and_then}
use Rattle.acct_model.specs.declared.plan.Plan.{Plan}
use Rattle.acct_model.specs.declared.entry.Entry.TheVariants as entry
use Rattle.acct_model.specs.Report.{ReportFacts}
use Rattle.acct_model.specs.Plans.{has_class, default_class, plan_for, plan_class, is_added}
use Rattle.acct_model.specs.Plans.{plans_before}
use Rattle.acct_model.specs.History.{Accepted, PlansAdded, History, SessionName, session_of}
use Rattle.acct_model.specs.History.{same_session, reports, sessions, first_of, Opening, opening_of}
use Rattle.acct_model.specs.History.{plan_opened, class_opened, plan_of, kept_class, cost_of, share}
use Rattle.acct_model.specs.History.{charged, credited, balance_of}
use Rattle.acct_model.proofs.Same.{Decides-bytes_eq, Decides-false}
use Rattle.acct_model.proofs.Kept.{find-before}
use Rattle.acct_model.proofs.Lists.{is_some-find}

-- each class has one plan in both, or none in either
abbrev pub SamePlans : List Plan → List Plan → Type 0
SamePlans these those =
    (class : List ℕ) → find (has_class class) these ≡ find (has_class class) those

pub same-plan_for : (these those : List Plan) (class : List ℕ) → SamePlans these those
    → plan_for these class ≡ plan_for those class
same-plan_for these those class same = λ i. option_or (same class i) (same default_class i)

pub same-plan_class : (these those : List Plan) (class : List ℕ) → SamePlans these those
    → plan_class these class ≡ plan_class those class
same-plan_class these those class same =
    ap (λ b. cond b class default_class)
    (sym (is_some-find (has_class class) these) ∙ ap is_some (same class)
    ∙ is_some-find (has_class class) those)

-- a class that was added has no plan before
pub none-before : (added plans : List Plan) (class : List ℕ) → is_added added class ≡ true
    → find (has_class class) (plans_before added plans) ≡ None
none-before added [] class e = refl
none-before added (p ∷ ps) class e =
    elim (is_added added p.class) as (λ b. is_added added p.class ≡ b
    → find (has_class class) (cond (not b) (p ∷ plans_before added ps) (plans_before added ps))
    ≡ None) [
      | true ↦ λ is. none-before added ps class e
      | false ↦ λ is.
          let other : bytes_eq class p.class ≡ false =
          Decides-false (bytes_eq class p.class) (Decides-bytes_eq class p.class)
          (λ same. true≢false (sym e ∙ ap (is_added added) same ∙ is)) in
          ap (λ b. cond b (Some p) (find (has_class class) (plans_before added ps))) other
          ∙ none-before added ps class e
    ] refl

pub same-before : (added these those : List Plan) → SamePlans these those
    → SamePlans (plans_before added these) (plans_before added those)
same-before added these those same class =
    elim (is_added added class) as (λ b. is_added added class ≡ b
    → find (has_class class) (plans_before added these)
    ≡ find (has_class class) (plans_before added those)) [
      | true ↦ λ e. none-before added these class e ∙ sym (none-before added those class e)
      | false ↦ λ e. find-before added these class e ∙ same class
          ∙ sym (find-before added those class e)
    ] refl

or_kept : (these those : List Plan) (r : ReportFacts) (o p : Option Opening) (b : Bool)
    → SamePlans these those → option_and_then plan_opened o ≡ option_and_then plan_opened p
    → option_map class_opened o ≡ option_map class_opened p
    → (option_and_then plan_opened
    (option_or o (cond b (Some (record { first = r; plans = these })) None))
    ≡ option_and_then plan_opened
    (option_or p (cond b (Some (record { first = r; plans = those })) None)))
    × (option_map class_opened
    (option_or o (cond b (Some (record { first = r; plans = these })) None))
    ≡ option_map class_opened
    (option_or p (cond b (Some (record { first = r; plans = those })) None)))
or_kept these those r (Some o) (Some p) b same plan class = (plan, class)
or_kept these those r (Some o) None b same plan class = absurd (cc)
or_kept these those r None (Some p) b same plan class = absurd (cc)
or_kept these those r None None true same plan class = (
  same-plan_for these those r.class same,
  ap Some (same-plan_class these those r.class same),
)
or_kept these those r None None false same plan class = (refl, refl)

-- a session has the same plan, and keeps the same class
pub same-kept : (these those : List Plan) (history : History) (name : SessionName)
    → SamePlans these those
    → (plan_of these history name ≡ plan_of those history name)
    × (kept_class these history name ≡ kept_class those history name)
same-kept these those [] name same = (refl, refl)
same-kept these those (Accepted (entry.Report r) ∷ older) name same =
    let before = same-kept these those older name same in
    or_kept these those r (opening_of these older name) (opening_of those older name)
    (same_session name (session_of r)) same before.0 before.1
same-kept these those (Accepted (entry.Restart x) ∷ older) name same =
    same-kept these those older name same
same-kept these those (Accepted (entry.TopUp t) ∷ older) name same =
    same-kept these those older name same
same-kept these those (PlansAdded added ∷ older) name same =
    same-kept (plans_before added these) (plans_before added those) older name
    (same-before added these those same)

pub same-charged : (these those : List Plan) (history : History) (account : List ℕ)
    → SamePlans these those → charged these history account ≡ charged those history account
same-charged these those history account same = λ i. sum_by (λ name. share account
    (first_of (reports history name))
    (cost_of ((same-kept these those history name same).0 i) (reports history name)))
    (sessions history)

-- Every account has one balance by both.
pub same-balance : (these those : List Plan) (history : History) (account : List ℕ)
    → SamePlans these those → balance_of these history account ≡ balance_of those history account
same-balance these those history account same =
    ap (λ n. pos (credited history account) -ℤ pos n)
    (same-charged these those history account same)
