-- When the balance of an account is right, by its statement and by its rows and top-ups.
use Rattle.std.proofs.Common.{◌≡◌, ℕ, ◌+◌, Bool, true, false, cond, ◌&&◌, not, List, [], ◌∷◌, refl}
use Rattle.std.proofs.Common.{sym}
use Rattle.std.proofs.Common.{ap, ◌∙◌, subst, arith, true≢false, inl, inr}
use Rattle.std.specs.Prelude.{Contains, Option, Some, None, ℤ, ◌==◌, IsTrue, ◌↔◌, length, bytes_eq}
use Rattle.std.specs.Bool.{Decides}
use Rattle.std.specs.List.{sum_by, count_by, list_any}
use Rattle.std.specs.Cmp.{signed_Decides}
use Rattle.std.proofs.lemmas.Bool.Decides.{nat_tests}
use Rattle.std.proofs.lemmas.List.Sums.{sum_by-cons}
use Rattle.std.proofs.lemmas.List.Elements.{All-contains}
use Rattle.acct_model.specs.declared.plan.Plan.{Plan}
use Rattle.acct_model.specs.Vouchers.{TopUpFacts}
use Rattle.acct_model.proofs.Lists.{here, deeper, nowhere, front_or_behind, all_listed}
use Rattle.acct_model.specs.Plans.{plan_for, plan_class, has_class, default_class}
use Rattle.acct_model.proofs.Same.{Decides-bytes_eq}
use Rattle.acct_model.proofs.PlanLaws.{plan_of_class}
use Rattle.acct_book.specs.Row.{RowFacts}
use Rattle.acct_book.specs.Charge.{charge_of_row}
use Rattle.acct_book.specs.Content.{Content}
use Rattle.acct_book.proofs.Fixed.{lists-fixed}
use Rattle.acct_book.proofs.Keys.{alike, octets_are}
use Rattle.acct_book_audit.proofs.Onces.{any_passes}
use Rattle.acct_book_audit.specs.declared.statement.Statement.{Statement}
use Rattle.acct_book_audit.specs.Balancing.{is_planned, planned_charge, credited_by, charged_by}
use Rattle.acct_book_audit.specs.Balancing.{due_balance, IsRight, IsBalanced, States, IsStatement}
use Rattle.acct_book_audit.specs.Balancing.{same_balance, is_right}

some_is : {A : Type 0} (x y : A) → Some x ≡ Some y → x ≡ y
some_is x y e = cc

-- ---- the same balance

pub Decides-same_balance : (a b : Option ℤ) → Decides (same_balance a b) (a ≡ b)
Decides-same_balance None None = (λ e. refl, λ e. refl)
Decides-same_balance None (Some b) = (λ e. absurd (true≢false (sym e)), λ e. absurd (cc))
Decides-same_balance (Some a) None = (λ e. absurd (true≢false (sym e)), λ e. absurd (cc))
Decides-same_balance (Some a) (Some b) =
    let both = signed_Decides a b in
    (λ e. ap Some (both.0 e), λ e. both.1 (some_is a b e))

-- ---- plans

-- the plan that a class finds has the class exactly if some plan has it
pub planned_is : (plans : List Plan) (class : List ℕ) (plan : Plan)
    → plan_for plans class ≡ Some plan → plan.class ≡ plan_class plans class
    → bytes_eq plan.class class ≡ list_any (has_class class) plans
planned_is plans class plan found is =
    alike (bytes_eq plan.class class) (list_any (has_class class) plans)
    (λ e. any_passes (has_class class) plans plan (plan_of_class plans class plan found).0
    ((Decides-bytes_eq class plan.class).1 (sym (octets_are plan.class class e))))
    (λ e. (Decides-bytes_eq plan.class class).1
    (is ∙ ap (λ b. cond b class default_class) e))

-- ---- sums over rows that are of some plan

count_at : (b : Bool) (n : ℕ) → cond (not b) 1 0 + n ≡ 0 → (b ≡ true) × (n ≡ 0)
count_at true n e = (refl, omega (arith, e))
count_at false n e = absurd (omega (arith, e))

module _ (plans : List Plan) where
  abbrev unplanned : RowFacts → Bool
  unplanned row = not (is_planned plans row)

  abbrev one_if : RowFacts → ℕ
  one_if row = cond (unplanned row) 1 0

  -- none is counted, so each is of some plan
  each_planned : (rows : List RowFacts) → count_by unplanned rows ≡ 0 → (row : RowFacts)
      → Contains rows row → is_planned plans row ≡ true
  each_planned [] none row there = absurd (nowhere row there)
  each_planned (x ∷ rows) none row there =
      let both = count_at (is_planned plans x) (count_by unplanned rows)
      (sym (sum_by-cons one_if x rows) ∙ none) in
      elim (front_or_behind x row rows there) [
        | inl is ↦ ap (is_planned plans) (sym is) ∙ both.0
        | inr behind ↦ each_planned rows both.1 row behind
      ]

  none_counted : (rows : List RowFacts)
      → ((row : RowFacts) → Contains rows row → is_planned plans row ≡ true)
      → count_by unplanned rows ≡ 0
  none_counted [] each = refl
  none_counted (x ∷ rows) each =
      sum_by-cons one_if x rows
      ∙ (λ i. cond (not (each x (here x rows) i)) 1 0
      + none_counted rows (λ row there. each row (deeper x row rows there)) i)

  charges_same : (rows : List RowFacts)
      → ((row : RowFacts) → Contains rows row → is_planned plans row ≡ true)
      → sum_by (planned_charge plans) rows ≡ charged_by plans rows
  charges_same [] each = refl
  charges_same (x ∷ rows) each =
      sum_by-cons (planned_charge plans) x rows
      ∙ (λ i. cond (each x (here x rows) i) (charge_of_row plans x) 0
      + charges_same rows (λ row there. each row (deeper x row rows there)) i)
      ∙ sym (sum_by-cons (charge_of_row plans) x rows)

-- ---- statements

both_true : (a b : Bool) → (a && b) ≡ true → (a ≡ true) × (b ≡ true)
both_true true b e = (refl, e)
both_true false b e = absurd (true≢false (sym e))

zero_is : (n : ℕ) → (n == 0) ≡ true → n ≡ 0
zero_is n e = grind (arith, nat_tests)

is_zero : (n : ℕ) → n ≡ 0 → (n == 0) ≡ true
is_zero n e = grind (arith, nat_tests)

module _ (plans : List Plan) (rows : List RowFacts) (topups : List TopUpFacts)
    (statement : Statement) (states : States plans rows topups statement) where
  abbrev due : Option ℤ
  due = due_balance statement.sessions statement.vouchers statement.credited statement.charged

  due_is : ((row : RowFacts) → Contains rows row → is_planned plans row ≡ true)
      → due ≡ due_balance (length rows) (length topups) (credited_by topups) (charged_by plans rows)
  due_is each = λ i. due_balance (states.sessions i) (states.vouchers i) (states.credited i)
      ((states.charged ∙ charges_same plans rows each) i)

  pub right_by_rows : is_right statement ≡ true → IsRight plans rows topups statement.balance
  right_by_rows right =
      let (none, same) = both_true (statement.unplanned == 0) _ right in
      let each = each_planned plans rows
      (sym states.unplanned ∙ zero_is statement.unplanned none) in
      record {
        planned = all_listed (λ row. is_planned plans row ≡ true) rows each;
        due = (Decides-same_balance statement.balance due).0 same ∙ due_is each;
      }

  pub right_by_statement : IsRight plans rows topups statement.balance → is_right statement ≡ true
  right_by_statement right =
      let each = λ (row : RowFacts) (there : Contains rows row).
      All-contains (λ r. is_planned plans r ≡ true) rows row right.planned there in
      let none = is_zero statement.unplanned (states.unplanned ∙ none_counted plans rows each) in
      let same = (Decides-same_balance statement.balance due).1 (right.due ∙ sym (due_is each)) in
      ap (λ b. b && same_balance statement.balance due) none ∙ same

-- a statement with the balance that is kept of an account is right exactly if the account is balanced
pub right_balanced : (plans : List Plan) (content : Content) (account : List ℕ)
    (balance : Option ℤ) (statement : Statement)
    → IsStatement plans content account balance statement → balance ≡ content.balances account
    → IsTrue (is_right statement) ↔ IsBalanced plans content account
right_balanced plans content account balance statement is kept =
    let same : statement.balance ≡ content.balances account = is.balance ∙ kept in
    let fixed = lists-fixed content in (
      (λ right rows topups are those.
          let by = right_by_rows plans is.rows is.topups statement is.states right in
          subst (λ b. IsRight plans rows topups b) same
          (subst (λ rs. IsRight plans rs topups statement.balance)
          (fixed.rows account is.rows rows is.are_rows are)
          (subst (λ ts. IsRight plans is.rows ts statement.balance)
          (fixed.topups account is.topups topups is.are_topups those) by))),
      (λ balanced. right_by_statement plans is.rows is.topups statement is.states
          (subst (λ b. IsRight plans is.rows is.topups b) (sym same)
          (balanced is.rows is.topups is.are_rows is.are_topups))),
    )
