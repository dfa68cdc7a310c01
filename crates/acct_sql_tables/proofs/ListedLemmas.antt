-- The list of plans that the tables keep, class by class.
use Rattle.std.proofs.Common.{◌≡◌, ◌≢◌, inl, inr, ℕ, pos, List, [], ◌∷◌, ◌++◌, true}
use Rattle.std.proofs.Common.{true≢false, Option, Some, None, find, option_map, refl, sym, ap}
use Rattle.std.proofs.Common.{subst, ◌∙◌}
use Rattle.std.specs.Option.{option_or, option_and_then}
use Rattle.sqlite.specs.declared.types.Value.{Value}
use Rattle.sqlite.specs.declared.types.Value.TheVariants.{Int, Blob}
use Rattle.sqlite.specs.Order.{Row, column}
use Rattle.sqlite.specs.Tree.{Trees}
use Rattle.sqlite_rules.specs.Lists.{Has}
use Rattle.sqlite_rules.proofs.ListLemmas.{has_right, contains_had}
use Rattle.acct_model.specs.declared.plan.Plan.{Plan}
use Rattle.acct_model.specs.declared.plan.Count.{Count}
use Rattle.acct_model.specs.declared.plan.Count.TheVariants.{Both, Input, Output}
use Rattle.acct_model.specs.Faults.{first_fault_after, first_fault}
use Rattle.acct_model.specs.Plans.{has_class, default_class, plan_for}
use Rattle.acct_model.specs.PlanFaults.{plan_fault, default_fault, plans_fault}
use Rattle.acct_model.proofs.Faults.{first_none, second_none}
use Rattle.acct_model.proofs.PlanLaws.{apart}
use Rattle.acct_model.proofs.Same.{Decides-bytes_eq}
use Rattle.acct_sql_tables.specs.Tables.{price_plan, plan_count}
use Rattle.acct_sql_tables.specs.Columns.{is_blob, columns, count_in, mode_in, plan_in_columns}
use Rattle.acct_sql_tables.specs.Content.{is_plan, plan_in_rows, listed_in_tables}
use Rattle.acct_sql_tables.specs.Book.{HasSamePlans}
use Rattle.acct_sql_tables.specs.Make.{IsPlanRow, IsCountRow, KeepsPlans, mode_of}
use Rattle.acct_sql_tables.proofs.FindLemmas.{not_true, none_is, find_has, none_has}
use Rattle.acct_sql_tables.proofs.ValueLemmas.{blob_is}

-- tables of plans that have the same rows list the same
pub same_listed : (old new : Trees) → HasSamePlans old new
    → listed_in_tables new ≡ listed_in_tables old
same_listed old new same = λ i class. option_or
    (plan_in_rows (same.prices i) (same.counts i) class)
    (plan_in_rows (same.prices i) (same.counts i) default_class)

-- ---- one plan for each class

-- plans without a fault are distinguished by their classes
one_plan : (earlier plans : List Plan) → first_fault_after plan_fault earlier plans ≡ None
    → (p q : Plan) → Has plans p → Has plans q → p.class ≡ q.class → p ≡ q
one_plan earlier [] none p q hp hq same = absurd hp
one_plan earlier (x ∷ plans) none p q hp hq same =
    let rest = second_none (plan_fault earlier x)
    (first_fault_after plan_fault (earlier ++ x ∷ []) plans) none in
    let far = λ (other : Plan). λ (there : Has plans other).
    (apart (earlier ++ x ∷ []) plans rest).1 x other
    (contains_had (earlier ++ x ∷ []) x (has_right earlier (x ∷ []) x (inl refl)))
    (contains_had plans other there) in
    go hp hq far (λ one other. one_plan (earlier ++ x ∷ []) plans rest p q one other same)
  where
    go : Has (x ∷ plans) p → Has (x ∷ plans) q
        → ((other : Plan) → Has plans other → x.class ≢ other.class)
        → (Has plans p → Has plans q → p ≡ q) → p ≡ q
    go (inl first) (inl second) far later = first ∙ sym second
    go (inl first) (inr there) far later = absurd (far q there
        (ap (λ (r : Plan). r.class) (sym first) ∙ same))
    go (inr there) (inl second) far later = absurd (far p there
        (ap (λ (r : Plan). r.class) (sym second) ∙ sym same))
    go (inr one) (inr other) far later = later one other

pub one_of_class : (plans : List Plan) → plans_fault plans ≡ None
    → (p q : Plan) → Has plans p → Has plans q → p.class ≡ q.class → p ≡ q
one_of_class plans faultless = one_plan [] plans
    (first_none (first_fault plan_fault plans) (default_fault plans) faultless)

-- ---- what the tables list

octets_in : (b c : List ℕ) → ◌≡◌ {A = Value} (Blob b) (Blob c) → b ≡ c
octets_in b c e = cc

mode_back : (count : Count) → mode_in (Int (pos (mode_of count))) ≡ Some count
mode_back Both = refl
mode_back Input = refl
mode_back Output = refl

module _ (plans : List Plan) (db : Trees) (faultless : plans_fault plans ≡ None)
    (kept : KeepsPlans plans db) where
  -- a row that says the class of a plan is found by that class
  of_class : (class : List ℕ) (p : Plan) (row : Row) → class ≡ p.class
      → column row 1 ≡ Blob p.class → is_plan class row ≡ true
  of_class class p row mine says = ap (is_blob class) says
      ∙ (Decides-bytes_eq p.class class).1 (sym mine)

  class_of : (class : List ℕ) (p : Plan) (row : Row) → is_plan class row ≡ true
      → column row 1 ≡ Blob p.class → class ≡ p.class
  class_of class p row passes says = octets_in class p.class
      (sym (blob_is class (column row 1) passes) ∙ says)

  module _ (class : List ℕ) (p : Plan) (there : Has plans p) (mine : class ≡ p.class) where
    price_found : (row : Row) × (find (is_plan class) (db price_plan.tree) ≡ Some row)
        × IsPlanRow p row
    price_found = go (find (is_plan class) (db price_plan.tree)) refl
      where
        go : (o : Option Row) → find (is_plan class) (db price_plan.tree) ≡ o
            → (row : Row) × (find (is_plan class) (db price_plan.tree) ≡ Some row)
            × IsPlanRow p row
        go None none =
            let r = kept.prices.each p there in
            absurd (true≢false (sym (of_class class p r.0 mine r.2.class)
            ∙ none_has (is_plan class) (db price_plan.tree) none r.0 r.1))
        go (Some row) found =
            let here = find_has (is_plan class) (db price_plan.tree) row found in
            let q = kept.prices.only row here.0 in
            let same : q.0 ≡ p = one_of_class plans faultless q.0 p q.1 there
            (sym (class_of class q.0 row here.1 q.2.class) ∙ mine) in
            (row, found, subst (λ x. IsPlanRow x row) same q.2)

    count_found : (row : Row) × (find (is_plan class) (db plan_count.tree) ≡ Some row)
        × IsCountRow p row
    count_found = go (find (is_plan class) (db plan_count.tree)) refl
      where
        go : (o : Option Row) → find (is_plan class) (db plan_count.tree) ≡ o
            → (row : Row) × (find (is_plan class) (db plan_count.tree) ≡ Some row)
            × IsCountRow p row
        go None none =
            let r = kept.counts.each p there in
            absurd (true≢false (sym (of_class class p r.0 mine r.2.class)
            ∙ none_has (is_plan class) (db plan_count.tree) none r.0 r.1))
        go (Some row) found =
            let here = find_has (is_plan class) (db plan_count.tree) row found in
            let q = kept.counts.only row here.0 in
            let same : q.0 ≡ p = one_of_class plans faultless q.0 p q.1 there
            (sym (class_of class q.0 row here.1 q.2.class) ∙ mine) in
            (row, found, subst (λ x. IsCountRow x row) same q.2)

    is_listed : plan_in_rows (db price_plan.tree) (db plan_count.tree) class ≡ Some p
    unfolding plan_in_rows
    is_listed =
        let price = price_found in
        let count = count_found in
        let mode : mode_in (column count.0 2) ≡ Some p.count = ap mode_in count.2.mode
        ∙ mode_back p.count in
        ap (λ o. option_and_then (λ row. option_map (plan_in_columns class (columns row))
        (option_and_then (λ r. mode_in (column r 2)) (find (is_plan class) (db plan_count.tree))))
        o) price.1
        ∙ ap (λ o. option_map (plan_in_columns class (columns price.0))
        (option_and_then (λ r. mode_in (column r 2)) o)) count.1
        ∙ ap (option_map (plan_in_columns class (columns price.0))) mode
        ∙ (λ i. Some (record {
          class = mine i;
          block = count_in (price.2.block i);
          unit = count_in (price.2.unit i);
          count = p.count;
        }))

  none_listed : (class : List ℕ) → ((p : Plan) → Has plans p → class ≢ p.class)
      → plan_in_rows (db price_plan.tree) (db plan_count.tree) class ≡ None
  unfolding plan_in_rows
  none_listed class none =
      ap (λ o. option_and_then (λ row. option_map (plan_in_columns class (columns row))
      (option_and_then (λ r. mode_in (column r 2)) (find (is_plan class) (db plan_count.tree)))) o)
      (none_is (is_plan class) (db price_plan.tree) (λ row there. not_true (is_plan class row)
      (λ passes. let p = kept.prices.only row there in
      none p.0 p.1 (class_of class p.0 row passes p.2.class))))

  exactly : (class : List ℕ) → plan_in_rows (db price_plan.tree) (db plan_count.tree) class
      ≡ find (has_class class) plans
  exactly class = go (find (has_class class) plans) refl
    where
      go : (o : Option Plan) → find (has_class class) plans ≡ o
          → plan_in_rows (db price_plan.tree) (db plan_count.tree) class ≡ o
      go None none = none_listed class (λ p there mine. true≢false
          (sym ((Decides-bytes_eq class p.class).1 mine)
          ∙ none_has (has_class class) plans none p there))
      go (Some p) found =
          let here = find_has (has_class class) plans p found in
          is_listed class p here.0 ((Decides-bytes_eq class p.class).0 here.1)

  -- tables that keep these plans list them: each class has the same plan by both
  pub plans_listed : listed_in_tables db ≡ plan_for plans
  plans_listed = λ i class. option_or (exactly class i) (exactly default_class i)
