-- Why a row says what it says of its session's reports.
use Rattle.std.proofs.Common.{◌≡◌, ℕ, ◌≤◌, Bool, true, false, cond, List, [], ◌∷◌, map, max}
use Rattle.std.proofs.Common.{min, refl, sym, ◌∙◌, subst, arith}
use Rattle.std.specs.Prelude.{Option, Some, None, Contains, nat_le, option_map}
use Rattle.std.specs.List.{All}
use Rattle.std.proofs.lemmas.Bool.Decides.{nat_tests}
use Rattle.std.proofs.lemmas.List.Elements.{All-cons, All-weaker, Contains-append_left}
use Rattle.std.proofs.lemmas.List.Elements.{Contains-append_right}
use Rattle.acct_model.specs.declared.plan.Plan.{Plan}
use Rattle.acct_model.specs.Report.{ReportFacts}
use Rattle.acct_model.specs.History.{reports, first_of, largest, plan_of}
use Rattle.acct_book.specs.declared.key.Key.{Key}
use Rattle.acct_book.specs.Row.{RowFacts}
use Rattle.acct_book.specs.Rows.{name_of, smallest, counters, Rank, rank_of, is_above, exceeds}
use Rattle.acct_book.specs.Rows.{greatest, is_restarted, row_from}
use Rattle.acct_book.specs.Laws.{IsAtMost, IsRowOf, RowsAreOfReports}
use Rattle.acct_book.proofs.Rows.{higher-none0, higher-none1}
use Rattle.acct_book.proofs.Ends.{calling_first, address_first}

here : {X : Type 0} (x : X) (xs : List X) → Contains (x ∷ xs) x
here x xs = Contains-append_left (x ∷ []) xs x (0, omega arith, refl)

there : {X : Type 0} (x y : X) (xs : List X) → Contains xs y → Contains (x ∷ xs) y
there x y xs h = Contains-append_right (x ∷ []) xs y h

-- ---- counters

at_most_itself : (a : Rank) → IsAtMost a a
at_most_itself a = record {
  counted = omega arith;
  total = λ e. omega arith;
  input = λ e f. omega arith;
}

at_most_trans : (a b c : Rank) → IsAtMost a b → IsAtMost b c → IsAtMost a c
at_most_trans a b c h k = record {
  counted = omega (arith, h.counted, k.counted);
  total = λ e.
      let ab : a.counted ≡ b.counted = omega (arith, h.counted, k.counted, e) in
      let bc : b.counted ≡ c.counted = omega (arith, h.counted, k.counted, e) in
      omega (arith, h.total ab, k.total bc);
  input = λ e f.
      let ab : a.counted ≡ b.counted = omega (arith, h.counted, k.counted, e) in
      let bc : b.counted ≡ c.counted = omega (arith, h.counted, k.counted, e) in
      let ab' : a.total ≡ b.total = omega (arith, h.total ab, k.total bc, f) in
      let bc' : b.total ≡ c.total = omega (arith, h.total ab, k.total bc, f) in
      omega (arith, h.input ab ab', k.input bc bc');
}

abbrev rank : ℕ → ℕ → ℕ → Rank
rank n t i = record { counted = n; total = t; input = i }

over_at : (n t i m u j : ℕ) → is_above (rank n t i) (rank m u j) ≡ true
    → IsAtMost (rank m u j) (rank n t i)
over_at n t i m u j e = record {
  counted = grind (arith, nat_tests);
  total = λ s. grind (arith, nat_tests);
  input = λ s v. grind (arith, nat_tests);
}

under_at : (n t i m u j : ℕ) → is_above (rank n t i) (rank m u j) ≡ false
    → IsAtMost (rank n t i) (rank m u j)
under_at n t i m u j e = record {
  counted = grind (arith, nat_tests);
  total = λ s. grind (arith, nat_tests);
  input = λ s v. grind (arith, nat_tests);
}

module _ (plan : Option Plan) where
  abbrev placed : ℕ × ℕ → Rank
  placed a = rank_of plan a

  left_at : (a b : ℕ × ℕ) (x : Bool) → exceeds plan a b ≡ x
      → IsAtMost (placed a) (placed (cond x a b))
  left_at a b true e = at_most_itself (placed a)
  left_at a b false e =
      under_at (placed a).counted (placed a).total (placed a).input (placed b).counted
      (placed b).total (placed b).input e

  right_at : (a b : ℕ × ℕ) (x : Bool) → exceeds plan a b ≡ x
      → IsAtMost (placed b) (placed (cond x a b))
  right_at a b true e =
      over_at (placed a).counted (placed a).total (placed a).input (placed b).counted
      (placed b).total (placed b).input e
  right_at a b false e = at_most_itself (placed b)

  none_above : (rs : List ReportFacts)
      → All (λ r. IsAtMost (placed (counters r)) (placed (greatest plan rs))) rs
  none_above [] = λ k d h. absurd (omega (arith, h))
  none_above (r ∷ rs) =
      let top = greatest plan (r ∷ rs) in
      let test = exceeds plan (counters r) (greatest plan rs) in
      All-cons (λ x. IsAtMost (placed (counters x)) (placed top)) r rs
      (left_at (counters r) (greatest plan rs) test refl)
      (All-weaker (λ x. IsAtMost (placed (counters x)) (placed (greatest plan rs)))
      (λ x. IsAtMost (placed (counters x)) (placed top))
      (λ x h. at_most_trans (placed (counters x)) (placed (greatest plan rs)) (placed top) h
      (right_at (counters r) (greatest plan rs) test refl)) rs (none_above rs))

abbrev Counted : List ReportFacts → ℕ × ℕ → Type 0
Counted rs c = (r : ReportFacts) × Contains rs r × (counters r ≡ c)

counted_at : (r : ReportFacts) (rs : List ReportFacts) (g : ℕ × ℕ) (x : Bool) → Counted rs g
    → Counted (r ∷ rs) (cond x (counters r) g)
counted_at r rs g true h = (r, here r rs, refl)
counted_at r rs g false h = (h.0, there r h.0 rs h.1, h.2)

counted : (plan : Option Plan) (r : ReportFacts) (rs : List ReportFacts)
    → Counted (r ∷ rs) (greatest plan (r ∷ rs))
counted plan r [] = (
  r,
  here r [],
  λ i. (
    sym (higher-none0 plan r.input r.output) i,
    sym (higher-none1 plan r.input r.output) i,
  ),
)
counted plan r (o ∷ os) = counted_at r (o ∷ os) (greatest plan (o ∷ os))
    (exceeds plan (counters r) (greatest plan (o ∷ os))) (counted plan o os)

-- ---- least and greatest numbers

abbrev Said : (ReportFacts → ℕ) → List ReportFacts → ℕ → Type 0
Said f rs n = (r : ReportFacts) × Contains rs r × (f r ≡ n)

abbrev at_top : ℕ → ℕ → Bool
at_top n m = nat_le m n

max_left : (n m : ℕ) → at_top n m ≡ true → n ≡ max n m
max_left n m e = grind (arith, nat_tests)

max_right : (n m : ℕ) → at_top n m ≡ false → m ≡ max n m
max_right n m e = grind (arith, nat_tests)

min_left : (n m : ℕ) → at_top n m ≡ false → n ≡ min n m
min_left n m e = grind (arith, nat_tests)

min_right : (n m : ℕ) → at_top n m ≡ true → m ≡ min n m
min_right n m e = grind (arith, nat_tests)

max_at : (f : ReportFacts → ℕ) (r : ReportFacts) (rs : List ReportFacts) (m : ℕ) (x : Bool)
    → at_top (f r) m ≡ x → Said f rs m → Said f (r ∷ rs) (max (f r) m)
max_at f r rs m true e h = (r, here r rs, max_left (f r) m e)
max_at f r rs m false e h = (h.0, there r h.0 rs h.1, h.2 ∙ max_right (f r) m e)

min_at : (f : ReportFacts → ℕ) (r : ReportFacts) (rs : List ReportFacts) (m : ℕ) (x : Bool)
    → at_top (f r) m ≡ x → Said f rs m → Said f (r ∷ rs) (min (f r) m)
min_at f r rs m true e h = (h.0, there r h.0 rs h.1, h.2 ∙ min_right (f r) m e)
min_at f r rs m false e h = (r, here r rs, min_left (f r) m e)

largest_said : (f : ReportFacts → ℕ) (r : ReportFacts) (rs : List ReportFacts)
    → Said f (r ∷ rs) (largest (map f (r ∷ rs)))
largest_said f r [] = (r, here r [], omega arith)
largest_said f r (o ∷ os) = max_at f r (o ∷ os) (largest (map f (o ∷ os)))
    (at_top (f r) (largest (map f (o ∷ os)))) refl (largest_said f o os)

smallest_said : (f : ReportFacts → ℕ) (r : ReportFacts) (rs : List ReportFacts)
    → Said f (r ∷ rs) (smallest (map f (r ∷ rs)))
smallest_said f r [] = (r, here r [], refl)
smallest_said f r (o ∷ os) = min_at f r (o ∷ os) (smallest (map f (o ∷ os)))
    (at_top (f r) (smallest (map f (o ∷ os)))) refl (smallest_said f o os)

none_larger : (f : ReportFacts → ℕ) (rs : List ReportFacts) → All (λ r. f r ≤ largest (map f rs)) rs
none_larger f [] = λ k d h. absurd (omega (arith, h))
none_larger f (r ∷ rs) =
    let top = largest (map f (r ∷ rs)) in
    All-cons (λ x. f x ≤ top) r rs (omega arith) (All-weaker (λ x. f x ≤ largest (map f rs))
    (λ x. f x ≤ top) (λ x h. omega (arith, h)) rs (none_larger f rs))

none_smaller : (f : ReportFacts → ℕ) (rs : List ReportFacts)
    → All (λ r. smallest (map f rs) ≤ f r) rs
none_smaller f [] = λ k d h. absurd (omega (arith, h))
none_smaller f (r ∷ []) = All-cons (λ x. f r ≤ f x) r [] (omega arith)
    (λ k d h. absurd (omega (arith, h)))
none_smaller f (r ∷ o ∷ os) =
    let low = smallest (map f (r ∷ o ∷ os)) in
    All-cons (λ x. low ≤ f x) r (o ∷ os) (omega arith) (All-weaker
    (λ x. smallest (map f (o ∷ os)) ≤ f x) (λ x. low ≤ f x) (λ x h. omega (arith, h)) (o ∷ os)
    (none_smaller f (o ∷ os)))

-- ---- the row

row_at : (plan : Option Plan) (key : Key) (b : Bool) (r : ReportFacts) (rs : List ReportFacts)
    (x : ReportFacts)
    → first_of (r ∷ rs) ≡ Some x → IsRowOf plan (r ∷ rs) (row_from plan key b (r ∷ rs) x)
row_at plan key b r rs x is = record {
  first = x;
  is_first = is;
  account = refl;
  class = refl;
  plan = refl;
  counted = counted plan r rs;
  none_above = none_above plan (r ∷ rs);
  longest = record {
    said = largest_said (λ y. y.seconds) r rs;
    bounded = none_larger
        (λ y. y.seconds) (r ∷ rs);
  };
  earliest = record {
    said = smallest_said (λ y. y.when) r rs;
    bounded = none_smaller (λ y. y.when)
        (r ∷ rs);
  };
  latest = record {
    said = largest_said (λ y. y.when) r rs;
    bounded = none_larger (λ y. y.when)
        (r ∷ rs);
  };
  calling = calling_first (r ∷ rs);
  address = address_first (r ∷ rs);
}

row_for : (plan : Option Plan) (key : Key) (b : Bool) (all : List ReportFacts) (row : RowFacts)
    (o : Option ReportFacts)
    → first_of all ≡ o → option_map (row_from plan key b all) o ≡ Some row → IsRowOf plan all row
row_for plan key b all row None is e = absurd (cc)
row_for plan key b [] row (Some x) is e = absurd (cc)
row_for plan key b (r ∷ rs) row (Some x) is e = subst (IsRowOf plan (r ∷ rs))
    (some_is (row_from plan key b (r ∷ rs) x) row e) (row_at plan key b r rs x is)
  where
    some_is : (p q : RowFacts) → Some p ≡ Some q → p ≡ q
    some_is p q h = cc

pub rows_are : RowsAreOfReports
rows_are plans history key row is = let all = reports history (name_of key) in
    row_for (plan_of plans history (name_of key)) key (is_restarted history key) all row
    (first_of all) refl is
