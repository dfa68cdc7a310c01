-- Plans that are added to those that a book keeps.
use Rattle.std.proofs.Common.{◌≡◌, ◌≢◌, ◌⊎◌, inl, inr, ℕ, pos, Bool, true, false, not, cond, List}
use Rattle.std.proofs.Common.{[], ◌∷◌, ◌++◌, length, None, take, refl, sym, ap, subst, ◌∙◌}
use Rattle.std.proofs.Common.{Contains, IsTrue, ◌↔◌, ◌+◌, ◌<◌, arith, get_or, true≢false}
use Rattle.std.specs.List.{list_any, filter}
use Rattle.std.proofs.lemmas.List.{take_more, length-append}
use Rattle.sqlite.specs.declared.types.Value.{Value}
use Rattle.sqlite.specs.declared.types.Value.TheVariants.{Int, Blob}
use Rattle.sqlite.specs.Order.{Row, column}
use Rattle.sqlite.specs.Tree.{Trees}
use Rattle.sqlite.specs.Effect.{Database}
use Rattle.sqlite.specs.Store.{Ghosts}
use Rattle.sqlite.specs.Held.{Held, state}
use Rattle.sqlite.specs.State.{State, Shown}
use Rattle.sqlite_rules.specs.Lists.{Has}
use Rattle.sqlite_rules.proofs.ListLemmas.{has_left, has_right, has_either, has_contained}
use Rattle.sqlite_rules.proofs.ListLemmas.{contains_had, some_has, some_from, all_has, all_from}
use Rattle.acct_model.specs.declared.plan.Plan.{Plan}
use Rattle.acct_model.specs.declared.plan.Count.{Count}
use Rattle.acct_model.specs.declared.plan.Count.TheVariants.{Both, Input, Output}
use Rattle.acct_model.specs.Plans.{Extends, has_class, plans_added}
use Rattle.acct_model.specs.PlanFaults.{plans_fault}
use Rattle.std.proofs.lemmas.List.Elements.{All-contains}
use Rattle.acct_model.proofs.Lists.{all_listed}
use Rattle.acct_model.proofs.Same.{Decides-bytes_eq}
use Rattle.acct_sql_tables.specs.Tables.{book_schema, plan_count, own_number}
use Rattle.acct_sql_tables.specs.declared.plan_table.PlanTable.TheVariants.{Prices, Counts}
use Rattle.acct_sql_tables.specs.Make.{KeepsPrices, KeepsCounts, KeepsPlans}
use Rattle.acct_sql_tables.specs.Make.{mode_of}
use Rattle.acct_sql_tables.specs.Look.{HasNumberAlone}
use Rattle.acct_sql_tables.specs.declared.sql_book_error.SqlBookError.{SqlBookError}
use Rattle.acct_sql_tables.specs.declared.sql_book_error.SqlBookError.TheVariants.{NotABook}
use Rattle.acct_sql_tables.specs.declared.sql_book_error.SqlBookError.TheVariants.{PlansDiffer}
use Rattle.acct_sql_tables.specs.declared.sql_book_error.SqlBookError.TheVariants.{WrongSchema}
use Rattle.acct_sql_tables.specs.declared.sql_book_error.SqlBookError.TheVariants.{Unavailable}
use Rattle.acct_sql_tables.specs.Book.{IsBook}
use Rattle.acct_sql_upkeep.specs.Add.{AreExtended, HasAdded, IsNotAddedAs}
use Rattle.acct_sql_tables.specs.inner.Inside.{HasBecome}
use Rattle.acct_sql_tables.specs.inner.Looked.{IsShownIn, IsPlanFault, IsNumberFault}
use Rattle.acct_sql_tables.specs.inner.Looked.{IsUnknownFault}
use Rattle.acct_sql_tables.specs.inner.NewBook.{HasPlansOver}
use Rattle.acct_sql_upkeep.specs.inner.Adding.{IsCounted, ShowsPrices, AreAmong, AreShownOf}
use Rattle.acct_sql_upkeep.specs.inner.Adding.{AnswersFit, ShowsClassesOf}
use Rattle.acct_sql_tables.specs.declared.statements.TheConstants as texts
use Rattle.acct_sql_upkeep.proofs.PlanLemmas.{price_of_shown, shown_of_price, prices_shown}
use Rattle.acct_sql_upkeep.proofs.PlanLemmas.{shown_prices}
use Rattle.acct_sql_upkeep.proofs.PlanLemmas.{count_of_shown, shown_of_count, all_counts_shown}
use Rattle.acct_sql_upkeep.proofs.PlanLemmas.{all_shown_counts}
use Rattle.acct_sql_tables.proofs.CreateLemmas.{content_keeping}
use Rattle.acct_sql_tables.proofs.ListedLemmas.{one_of_class}
use Rattle.acct_sql_tables.proofs.MigrateLemmas.{alone_same}

-- ---- one plan for each class

blob_is : (b c : List ℕ) → ◌≡◌ {A = Value} (Blob b) (Blob c) → b ≡ c
blob_is b c e = cc

number_is : (m n : ℕ) → ◌≡◌ {A = Value} (Int (pos m)) (Int (pos n)) → m ≡ n
number_is m n e = cc

count_is : (a b : Count) → mode_of a ≡ mode_of b → a ≡ b
count_is Both Both e = refl
count_is Both Input e = absurd (omega (arith, e))
count_is Both Output e = absurd (omega (arith, e))
count_is Input Both e = absurd (omega (arith, e))
count_is Input Input e = refl
count_is Input Output e = absurd (omega (arith, e))
count_is Output Both e = absurd (omega (arith, e))
count_is Output Input e = absurd (omega (arith, e))
count_is Output Output e = refl

module _ (plans : List Plan) (db : Trees) (faultless : plans_fault plans ≡ None) where
  unique : (p q : Plan) → Has plans p → Has plans q → p.class ≡ q.class → p ≡ q
  unique = one_of_class plans faultless

  -- two plans of one price row, or of one count row, have one class
  same_class : (p q : Plan) (row : Row) → column row 1 ≡ Blob p.class → column row 1 ≡ Blob q.class
      → p.class ≡ q.class
  same_class p q row one other = blob_is p.class q.class (sym one ∙ other)

  -- if the tables keep plans that these extend, each kept plan is one of these
  pub among_extended : AreExtended plans db → AreAmong plans db
  among_extended it =
      let into = λ (o : Plan). λ (there : Has it.old o). has_contained plans o
      (All-contains (λ p. Contains plans p) it.old o it.extended (contains_had it.old o there)) in
      record {
        prices = λ row there. let o = it.kept.prices.only row there in (o.0, into o.0 o.1, o.2);
        counts = λ row there. let o = it.kept.counts.only row there in (o.0, into o.0 o.1, o.2);
        both = λ p there. (
          λ r. let o = it.kept.prices.only r.0 r.1 in
              let same = unique o.0 p (into o.0 o.1) there
              (same_class o.0 p r.0 o.2.class r.2.class) in
              it.kept.counts.each p (subst (Has it.old) same o.1),
          λ r. let o = it.kept.counts.only r.0 r.1 in
              let same = unique o.0 p (into o.0 o.1) there
              (same_class o.0 p r.0 o.2.class r.2.class) in
              it.kept.prices.each p (subst (Has it.old) same o.1),
        );
      }

  module _ (among : AreAmong plans db) where
    -- these extend any plans that the tables keep
    module _ (old : List Plan) (kept : KeepsPlans old db) where
      of_old : (o : Plan) → Has old o → Has plans o
      of_old o there =
          let r = kept.prices.each o there in
          let p = among.prices r.0 r.1 in
          let c = kept.counts.each o there in
          let q = among.counts c.0 c.1 in
          let class : p.0.class ≡ o.class = same_class p.0 o r.0 p.2.class r.2.class in
          let one : p.0 ≡ q.0 = unique p.0 q.0 p.1 q.1
          (class ∙ sym (same_class q.0 o c.0 q.2.class c.2.class)) in
          let block : p.0.block ≡ o.block = number_is p.0.block o.block
          (sym p.2.block ∙ r.2.block) in
          let unit : p.0.unit ≡ o.unit = number_is p.0.unit o.unit (sym p.2.unit ∙ r.2.unit) in
          let count : p.0.count ≡ o.count = ap (λ (x : Plan). x.count) one
          ∙ count_is q.0.count o.count (number_is (mode_of q.0.count) (mode_of o.count)
          (sym q.2.mode ∙ c.2.mode)) in
          subst (Has plans) (λ i. record {
            class = class i;
            block = block i;
            unit = unit i;
            count = count i;
          }) p.1

      pub old_extended : Extends plans old
      old_extended = all_listed (λ p. Contains plans p) old
          (λ o there. contains_had plans o (of_old o (has_contained old o there)))

      -- and an answer shows those whose classes they have
      pub old_classes : (rows : List Row) → ShowsPrices db rows → ShowsClassesOf old rows plans
      old_classes rows told = all_from _ plans (λ p there. (
        λ shown.
            let r = (told p).0 shown in
            let o = kept.prices.only r.0 r.1 in
            some_from (has_class p.class) old o.0 o.1
            ((Decides-bytes_eq p.class o.0.class).1 (same_class p o.0 r.0 r.2.class o.2.class)),
        λ listed.
            let o = some_has (has_class p.class) old listed in
            let class : p.class ≡ o.0.class = (Decides-bytes_eq p.class o.0.class).0 o.2 in
            let same : o.0 ≡ p = unique o.0 p (of_old o.0 o.1) there (sym class) in
            (told p).1 (kept.prices.each p (subst (Has old) same o.1)),
      ))

-- the plans that are shown are what the tables keep
module _ (plans : List Plan) (db : Trees) (among : AreAmong plans db) (rows : List Row)
    (told : ShowsPrices db rows) (shown : List Plan) (those : AreShownOf plans rows shown) where
  pub shown_kept : KeepsPlans shown db
  shown_kept = record {
    prices = record {
      each = λ p there. (told p).0 ((those p).0 there).1;
      only = λ row there. let p = among.prices row there in
          (p.0, (those p.0).1 (p.1, (told p.0).1 (row, there, p.2)), p.2);
    };
    counts = record {
      each = λ p there. let it = (those p).0 there in (among.both p it.0).0 ((told p).0 it.1);
      only = λ row there.
          let p = among.counts row there in
          let priced = (among.both p.0 p.1).1 (row, there, p.2) in
          (p.0, (those p.0).1 (p.1, (told p.0).1 priced), p.2);
    };
  }

  pub shown_extended : AreExtended plans db
  shown_extended = record {
    old = shown;
    kept = shown_kept;
    extended = all_listed (λ p. Contains plans p) shown
        (λ p there. contains_had plans p ((those p).0 (has_contained shown p there)).0);
  }

-- ---- the tables of plans by their members

same_prices : (these those : List Plan) (db : Trees) → ((p : Plan) → Has these p → Has those p)
    → ((p : Plan) → Has those p → Has these p) → KeepsPrices these db → KeepsPrices those db
same_prices these those db up down kept = record {
  each = λ p there. kept.each p (down p there);
  only = λ row there. let p = kept.only row there in (p.0, up p.0 p.1, p.2);
}

same_counts : (these those : List Plan) (db : Trees) → ((p : Plan) → Has these p → Has those p)
    → ((p : Plan) → Has those p → Has these p) → KeepsCounts these db → KeepsCounts those db
same_counts these those db up down kept = record {
  each = λ p there. kept.each p (down p there);
  only = λ row there. let p = kept.only row there in (p.0, up p.0 p.1, p.2);
}

-- plans with the same members are kept
pub same_members : (c : Database) (first : Trees) (these those : List Plan) (s : State)
    → ((p : Plan) → Has these p → Has those p) → ((p : Plan) → Has those p → Has these p)
    → HasPlansOver c first these s → HasPlansOver c first those s
same_members c first these those s up down t = record {
  on = t.on;
  book = t.book;
  metas = t.metas;
  accounts = t.accounts;
  vouchers = t.vouchers;
  sessions = t.sessions;
  session_plans = t.session_plans;
  prices_kept = same_prices these those s.now.trees up down t.prices_kept;
  counts_kept = same_counts these those s.now.trees up down t.counts_kept;
}

-- one that is there already may be written once more
pub plan_there : (c : Database) (first : Trees) (plans : List Plan) (plan : Plan) (s : State)
    → Has plans plan → HasPlansOver c first plans s → HasPlansOver c first (plans ++ plan ∷ []) s
plan_there c first plans plan s there = same_members c first plans (plans ++ plan ∷ []) s
    (λ p h. has_left plans (plan ∷ []) p h)
    (λ p h. elim (has_either plans (plan ∷ []) p h) [
      | inl was ↦ was
      | inr last ↦ elim last
          [ inl same ↦ subst (Has plans) (sym same) there | inr none ↦ absurd none ]
    ])

-- all of them were added
pub all_added : (c : Database) (first : Trees) (shown plans : List Plan) (s : State)
    → plans_fault plans ≡ None → ((p : Plan) → Has shown p → Has plans p)
    → HasNumberAlone own_number first
    → HasPlansOver c first (shown ++ plans) s → HasAdded plans first s.now.trees
all_added c first shown plans s faultless among number t =
    let up : (p : Plan) → Has (shown ++ plans) p → Has plans p =
    λ p h. elim (has_either shown plans p h) [ inl was ↦ among p was | inr now ↦ now ] in
    let down : (p : Plan) → Has plans p → Has (shown ++ plans) p =
    λ p h. has_right shown plans p h in
    let kept : KeepsPlans plans s.now.trees = record {
      prices = same_prices (shown ++ plans) plans s.now.trees up down t.prices_kept;
      counts = same_counts (shown ++ plans) plans s.now.trees up down t.counts_kept;
    } in
    record {
      content = content_keeping plans first s.now.trees faultless kept t.sessions t.accounts
          t.vouchers t.session_plans;
      number = alone_same own_number first s.now.trees t.metas number;
      plans_kept = kept;
    }

-- ---- the answers for both tables

module _ (a b c d : State) (prices counts : List Row) (plans : List Plan)
    (has : a.now.schema ≡ book_schema) (same : c.now ≡ a.now)
    (one : Shown texts.PLANS.now [] a b prices)
    (two : Shown texts.PLAN_COUNTS.now [] c d counts) where
  abbrev has_then : c.now.schema ≡ book_schema
  has_then = ap (λ (d : Database). d.schema) same ∙ has

  rows_then : c.now.trees plan_count.tree ≡ a.now.trees plan_count.tree
  rows_then = ap (λ (d : Database). d.trees plan_count.tree) same

  counted_then : (p : Plan) → IsCounted p c.now.trees → IsCounted p a.now.trees
  counted_then p r = (r.0, subst (λ rows. Has rows r.0) rows_then r.1, r.2)

  counted_before : (p : Plan) → IsCounted p a.now.trees → IsCounted p c.now.trees
  counted_before p r = (r.0, subst (λ rows. Has rows r.0) (sym rows_then) r.1, r.2)

  pub prices_told : ShowsPrices a.now.trees prices
  prices_told p = (
    price_of_shown a b prices plans (inl has) one p,
    shown_of_price a b prices plans (inl has) one p,
  )

  pub fit_among : AnswersFit plans prices counts → AreAmong plans a.now.trees
  fit_among fit = record {
    prices = prices_shown a b prices plans (inl has) one fit.of_prices;
    counts = λ row there. all_counts_shown c d counts plans (inl has_then) two fit.of_counts row
        (subst (λ rows. Has rows row) (sym rows_then) there);
    both = λ p there.
        let it = all_has (λ p. IsShownIn Prices prices p ↔ IsShownIn Counts counts p) plans p
        fit.both there in (
          λ r. counted_then p (count_of_shown c d counts plans (inl has_then) two p
              (it.0 ((prices_told p).1 r))),
          λ r. (prices_told p).0 (it.1 (shown_of_count c d counts plans (inl has_then) two p
              (counted_before p r))),
        );
  }

  pub among_fit : AreAmong plans a.now.trees → AnswersFit plans prices counts
  among_fit among = record {
    of_prices = shown_prices a b prices plans (inl has) one among.prices;
    of_counts = all_shown_counts c d counts plans (inl has_then) two
        (λ row there. among.counts row (subst (λ rows. Has rows row) rows_then there));
    both = all_from (λ p. IsShownIn Prices prices p ↔ IsShownIn Counts counts p) plans
        (λ p there. (
          λ shown. shown_of_count c d counts plans (inl has_then) two p (counted_before p
              ((among.both p there).0 ((prices_told p).0 shown))),
          λ shown. (prices_told p).1 ((among.both p there).1 (counted_then p
              (count_of_shown c d counts plans (inl has_then) two p shown))),
        ));
  }

-- ---- how many they are

taken : (plans : List Plan) (at : ℕ) (plan : Plan) → at < length plans → plan ≡ get_or plans at plan
    → take (at + 1) plans ≡ take at plans ++ plan ∷ []
taken plans at plan within is = take_more plans at plan within
    ∙ ap (λ plan. take at plans ++ plan ∷ []) (sym is)

-- one more of the plans
more_shown : (prices : List Row) (front : List Plan) (plan : Plan) (shown : List Plan)
    → AreShownOf front prices shown → IsShownIn Prices prices plan
    → AreShownOf (front ++ plan ∷ []) prices (shown ++ plan ∷ [])
more_shown prices front plan shown those is p = (
  λ h. elim (has_either shown (plan ∷ []) p h) [
    | inl was ↦ let it = (those p).0 was in (has_left front (plan ∷ []) p it.0, it.1)
    | inr last ↦ elim last [
      | inl same ↦ (
        has_right front (plan ∷ []) p (inl same),
        subst (IsShownIn Prices prices) (sym same) is,
      )
      | inr none ↦ absurd none
    ]
  ],
  λ h. elim (has_either front (plan ∷ []) p h.0) [
    | inl was ↦ has_left shown (plan ∷ []) p ((those p).1 (was, h.1))
    | inr last ↦ has_right shown (plan ∷ []) p last
  ],
)

-- or one that is not shown
fewer_shown : (prices : List Row) (front : List Plan) (plan : Plan) (shown : List Plan)
    → AreShownOf front prices shown → ¬ (IsShownIn Prices prices plan)
    → AreShownOf (front ++ plan ∷ []) prices shown
fewer_shown prices front plan shown those gone p = (
  λ h. let it = (those p).0 h in (has_left front (plan ∷ []) p it.0, it.1),
  λ h. elim (has_either front (plan ∷ []) p h.0) [
    | inl was ↦ (those p).1 (was, h.1)
    | inr last ↦ elim last [
      | inl same ↦ absurd (gone (subst (IsShownIn Prices prices) same h.1))
      | inr none ↦ absurd none
    ]
  ],
)

pub shown_more : (prices : List Row) (plans : List Plan) (at : ℕ) (plan : Plan)
    → at < length plans → plan ≡ get_or plans at plan
    → (shown : List Plan) × AreShownOf (take at plans) prices shown
    → IsShownIn Prices prices plan ⊎ ¬ (IsShownIn Prices prices plan)
    → (shown : List Plan) × AreShownOf (take (at + 1) plans) prices shown
shown_more prices plans at plan within is before (inl here) = (
  before.0 ++ plan ∷ [],
  subst (λ l. AreShownOf l prices (before.0 ++ plan ∷ [])) (sym (taken plans at plan within is))
      (more_shown prices (take at plans) plan before.0 before.1 here),
)
shown_more prices plans at plan within is before (inr gone) = (
  before.0,
  subst (λ l. AreShownOf l prices before.0) (sym (taken plans at plan within is))
      (fewer_shown prices (take at plans) plan before.0 before.1 gone),
)

filter_more : {X : Type 0} (p : X → Bool) (xs ys : List X) → filter p (xs ++ ys)
    ≡ filter p xs ++ filter p ys
filter_more p [] ys = refl
filter_more p (x ∷ xs) ys = go (p x) (filter_more p xs ys)
  where
    go : (b : Bool) → filter p (xs ++ ys) ≡ filter p xs ++ filter p ys
        → cond b (x ∷ filter p (xs ++ ys)) (filter p (xs ++ ys))
        ≡ cond b (x ∷ filter p xs) (filter p xs) ++ filter p ys
    go true rest = ap (λ l. x ∷ l) rest
    go false rest = rest

added_one : (old front : List Plan) (plan : Plan) (b : Bool)
    → list_any (has_class plan.class) old ≡ b
    → length (plans_added old (front ++ plan ∷ []))
    ≡ length (plans_added old front) + cond b 0 1
added_one old front plan b is =
    ap length (filter_more (λ p. not (list_any (has_class p.class) old)) front (plan ∷ []))
    ∙ (length-append (plans_added old front) _
    ∙ ap (λ n. length (plans_added old front) + n) (one b is))
  where
    one : (b : Bool) → list_any (has_class plan.class) old ≡ b
        → length (plans_added old (plan ∷ [])) ≡ cond b 0 1
    one true is = rw is refl
    one false is = rw is refl

is_false : (b : Bool) → (IsTrue b → ⊥) → b ≡ false
is_false true never = absurd (never refl)
is_false false never = refl

pub number_more : (prices : List Row) (plans : List Plan) (at count : ℕ) (plan : Plan) (b : Bool)
    → at < length plans → plan ≡ get_or plans at plan → (IsTrue b ↔ IsShownIn Prices prices plan)
    → ((old : List Plan) → ShowsClassesOf old prices (take at plans)
    → count ≡ length (plans_added old (take at plans)))
    → (old : List Plan) → ShowsClassesOf old prices (take (at + 1) plans)
    → count + cond b 0 1 ≡ length (plans_added old (take (at + 1) plans))
number_more prices plans at count plan b within is test before old all =
    let more = taken plans at plan within is in
    let all' = subst (ShowsClassesOf old prices) more all in
    let early = all_from (λ p. IsShownIn Prices prices p
    ↔ IsTrue (list_any (has_class p.class) old)) (take at plans) (λ p there.
    all_has (λ p. IsShownIn Prices prices p ↔ IsTrue (list_any (has_class p.class) old))
    (take at plans ++ plan ∷ []) p all' (has_left (take at plans) (plan ∷ []) p there)) in
    let here = all_has (λ p. IsShownIn Prices prices p
    ↔ IsTrue (list_any (has_class p.class) old)) (take at plans ++ plan ∷ []) plan all'
    (has_right (take at plans) (plan ∷ []) plan (inl refl)) in
    ap (λ n. n + cond b 0 1) (before old early)
    ∙ (sym (added_one old (take at plans) plan b (said b test here))
    ∙ ap (λ l. length (plans_added old l)) (sym more))
  where
    said : (b : Bool) → (IsTrue b ↔ IsShownIn Prices prices plan)
        → (IsShownIn Prices prices plan ↔ IsTrue (list_any (has_class plan.class) old))
        → list_any (has_class plan.class) old ≡ b
    said true test here = here.0 (test.0 refl)
    said false test here = is_false (list_any (has_class plan.class) old)
        (λ listed. true≢false (sym (test.1 (here.1 listed))))

-- ---- why they are not added

pub not_added : (plans : List Plan) (db : Database) (e : SqlBookError) → plans_fault plans ≡ None
    → db.schema ≡ book_schema → HasNumberAlone own_number db.trees
    → IsPlanFault (AreAmong plans db.trees) e → IsNotAddedAs plans db e
not_added plans db NotABook faultless has number never = absurd never
not_added plans db (WrongSchema n) faultless has number never = absurd never
not_added plans db PlansDiffer faultless has number differ = (
  has,
  number,
  λ it. differ (among_extended plans db.trees faultless it),
)
not_added plans db Unavailable faultless has number it = tt

pub number_not_added : (plans : List Plan) (db : Database) (e : SqlBookError)
    → IsNumberFault own_number db.trees e → IsNotAddedAs plans db e
number_not_added plans db NotABook none = λ _. none
number_not_added plans db (WrongSchema n) other = (other.0, λ _. other.1)
number_not_added plans db PlansDiffer never = absurd never
number_not_added plans db Unavailable it = tt

pub other_not_added : (plans : List Plan) (db : Database) (e : SqlBookError)
    → db.schema ≢ book_schema → IsUnknownFault own_number e → IsNotAddedAs plans db e
other_not_added plans db NotABook other it = λ has. absurd (other has)
other_not_added plans db (WrongSchema n) other it = (it, λ has. absurd (other has))
other_not_added plans db PlansDiffer other never = absurd never
other_not_added plans db Unavailable other it = tt

-- ---- the transaction

pub added_all : {S : Type 0} (g : Ghosts S) (old : Held S) (mid : State) (plans : List Plan)
    (rows : List Row) (shown : List Plan) → plans_fault plans ≡ None → IsTrue (state g old).is_open
    → (state g old).now ≡ (state g old).committed → IsBook (state g old).now
    → HasNumberAlone own_number (state g old).now.trees → AreAmong plans (state g old).now.trees
    → ShowsPrices (state g old).now.trees rows → AreShownOf plans rows shown
    → ((c : Database) (first : Trees) (kept : List Plan) → AreShownOf plans rows kept
    → HasPlansOver c first kept (state g (record old { in_transaction = true }))
    → HasPlansOver c first (kept ++ plans) mid) → HasBecome (HasAdded plans) mid
added_all g old mid plans rows shown faultless o settled book number among told those f =
    let s = state g (record old { in_transaction = true }) in
    let kept = shown_kept plans s.now.trees among rows told shown those in
    let t = f s.committed s.now.trees shown those (record {
      on = record { is_open = o; mode = refl; committed_is = refl };
      book = book;
      metas = refl;
      accounts = refl;
      vouchers = refl;
      sessions = refl;
      session_plans = refl;
      prices_kept = kept.prices;
      counts_kept = kept.counts;
    }) in
    record {
      is_open = t.on.is_open;
      mode = t.on.mode;
      book = t.book;
      is = subst (λ (d : Database). HasAdded plans d.trees mid.now.trees)
          (settled ∙ sym t.on.committed_is)
          (all_added s.committed s.now.trees shown plans mid faultless
          (λ p h. ((those p).0 h).0) number t);
    }
