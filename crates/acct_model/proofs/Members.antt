-- Which elements lists have: `distinct`, the reports and the top-ups of a history.
use Rattle.std.proofs.Common.{◌≡◌, ℕ, ◌≤◌, ◌⊎◌, inl, inr, Bool, true, false, cond, ◌||◌, List, []}
use Rattle.std.proofs.Common.{◌∷◌, ◌++◌, map, refl, sym, ◌∙◌, ap, subst, arith, true≢false}
use Rattle.std.proofs.lemmas.Map.Keys.{IsDistinct-cons}
use Rattle.std.specs.Prelude.{Contains, IsTrue, bytes_eq, max, Option, Some, None}
use Rattle.std.proofs.lemmas.Bool.{cases_lt}
use Rattle.std.specs.Bool.{Decides}
use Rattle.std.specs.List.{list_any, IsDistinct, AllByRecursion}
use Rattle.std.specs.Option.{option_or}
use Rattle.acct_model.specs.declared.plan.Plan.{Plan}
use Rattle.acct_model.specs.Report.{ReportFacts}
use Rattle.acct_model.specs.History.{History, SessionName, session_of, same_session, all_reports}
use Rattle.acct_model.specs.History.{reports, distinct, sessions, first_of, is_owner, counted_of}
use Rattle.acct_model.specs.History.{greatest_counted, all_topups, topups, voucher_of, same_voucher}
use Rattle.acct_model.specs.History.{is_known}
use Rattle.acct_model.specs.Laws.{OwnsSession, OwnsVoucher, GreatestCountIsReached}
use Rattle.acct_model.specs.Laws.{SessionsAreReported, VouchersAreToppedUp, KnownAccountsOwn}
use Rattle.acct_model.proofs.Same.{Decides-bytes_eq, Decides-same_session, Decides-same_voucher}
use Rattle.acct_model.proofs.Known.{owns}
use Rattle.acct_model.proofs.Lists.{here, deeper, nowhere, front_or_behind, from_map, to_map}
use Rattle.acct_model.proofs.Lists.{from_filter, to_filter, none_same, some_same, found_same}

-- ---- each element once

module _ {X : Type 0} (same : X → X → Bool) (decides : (a b : X) → Decides (same a b) (a ≡ b)) where
  from_distinct : (xs : List X) (y : X) → Contains (distinct same xs) y → Contains xs y
  from_distinct [] y h = h
  from_distinct (x ∷ xs) y h =
      elim (list_any (same x) xs) as (λ b.
      Contains (cond b (distinct same xs) (x ∷ distinct same xs)) y → Contains (x ∷ xs) y) [
        | true ↦ λ k. deeper x y xs (from_distinct xs y k)
        | false ↦ λ k. elim (front_or_behind x y (distinct same xs) k) [
          | inl is ↦ subst (λ v. Contains (x ∷ xs) v) is (here x xs)
          | inr behind ↦ deeper x y xs (from_distinct xs y behind)
        ]
      ] h

  to_distinct : (xs : List X) (y : X) → Contains xs y → Contains (distinct same xs) y
  to_distinct [] y h = h
  to_distinct (x ∷ xs) y h =
      elim (list_any (same x) xs) as (λ b. list_any (same x) xs ≡ b
      → Contains (cond b (distinct same xs) (x ∷ distinct same xs)) y) [
        | true ↦ λ e.
            let again = found_same (same x) xs e in
            let stands : Contains xs x =
            subst (λ v. Contains xs v) (sym ((decides x again.0).0 again.2)) again.1 in
            elim (front_or_behind x y xs h) [
              | inl is ↦
                  to_distinct xs y (subst (λ v. Contains xs v) is stands)
              | inr behind ↦
                  to_distinct xs y behind
            ]
        | false ↦ λ e.
            elim (front_or_behind x y xs h) [
              | inl is ↦ subst (λ v. Contains (x ∷ distinct same xs) v) is
                  (here x (distinct same xs))
              | inr behind ↦ deeper x y (distinct same xs) (to_distinct xs y behind)
            ]
      ] refl

  differs : (x : X) (xs : List X) → ((y : X) → Contains xs y → same x y ≡ false)
      → AllByRecursion (λ y. same x y ≡ false) xs
  differs x [] other = tt
  differs x (z ∷ xs) other = (other z (here z xs), differs x xs (λ y h. other y (deeper z y xs h)))

  pub IsDistinct-distinct : (xs : List X) → IsDistinct same (distinct same xs)
  unfolding IsDistinct
  IsDistinct-distinct [] = tt
  IsDistinct-distinct (x ∷ xs) =
      elim (list_any (same x) xs) as (λ b. list_any (same x) xs ≡ b
      → IsDistinct same (cond b (distinct same xs) (x ∷ distinct same xs))) [
        | true ↦ λ e. IsDistinct-distinct xs
        | false ↦ λ e. IsDistinct-cons same x (distinct same xs)
            (differs x (distinct same xs) (λ y h. none_same same x xs e y (from_distinct xs y h)))
            (IsDistinct-distinct xs)
      ] refl

-- ---- what the laws say

pub sessions_listed : SessionsAreReported
sessions_listed = record {
  listed = λ history name. (
    λ h. from_map session_of (all_reports history) name
        (from_distinct same_session Decides-same_session
        (map session_of (all_reports history)) name h),
    λ (report, there, is).
        to_distinct same_session Decides-same_session (map session_of (all_reports history)) name
        (subst (λ v. Contains (map session_of (all_reports history)) v) is
        (to_map session_of (all_reports history) report there)),
  );
  once = λ history. IsDistinct-distinct same_session Decides-same_session
      (map session_of (all_reports history));
}

pub vouchers_listed : VouchersAreToppedUp
vouchers_listed = record {
  listed = λ history account voucher. (
    λ h.
        let some = from_map voucher_of (topups history account) voucher
        (from_distinct same_voucher Decides-same_voucher
        (map voucher_of (topups history account)) voucher h) in
        let kept = from_filter (λ topup. bytes_eq account topup.account)
        (all_topups history) some.0 some.1 in
        (some.0, kept.0, sym ((Decides-bytes_eq account some.0.account).0 kept.1), some.2),
    λ (topup, there, owner, is).
        to_distinct same_voucher Decides-same_voucher
        (map voucher_of (topups history account)) voucher
        (subst (λ v. Contains (map voucher_of (topups history account)) v) is
        (to_map voucher_of (topups history account) topup
        (to_filter (λ topup. bytes_eq account topup.account) (all_topups history) topup there
        ((Decides-bytes_eq account topup.account).1 (sym owner))))),
  );
  once = λ history account.
      IsDistinct-distinct same_voucher Decides-same_voucher
      (map voucher_of (topups history account));
}

highest : (plan : Option Plan) (report : ReportFacts) (older : List ReportFacts)
    → (one : ReportFacts) × Contains (report ∷ older) one
    × (counted_of plan one ≡ greatest_counted plan (report ∷ older))
highest plan report [] =
    let n = counted_of plan report in
    (report, here report [], (let e : n ≡ max n 0 = omega arith in e))
highest plan report (next ∷ older) =
    let rest = highest plan next older in
    let n = counted_of plan report in
    let g = greatest_counted plan (next ∷ older) in
    elim (cases_lt g n) [
      | inl le ↦ (
        report,
        here report (next ∷ older),
        (let e : n ≡ max n g = omega (arith, le) in e),
      )
      | inr more ↦ (
        rest.0,
        deeper report rest.0 (next ∷ older) rest.1,
        rest.2 ∙ (let e : g ≡ max n g = omega (arith, more) in e),
      )
    ]

pub below_greatest : (plan : Option Plan) (rs : List ReportFacts) (one : ReportFacts)
    → Contains rs one → counted_of plan one ≤ greatest_counted plan rs
below_greatest plan [] one h = absurd (nowhere one h)
below_greatest plan (r ∷ rs) one h =
    let n = counted_of plan r in
    let m = counted_of plan one in
    let g = greatest_counted plan rs in
    elim (front_or_behind r one rs h) [
      | inl is ↦ let same : n ≡ m = ap (counted_of plan) is in
          let e : m ≤ max n g = omega (arith, same) in e
      | inr behind ↦
          let below : m ≤ g = below_greatest plan rs one behind in
          let e : m ≤ max n g = omega (arith, below) in e
    ]

pub greatest_reached : GreatestCountIsReached
greatest_reached = record { reached = highest; bound = below_greatest }

pub first_deepest : (later : List ReportFacts) (report : ReportFacts)
    → first_of (later ++ report ∷ []) ≡ Some report
first_deepest [] report = refl
first_deepest (r ∷ later) report = ap (λ o. option_or o (Some r)) (first_deepest later report)

-- a session with a first report is listed
first_listed : (history : History) (name : SessionName) (first : ReportFacts)
    → first_of (reports history name) ≡ Some first → Contains (sessions history) name
first_listed history name first is =
    let some = first_stands (reports history name) first is in
    let kept = from_filter (λ report. same_session name (session_of report))
    (all_reports history) first some in
    let own : session_of first ≡ name =
    sym ((Decides-same_session name (session_of first)).0 kept.1) in
    (sessions_listed.listed history name).1 (first, kept.0, own)
  where
    first_stands : (rs : List ReportFacts) (first : ReportFacts) → first_of rs ≡ Some first
        → Contains rs first
    first_stands [] first e = cc
    first_stands (r ∷ rs) first e =
        elim (first_of rs) as (λ o. first_of rs ≡ o → option_or o (Some r) ≡ Some first
        → Contains (r ∷ rs) first) [
          | None ↦ λ is h. let same : r ≡ first =
              cc in subst (λ v. Contains (r ∷ rs) v) same (here r rs)
          | Some x ↦ λ is h. deeper r first rs (first_stands rs first (is ∙ h))
        ] refl e

owner_first : (account : List ℕ) (o : Option ReportFacts) → is_owner account o ≡ true
    → (first : ReportFacts) × (o ≡ Some first) × (first.user ≡ account)
owner_first account None e = absurd (true≢false (sym e))
owner_first account (Some first) e = (first, refl, sym ((Decides-bytes_eq account first.user).0 e))

any_at : {X : Type 0} (p : X → Bool) (x : X) (xs : List X) → Contains xs x → p x ≡ true
    → list_any p xs ≡ true
any_at p x xs there passes = some_same (λ _ y. p y) x x xs there passes

some_left : (a b : Bool) → a ≡ true → IsTrue (a || b)
some_left true b e = refl
some_left false b e = absurd (true≢false (sym e))

some_right : (a b : Bool) → b ≡ true → IsTrue (a || b)
some_right true b e = refl
some_right false b e = e

which : (a b : Bool) → IsTrue (a || b) → (a ≡ true) ⊎ (b ≡ true)
which true b h = inl refl
which false b h = inr h

topped_up : History → List ℕ → Bool
topped_up history account = list_any (λ topup. bytes_eq account topup.account) (all_topups history)

knows : (history : History) (account : List ℕ) → IsTrue (is_known history account)
    → OwnsSession history account ⊎ OwnsVoucher history account
unfolding topped_up
knows history account known =
    elim (which (list_any (owns history account) (sessions history))
    (topped_up history account) known) [
      | inl session ↦
          let some = found_same (owns history account) (sessions history) session in
          let first = owner_first account (first_of (reports history some.0)) some.2 in
          inl (some.0, first.0, first.1, first.2)
      | inr voucher ↦
          let some = found_same (λ topup. bytes_eq account topup.account)
          (all_topups history) voucher in
          inr (some.0, some.1, sym ((Decides-bytes_eq account some.0.account).0 some.2))
    ]

is_known_by : (history : History) (account : List ℕ) → OwnsSession history account
    ⊎ OwnsVoucher history account → IsTrue (is_known history account)
unfolding topped_up
is_known_by history account own =
    elim own [
      | inl (name, first, is, user) ↦
          let own_first : owns history account name ≡ true = ap (is_owner account) is
          ∙ (Decides-bytes_eq account first.user).1 (sym user) in
          some_left (list_any (owns history account) (sessions history)) (topped_up history account)
          (any_at (owns history account) name (sessions history)
          (first_listed history name first is) own_first)
      | inr (topup, there, user) ↦
          some_right (list_any (owns history account) (sessions history))
          (topped_up history account)
          (any_at (λ t. bytes_eq account t.account) topup (all_topups history) there
          ((Decides-bytes_eq account topup.account).1 (sym user)))
    ]

pub known_own : KnownAccountsOwn
known_own history account = (knows history account, is_known_by history account)
