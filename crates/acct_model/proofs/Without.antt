-- A history without the reports of one session.
use Rattle.std.proofs.Common.{◌≡◌, ◌≢◌, ℕ, ◌+◌, Bool, true, false, cond, not, ◌||◌, List, [], ◌∷◌}
use Rattle.std.proofs.Common.{map}
use Rattle.std.proofs.Common.{refl, sym, ◌∙◌, ap, subst, arith, inl, inr}
use Rattle.std.proofs.lemmas.Int.{ints}
use Rattle.std.specs.Prelude.{pos, ◌-ℤ◌, ◌+ℤ◌, bytes_eq, Option, Some, None, Contains}
use Rattle.std.specs.List.{list_any, sum_by, filter}
use Rattle.std.specs.Option.{option_or, option_and_then}
use Rattle.acct_model.specs.declared.plan.Plan.{Plan}
use Rattle.acct_model.specs.declared.entry.Entry.TheVariants as entry
use Rattle.acct_model.specs.Report.{ReportFacts}
use Rattle.acct_model.specs.Plans.{plans_before}
use Rattle.acct_model.specs.History.{Accepted, PlansAdded, History, opening_of}
use Rattle.acct_model.specs.History.{opened_by, plan_opened, SessionName, session_of, same_session}
use Rattle.acct_model.specs.History.{all_reports, reports, distinct, first_of}
use Rattle.acct_model.specs.History.{plan_of, cost_of, charge_of, share, owned, charged, all_topups}
use Rattle.acct_model.specs.History.{voucher_of, same_voucher, credited, balance_of}
use Rattle.acct_model.specs.Forward.{without, SessionsStandAlone}
use Rattle.acct_model.proofs.Same.{Decides-bytes_eq, Decides-same_session, Decides-false}
use Rattle.acct_model.proofs.Distinct.{sum_by-distinct-more}
use Rattle.acct_model.proofs.Sums.{sum_of_same}
use Rattle.acct_model.proofs.Lists.{here, deeper, front_or_behind}

-- ---- the reports

abbrev pub of : SessionName → List ReportFacts → List ReportFacts
of name rs = filter (λ r. same_session name (session_of r)) rs

-- the reports that are not of the session
abbrev pub but_of : SessionName → List ReportFacts → List ReportFacts
but_of name rs = filter (λ r. not (same_session name (session_of r))) rs

pub reports-all : (history : History) (name : SessionName)
    → all_reports (without name history) ≡ but_of name (all_reports history)
reports-all [] name = refl
reports-all (Accepted (entry.Report r) ∷ older) name =
    elim (same_session name (session_of r)) as (λ b.
    all_reports (cond b (without name older) (Accepted (entry.Report r) ∷ without name older))
    ≡ cond (not b) (r ∷ but_of name (all_reports older)) (but_of name (all_reports older))) [
      | true ↦ reports-all older name
      | false ↦ ap (λ rs. r ∷ rs) (reports-all older name)
    ]
reports-all (Accepted (entry.Restart x) ∷ older) name = reports-all older name
reports-all (Accepted (entry.TopUp t) ∷ older) name = reports-all older name
reports-all (PlansAdded added ∷ older) name = reports-all older name

pub topups-without : (history : History) (name : SessionName)
    → all_topups (without name history) ≡ all_topups history
topups-without [] name = refl
topups-without (Accepted (entry.Report r) ∷ older) name =
    elim (same_session name (session_of r)) as (λ b.
    all_topups (cond b (without name older) (Accepted (entry.Report r) ∷ without name older))
    ≡ all_topups older) [
      | true ↦ topups-without older name
      | false ↦ topups-without older name
    ]
topups-without (Accepted (entry.Restart x) ∷ older) name = topups-without older name
topups-without (Accepted (entry.TopUp t) ∷ older) name = ap (λ ts. t ∷ ts)
    (topups-without older name)
topups-without (PlansAdded added ∷ older) name = topups-without older name

-- none of the session is left
gone_of : (name : SessionName) (rs : List ReportFacts) → of name (but_of name rs) ≡ []
gone_of name [] = refl
gone_of name (r ∷ rs) =
    elim (same_session name (session_of r)) as (λ b. same_session name (session_of r) ≡ b
    → of name (cond (not b) (r ∷ but_of name rs) (but_of name rs)) ≡ []) [
      | true ↦ λ e. gone_of name rs
      | false ↦ λ e. ap (λ b. cond b (r ∷ of name (but_of name rs)) (of name (but_of name rs))) e
          ∙ gone_of name rs
    ] refl

-- each other session has all of its own
kept_of : (name other : SessionName) (rs : List ReportFacts) → other ≢ name
    → of other (but_of name rs) ≡ of other rs
kept_of name other [] differs = refl
kept_of name other (r ∷ rs) differs =
    elim (same_session name (session_of r)) as (λ b. same_session name (session_of r) ≡ b
    → of other (cond (not b) (r ∷ but_of name rs) (but_of name rs)) ≡ of other (r ∷ rs)) [
      | true ↦ λ e.
          let own : name ≡ session_of r = (Decides-same_session name (session_of r)).0 e in
          let none : same_session other (session_of r) ≡ false =
          Decides-false (same_session other (session_of r))
          (Decides-same_session other (session_of r)) (λ is. differs (is ∙ sym own)) in
          kept_of name other rs differs
          ∙ sym (ap (λ b. cond b (r ∷ of other rs) (of other rs)) none)
      | false ↦ λ e. ap (λ xs. cond (same_session other (session_of r)) (r ∷ xs) xs)
          (kept_of name other rs differs)
    ] refl

pub reports-gone : (history : History) (name : SessionName)
    → reports (without name history) name ≡ []
reports-gone history name = ap (of name) (reports-all history name)
    ∙ gone_of name (all_reports history)

pub reports-kept : (history : History) (name other : SessionName) → other ≢ name
    → reports (without name history) other ≡ reports history other
reports-kept history name other differs = ap (of other) (reports-all history name)
    ∙ kept_of name other (all_reports history) differs

-- ---- how the other sessions were opened

or_none : {X : Type 0} (o : Option X) → option_or o None ≡ o
or_none None = refl
or_none (Some x) = refl

pub opening-kept : (plans : List Plan) (history : History) (name other : SessionName)
    → other ≢ name → opening_of plans (without name history) other ≡ opening_of plans history other
opening-kept plans [] name other differs = refl
opening-kept plans (Accepted (entry.Report r) ∷ older) name other differs =
    let rest = opening-kept plans older name other differs in
    elim (same_session name (session_of r)) as (λ b. same_session name (session_of r) ≡ b
    → opening_of plans
    (cond b (without name older) (Accepted (entry.Report r) ∷ without name older)) other
    ≡ option_or (opening_of plans older other) (opened_by plans other r)) [
      | true ↦ λ e.
          let own : name ≡ session_of r = (Decides-same_session name (session_of r)).0 e in
          let none : same_session other (session_of r) ≡ false =
          Decides-false (same_session other (session_of r))
          (Decides-same_session other (session_of r)) (λ is. differs (is ∙ sym own)) in
          rest ∙ sym (or_none (opening_of plans older other))
          ∙ sym (ap (λ b. option_or (opening_of plans older other)
          (cond b (Some (record { first = r; plans = plans })) None)) none)
      | false ↦ λ e. ap (λ o. option_or o (opened_by plans other r)) rest
    ] refl
opening-kept plans (Accepted (entry.Restart x) ∷ older) name other differs =
    opening-kept plans older name other differs
opening-kept plans (Accepted (entry.TopUp t) ∷ older) name other differs =
    opening-kept plans older name other differs
opening-kept plans (PlansAdded added ∷ older) name other differs =
    opening-kept (plans_before added plans) older name other differs

pub plan-kept : (plans : List Plan) (history : History) (name other : SessionName)
    → other ≢ name → plan_of plans (without name history) other ≡ plan_of plans history other
plan-kept plans history name other differs =
    ap (option_and_then plan_opened) (opening-kept plans history name other differs)

-- another session costs what it cost
pub charge-kept : (plans : List Plan) (history : History) (name other : SessionName)
    → other ≢ name → charge_of plans (without name history) other ≡ charge_of plans history other
charge-kept plans history name other differs =
    λ i. cost_of (plan-kept plans history name other differs i)
    (reports-kept history name other differs i)

-- ---- sums over the sessions

-- the names of reports without those of a session, and that session's name, are those of all
-- reports and that name
names_left : (name k : SessionName) (rs : List ReportFacts)
    → Contains (name ∷ map session_of (but_of name rs)) k → Contains (name ∷ map session_of rs) k
names_left name k [] h = h
names_left name k (r ∷ rs) h =
    elim (same_session name (session_of r)) as (λ b.
    Contains (name ∷ map session_of (cond (not b) (r ∷ but_of name rs) (but_of name rs))) k
    → Contains (name ∷ session_of r ∷ map session_of rs) k) [
      | true ↦ λ g. more (names_left name k rs g)
      | false ↦ λ g. elim (front_or_behind name k (session_of r ∷ map session_of (but_of name rs)) g) [
        | inl is ↦ subst (λ v. Contains (name ∷ session_of r ∷ map session_of rs) v) is
            (here name (session_of r ∷ map session_of rs))
        | inr behind ↦ elim (front_or_behind (session_of r) k
            (map session_of (but_of name rs)) behind) [
              | inl is ↦ subst (λ v. Contains (name ∷ session_of r ∷ map session_of rs) v) is
                  (deeper name (session_of r) (session_of r ∷ map session_of rs)
                  (here (session_of r) (map session_of rs)))
              | inr later ↦ more (names_left name k rs
                  (deeper name k (map session_of (but_of name rs)) later))
            ]
      ]
    ] h
  where
    more : Contains (name ∷ map session_of rs) k
        → Contains (name ∷ session_of r ∷ map session_of rs) k
    more g = elim (front_or_behind name k (map session_of rs) g) [
      | inl is ↦ subst (λ v. Contains (name ∷ session_of r ∷ map session_of rs) v) is
          (here name (session_of r ∷ map session_of rs))
      | inr behind ↦ deeper name k (session_of r ∷ map session_of rs)
          (deeper (session_of r) k (map session_of rs) behind)
    ]

names_all : (name k : SessionName) (rs : List ReportFacts)
    → Contains (name ∷ map session_of rs) k → Contains (name ∷ map session_of (but_of name rs)) k
names_all name k [] h = h
names_all name k (r ∷ rs) h =
    elim (front_or_behind name k (session_of r ∷ map session_of rs) h) [
      | inl is ↦ first is
      | inr behind ↦ elim (front_or_behind (session_of r) k (map session_of rs) behind) [
        | inl is ↦ elim (same_session name (session_of r)) as (λ b.
            same_session name (session_of r) ≡ b
            → Contains (name ∷ map session_of (cond (not b) (r ∷ but_of name rs) (but_of name rs)))
            k) [
              | true ↦ λ e. subst (λ v. Contains (name ∷ map session_of (but_of name rs)) v)
                  ((Decides-same_session name (session_of r)).0 e ∙ is)
                  (here name (map session_of (but_of name rs)))
              | false ↦ λ e. deeper name k (session_of r ∷ map session_of (but_of name rs))
                  (subst (λ v. Contains (session_of r ∷ map session_of (but_of name rs)) v) is
                  (here (session_of r) (map session_of (but_of name rs))))
            ] refl
        | inr later ↦ more (names_all name k rs (deeper name k (map session_of rs) later))
      ]
    ]
  where
    first : name ≡ k → Contains (name ∷ map session_of (but_of name (r ∷ rs))) k
    first is = subst (λ v. Contains (name ∷ map session_of (but_of name (r ∷ rs))) v) is
        (here name (map session_of (but_of name (r ∷ rs))))

    more : Contains (name ∷ map session_of (but_of name rs)) k
        → Contains (name ∷ map session_of (but_of name (r ∷ rs))) k
    more g = elim (same_session name (session_of r)) as (λ b.
        Contains (name ∷ map session_of (cond (not b) (r ∷ but_of name rs) (but_of name rs))) k) [
          | true ↦ g
          | false ↦ elim (front_or_behind name k (map session_of (but_of name rs)) g) [
            | inl is ↦ subst
                (λ v. Contains (name ∷ session_of r ∷ map session_of (but_of name rs)) v) is
                (here name (session_of r ∷ map session_of (but_of name rs)))
            | inr behind ↦ deeper name k (session_of r ∷ map session_of (but_of name rs))
                (deeper (session_of r) k (map session_of (but_of name rs)) behind)
          ]
        ]

-- a session without a report weighs nothing
share_there : (weight : ℕ) (account : List ℕ) (name : SessionName) (rs : List ReportFacts)
    → cond (list_any (same_session name) (map session_of rs))
    (share account (first_of (of name rs)) weight) 0
    ≡ share account (first_of (of name rs)) weight
share_there weight account name [] = refl
share_there weight account name (r ∷ rs) =
    elim (same_session name (session_of r)) as (λ b.
    cond (b || list_any (same_session name) (map session_of rs))
    (share account (first_of (cond b (r ∷ of name rs) (of name rs))) weight) 0
    ≡ share account (first_of (cond b (r ∷ of name rs) (of name rs))) weight) [
      | true ↦ refl
      | false ↦ share_there weight account name rs
    ]

none_at : (b : Bool) (n : ℕ) → n ≡ 0 → cond b n 0 ≡ 0
none_at true n e = e
none_at false n e = refl

-- the weights of all sessions but one
sum_left : (f g : SessionName → ℕ) (name : SessionName) (rs : List ReportFacts) → g name ≡ 0
    → ((k : SessionName) → k ≢ name → g k ≡ f k)
    → sum_by g (distinct same_session (map session_of (but_of name rs)))
    + cond (list_any (same_session name) (map session_of rs)) (f name) 0
    ≡ sum_by f (distinct same_session (map session_of rs))
sum_left f g name rs none agree =
    let ks = map session_of rs in
    let ls = map session_of (but_of name rs) in
    let left = sum_by-distinct-more same_session Decides-same_session g g name (λ k other. refl) ls
    in
    let right = sum_by-distinct-more same_session Decides-same_session f g name agree ks in
    let same = sum_of_same same_session Decides-same_session g (name ∷ ls) (name ∷ ks)
    (λ k h. names_left name k rs h) (λ k h. names_all name k rs h) in
    let nothing = none_at (list_any (same_session name) ls) (g name) none in
    omega (arith, left, right, same, nothing, none)

-- A history without the session lacks what the session weighs.
pub owned-without : (before after : SessionName → ℕ) (history : History) (name : SessionName)
    (account : List ℕ)
    → ((other : SessionName) → other ≢ name → after other ≡ before other)
    → owned after (without name history) account
    + share account (first_of (reports history name)) (before name)
    ≡ owned before history account
owned-without before after history name account same =
    let f : SessionName → ℕ = λ k. share account (first_of (reports history k)) (before k) in
    let g : SessionName → ℕ = λ k. share account (first_of (reports (without name history) k))
    (after k) in
    let none : g name ≡ 0 = ap (λ rs. share account (first_of rs) (after name))
    (reports-gone history name) in
    let agree : (k : SessionName) → k ≢ name → g k ≡ f k =
    λ k other i. share account (first_of (reports-kept history name k other i)) (same k other i) in
    let step = sum_left f g name (all_reports history) none agree in
    let listed : cond (list_any (same_session name) (map session_of (all_reports history)))
    (f name) 0 ≡ f name = share_there (before name) account name (all_reports history) in
    let all : owned after (without name history) account
    ≡ sum_by g (distinct same_session (map session_of (but_of name (all_reports history)))) =
    ap (λ rs. sum_by g (distinct same_session (map session_of rs))) (reports-all history name) in
    omega (arith, step, listed, all)

-- What the session costs is missing.
pub charged-without : (plans : List Plan) (history : History) (name : SessionName)
    (account : List ℕ)
    → charged plans (without name history) account
    + share account (first_of (reports history name)) (charge_of plans history name)
    ≡ charged plans history account
charged-without plans history name account =
    owned-without (charge_of plans history) (charge_of plans (without name history)) history name
    account (charge-kept plans history name)

pub credited-without : (history : History) (name : SessionName) (account : List ℕ)
    → credited (without name history) account ≡ credited history account
credited-without history name account =
    ap (λ ts. sum_by (λ v. v.1) (distinct same_voucher (map voucher_of
    (filter (λ t. bytes_eq account t.account) ts)))) (topups-without history name)

-- A balance is more by what the session cost the account.
pub balance-without : (plans : List Plan) (history : History) (name : SessionName)
    (account : List ℕ)
    → balance_of plans (without name history) account
    ≡ balance_of plans history account
    +ℤ pos (share account (first_of (reports history name)) (charge_of plans history name))
balance-without plans history name account =
    moved (credited history account) (credited (without name history) account)
    (charged plans (without name history) account) (charged plans history account)
    (share account (first_of (reports history name)) (charge_of plans history name))
    (credited-without history name account) (charged-without plans history name account)
  where
    moved : (credit still less all part : ℕ) → still ≡ credit → less + part ≡ all
        → pos still -ℤ pos less ≡ (pos credit -ℤ pos all) +ℤ pos part
    moved credit still less all part e h = omega (arith, ints)

pub stand_alone : SessionsStandAlone
stand_alone = record {
  owner = λ plans history name first is.
      let own : share first.user (first_of (reports history name)) (charge_of plans history name)
      ≡ charge_of plans history name =
      ap (λ o. share first.user o (charge_of plans history name)) is
      ∙ ap (λ b. cond b (charge_of plans history name) 0)
      ((Decides-bytes_eq first.user first.user).1 refl) in
      balance-without plans history name first.user
      ∙ ap (λ n. balance_of plans history first.user +ℤ pos n) own;
  others = λ plans history name first account is other.
      let none : share account (first_of (reports history name)) (charge_of plans history name)
      ≡ 0 =
      ap (λ o. share account o (charge_of plans history name)) is
      ∙ ap (λ b. cond b (charge_of plans history name) 0)
      (Decides-false (bytes_eq account first.user) (Decides-bytes_eq account first.user) other) in
      balance-without plans history name account
      ∙ unmoved (credited history account) (charged plans history account)
      (share account (first_of (reports history name)) (charge_of plans history name)) none;
  gone = reports-gone;
  reports = reports-kept;
  openings = opening-kept;
  topups = topups-without;
}
  where
    unmoved : (credit all part : ℕ) → part ≡ 0
        → (pos credit -ℤ pos all) +ℤ pos part ≡ pos credit -ℤ pos all
    unmoved credit all part e = omega (arith, ints)
