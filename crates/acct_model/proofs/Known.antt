-- The accounts that own a session or a voucher.
use Rattle.std.proofs.Common.{◌≡◌, ℕ, ◌+◌, ◌<◌, ◌≤◌, Bool, true, false, cond, ◌||◌, List, [], ◌∷◌}
use Rattle.std.proofs.Common.{map, refl, sym, ◌∙◌, ap, arith, true≢false}
use Rattle.std.proofs.lemmas.List.Sums.{sum_by-cons}
use Rattle.std.proofs.lemmas.Bool.Decides.{nat_tests}
use Rattle.std.specs.Prelude.{pos, ◌-ℤ◌, bytes_eq, nat_lt}
use Rattle.std.specs.List.{list_any, sum_by, filter}
use Rattle.acct_model.specs.declared.plan.Plan.{Plan}
use Rattle.acct_model.specs.declared.entry.Entry.TheVariants as entry
use Rattle.acct_model.specs.Report.{ReportFacts}
use Rattle.acct_model.specs.Vouchers.{TopUpFacts}
use Rattle.acct_model.specs.History.{Accepted, History, SessionName, session_of, same_session}
use Rattle.acct_model.specs.History.{all_reports, reports, distinct, sessions, first_of, is_owner}
use Rattle.acct_model.specs.History.{charge_of, share, owned, all_topups, voucher_of, same_voucher}
use Rattle.acct_model.specs.History.{balance_of, is_known}
use Rattle.acct_model.proofs.Same.{Decides-same_session}
use Rattle.acct_model.proofs.Distinct.{le-sum_by-distinct}
use Rattle.acct_model.proofs.Balances.{owned-report, share-other}

abbrev pub owns : History → List ℕ → SessionName → Bool
owns history account name = is_owner account (first_of (reports history name))

abbrev one : SessionName → ℕ
one name = 1

sum_any_at : (b : Bool) (n : ℕ) (any : Bool) → nat_lt 0 n ≡ any
    → nat_lt 0 (cond b 1 0 + n) ≡ (b || any)
sum_any_at true n any h = grind (arith, nat_tests)
sum_any_at false n any h = let e : 0 + n ≡ n = omega arith in ap (nat_lt 0) e ∙ h

-- a sum of ones is above 0 if there is one
sum_any : {K : Type 0} (p : K → Bool) (ks : List K)
    → nat_lt 0 (sum_by (λ k. cond (p k) 1 0) ks) ≡ list_any p ks
sum_any p [] = refl
sum_any p (k ∷ ks) =
    ap (nat_lt 0) (sum_by-cons (λ k. cond (p k) 1 0) k ks)
    ∙ sum_any_at (p k) (sum_by (λ k. cond (p k) 1 0) ks) (list_any p ks) (sum_any p ks)

known_if_above : (new old before after : ℕ) (mine : Bool) → new + before ≡ old + after
    → after ≡ cond mine 1 0 → before ≤ old → (mine ≡ false → before ≡ 0) → before ≤ 1
    → nat_lt 0 new ≡ (mine || nat_lt 0 old)
known_if_above new old before after true h is below none few =
    let some : 0 < new = omega (arith, h, is, below, few) in grind (arith, nat_tests, some)
known_if_above new old before after false h is below none few =
    let same : new ≡ old = omega (arith, h, is, none refl) in ap (nat_lt 0) same

share_at_most : (account : List ℕ) (b : Bool) → cond b 1 0 ≤ 1
share_at_most account true = omega arith
share_at_most account false = omega arith

below_sum_at : (f : SessionName → ℕ) (s : SessionName) (keys : List SessionName) (b : Bool)
    → list_any (same_session s) keys ≡ b → cond b (f s) 0 ≤ sum_by f (distinct same_session keys)
below_sum_at f s keys true is = le-sum_by-distinct same_session Decides-same_session f s keys is
below_sum_at f s keys false is = omega arith

no_reports : (weight : ℕ) (account : List ℕ) (name : SessionName)
    (rs : List ReportFacts) → list_any (same_session name) (map session_of rs) ≡ false
    → share account (first_of (filter (λ r. same_session name (session_of r)) rs)) weight ≡ 0
no_reports weight account name [] e = refl
no_reports weight account name (r ∷ rs) e =
    elim (same_session name (session_of r)) as (λ b.
    (b || list_any (same_session name) (map session_of rs)) ≡ false
    → share account
    (first_of (cond b (r ∷ filter (λ r. same_session name (session_of r)) rs)
    (filter (λ r. same_session name (session_of r)) rs))) weight ≡ 0) [
      | true ↦ λ h. absurd (true≢false h)
      | false ↦ λ h. no_reports weight account name rs h
    ] e

-- what a session weighs is a part of what its owner's sessions weigh
pub share-le_owned : (weight : SessionName → ℕ) (history : History) (name : SessionName)
    (account : List ℕ)
    → share account (first_of (reports history name)) (weight name) ≤ owned weight history account
share-le_owned weight history name account =
    let f : SessionName → ℕ = λ k. share account (first_of (reports history k)) (weight k) in
    let keys = map session_of (all_reports history) in
    elim (list_any (same_session name) keys) as (λ b. list_any (same_session name) keys ≡ b
    → f name ≤ sum_by f (distinct same_session keys)) [
      | true ↦ λ is. le-sum_by-distinct same_session Decides-same_session f name keys is
      | false ↦ λ is. omega (arith, no_reports (weight name) account name (all_reports history) is)
    ] refl

-- A report makes its session's owner known.
owns-report : (history : History) (report : ReportFacts) (account : List ℕ)
    → list_any (owns (Accepted (entry.Report report) ∷ history) account)
    (sessions (Accepted (entry.Report report) ∷ history))
    ≡ (is_owner account (first_of (report ∷ reports history (session_of report)))
    || list_any (owns history account) (sessions history))
owns-report history report account =
    let rs = reports history (session_of report) in
    let mine = is_owner account (first_of (report ∷ rs)) in
    sym (sum_any (owns (Accepted (entry.Report report) ∷ history) account)
    (sessions (Accepted (entry.Report report) ∷ history)))
    ∙ known_if_above (owned one (Accepted (entry.Report report) ∷ history) account)
    (owned one history account)
    (share account (first_of rs) 1) (share account (first_of (report ∷ rs)) 1) mine
    (owned-report one one history report account (λ name other. refl)) refl
    (share-le_owned one history (session_of report) account)
    (λ e. (share-other account report rs 1 1 e).1)
    (share_at_most account (is_owner account (first_of rs)))
    ∙ ap (λ b. mine || b) (sum_any (owns history account) (sessions history))

or_assoc : (a b c : Bool) → ((a || b) || c) ≡ (a || (b || c))
or_assoc true b c = refl
or_assoc false b c = refl

or_swap : (a b c : Bool) → (a || (b || c)) ≡ (b || (a || c))
or_swap true true c = refl
or_swap true false c = refl
or_swap false b c = refl

pub is_known-report : (history : History) (report : ReportFacts) (account : List ℕ)
    → is_known (Accepted (entry.Report report) ∷ history) account
    ≡ (is_owner account (first_of (report ∷ reports history (session_of report)))
    || is_known history account)
is_known-report history report account =
    let topped = list_any (λ topup. bytes_eq account topup.account) (all_topups history) in
    ap (λ b. b || topped) (owns-report history report account)
    ∙ or_assoc (is_owner account (first_of (report ∷ reports history (session_of report))))
    (list_any (owns history account) (sessions history)) topped

-- A top-up makes its account known.
pub is_known-topup : (history : History) (topup : TopUpFacts) (account : List ℕ)
    → is_known (Accepted (entry.TopUp topup) ∷ history) account
    ≡ (bytes_eq account topup.account || is_known history account)
is_known-topup history topup account =
    or_swap (list_any (owns history account) (sessions history)) (bytes_eq account topup.account)
    (list_any (λ topup. bytes_eq account topup.account) (all_topups history))

zero_at : (b any : Bool) (n m : ℕ) → (b || any) ≡ false → (any ≡ false → m ≡ 0) → cond b n 0 + m ≡ 0
zero_at true any n m h rest = absurd (true≢false h)
zero_at false any n m h rest = omega (arith, rest h)

free : (p : SessionName → Bool) (g : SessionName → ℕ) (ks : List SessionName)
    → list_any p ks ≡ false → sum_by (λ k. cond (p k) (g k) 0) ks ≡ 0
free p g [] h = refl
free p g (k ∷ ks) h =
    sum_by-cons (λ k. cond (p k) (g k) 0) k ks
    ∙ zero_at (p k) (list_any p ks) (g k) (sum_by (λ k. cond (p k) (g k) 0) ks) h (free p g ks)

no_topups : (account : List ℕ) (ts : List TopUpFacts)
    → list_any (λ t. bytes_eq account t.account) ts ≡ false
    → filter (λ t. bytes_eq account t.account) ts ≡ []
no_topups account [] h = refl
no_topups account (t ∷ ts) h =
    elim (bytes_eq account t.account) as (λ b. (b || list_any (λ t. bytes_eq account t.account) ts)
    ≡ false → cond b (t ∷ filter (λ t. bytes_eq account t.account) ts)
    (filter (λ t. bytes_eq account t.account) ts) ≡ []) [
      | true ↦ λ e. absurd (true≢false e)
      | false ↦ λ e. no_topups account ts e
    ] h

or_false : (a b : Bool) → (a || b) ≡ false → (a ≡ false) × (b ≡ false)
or_false true b h = absurd (true≢false h)
or_false false b h = (refl, h)

-- an account that owns neither session nor voucher has balance 0
pub balance-unknown : (plans : List Plan) (history : History) (account : List ℕ)
    → is_known history account ≡ false → balance_of plans history account ≡ pos 0
balance-unknown plans history account unknown =
    let both = or_false (list_any (owns history account) (sessions history))
    (list_any (λ topup. bytes_eq account topup.account) (all_topups history)) unknown in
    let free_of = free (owns history account) (charge_of plans history) (sessions history) both.0 in
    let none = no_topups account (all_topups history) both.1 in
    λ i. pos (sum_by (λ v. v.1) (distinct same_voucher (map voucher_of (none i)))) -ℤ pos
    (free_of i)
