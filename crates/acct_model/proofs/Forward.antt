-- To carry sessions forward moves no balance.
use Rattle.std.proofs.Common.{◌≡◌, ℕ, ◌+◌, ◌*◌, ◌<◌, ◌≤◌, ◌⊎◌, inl, inr, Bool, true, false, cond}
use Rattle.std.proofs.Common.{◌||◌, List, [], ◌∷◌, refl, sym, ◌∙◌, ap, subst, arith, true≢false}
use Rattle.std.proofs.Math.Nat.{le_of_mul-le-mul_right}
use Rattle.std.specs.Prelude.{pos, ◌-ℤ◌, bytes_eq, max, Option, Some, None, Contains}
use Rattle.acct_model.specs.declared.plan.Plan.{Plan}
use Rattle.acct_model.specs.Report.{ReportFacts}
use Rattle.acct_model.specs.Plans.{started_blocks, price_under}
use Rattle.acct_model.specs.History.{Accepted, History, SessionName, session_of, reports, first_of}
use Rattle.acct_model.specs.History.{same_session, is_owner, plan_of, counted_of, greatest_counted}
use Rattle.acct_model.specs.History.{cost_of, charge_of, share, charged, credited, balance_of}
use Rattle.acct_model.specs.History.{is_known, all_topups}
use Rattle.acct_model.specs.Laws.{OwnsSession, OwnsVoucher}
use Rattle.acct_model.specs.Forward.{without, CarriesForward, forwarded, ForwardMovesNothing}
use Rattle.acct_model.specs.Forward.{without_all, blocks_of, AreOf, RaisesBy}
use Rattle.acct_model.proofs.Same.{Decides-bytes_eq, Decides-same_session}
use Rattle.acct_model.proofs.Blocks.{IsLeastBlocks-started}
use Rattle.acct_model.proofs.Balances.{first_of-none, first_of-more, cost_before, cost_after}
use Rattle.acct_model.proofs.Balances.{charged-report, before-none, before-known, charge-own}
use Rattle.acct_model.proofs.Balances.{plan-later}
use Rattle.acct_model.proofs.Known.{is_known-report}
use Rattle.acct_model.proofs.Members.{known_own}
use Rattle.acct_model.proofs.Without.{reports-kept, reports-gone, topups-without, charged-without}
use Rattle.acct_model.proofs.Without.{credited-without}
use Rattle.std.proofs.Math.Nat.{le_of_mul-le-mul_right}
use Rattle.acct_model.specs.declared.plan.Plan.{Plan}
use Rattle.acct_model.specs.declared.entry.Entry.TheVariants as entry
use Rattle.acct_model.specs.Report.{ReportFacts}
use Rattle.acct_model.proofs.Blocks.{IsLeastBlocks-started}
use Rattle.acct_model.proofs.Known.{is_known-report}
use Rattle.acct_model.proofs.Members.{known_own}
use Rattle.acct_model.specs.Plans.{started_blocks}
use Rattle.acct_model.specs.History.{is_known}
use Rattle.acct_model.proofs.Same.{Decides-bytes_eq}
use Rattle.acct_model.proofs.Balances.{plan-later}

-- ---- blocks

-- whole blocks are as many as they are
pub started-whole : (block k : ℕ) → 0 < block → started_blocks block (k * block) ≡ k
started-whole block k some =
    let least = IsLeastBlocks-started block (k * block) some in
    let fits : k * block ≤ k * block = omega arith in
    let most : started_blocks block (k * block) ≤ k = least.least k fits in
    let few : k ≤ started_blocks block (k * block) = le_of_mul-le-mul_right least.covers some in
    omega (arith, most, few)

-- and cost the unit each
pub cost-whole : (plan : Plan) (n k : ℕ) → 0 < plan.block → n ≡ k * plan.block
    → price_under (Some plan) n ≡ plan.unit * k
cost-whole plan n k some is =
    ap (λ m. plan.unit * started_blocks plan.block m) is
    ∙ ap (λ m. plan.unit * m) (started-whole plan.block k some)

pub no_blocks : (block k : ℕ) → 0 < block → 0 ≡ k * block → k ≡ 0
no_blocks block k some is =
    let fits : k * block ≤ 0 * block = omega (arith, is) in
    let few : k ≤ 0 = le_of_mul-le-mul_right fits some in omega (arith, few)

pub same_some : {X : Type 0} (x y : X) → Some x ≡ Some y → x ≡ y
same_some x y e = cc

-- ---- known accounts

iff_same : (a b : Bool) → (a ≡ true → b ≡ true) → (b ≡ true → a ≡ true) → a ≡ b
iff_same true b to from = sym (to refl)
iff_same false true to from = from refl
iff_same false false to from = refl

which : (a b : Bool) → (a || b) ≡ true → (a ≡ true) ⊎ (b ≡ true)
which true b h = inl refl
which false b h = inr h

some_left : (a b : Bool) → a ≡ true → (a || b) ≡ true
some_left true b e = refl
some_left false b e = absurd (true≢false (sym e))

some_right : (a b : Bool) → b ≡ true → (a || b) ≡ true
some_right true b e = refl
some_right false b e = e

none_first : (x : ReportFacts) → first_of {X = ReportFacts} [] ≡ Some x → ⊥
none_first x e = cc

owned_by : (account : List ℕ) (o : Option ReportFacts) → is_owner account o ≡ true
    → (first : ReportFacts) × (o ≡ Some first) × (first.user ≡ account)
owned_by account None e = absurd (true≢false (sym e))
owned_by account (Some first) e = (first, refl, sym ((Decides-bytes_eq account first.user).0 e))

abbrev Owns : History → List ℕ → Type 0
Owns history account = OwnsSession history account ⊎ OwnsVoucher history account

owns_without : (history : History) (name : SessionName) (account : List ℕ)
    → Owns history account
    → (is_owner account (first_of (reports history name)) ≡ true) ⊎ Owns (without name history) account
owns_without history name account (inl (other, first, is, user)) =
    elim (same_session other name) as (λ b. same_session other name ≡ b
    → (is_owner account (first_of (reports history name)) ≡ true)
    ⊎ Owns (without name history) account) [
      | true ↦ λ e. inl (
          ap (λ n. is_owner account (first_of (reports history n)))
          (sym ((Decides-same_session other name).0 e))
          ∙ ap (is_owner account) is ∙ (Decides-bytes_eq account first.user).1 (sym user)
          )
      | false ↦ λ e. inr (inl (
        other,
        first,
        ap first_of (reports-kept history name other
            (λ same. true≢false (sym ((Decides-same_session other name).1 same) ∙ e))) ∙ is,
        user,
      ))
    ] refl
owns_without history name account (inr (topup, there, owner)) =
    inr (inr (
      topup,
      subst (λ ts. Contains ts topup) (sym (topups-without history name)) there,
      owner,
    ))

without_owns : (history : History) (name : SessionName) (account : List ℕ)
    → Owns (without name history) account → Owns history account
without_owns history name account (inl (other, first, is, user)) =
    elim (same_session other name) as (λ b. same_session other name ≡ b
    → Owns history account) [
      | true ↦ λ e. absurd (none_first first (sym (ap first_of (
          ap (reports (without name history)) ((Decides-same_session other name).0 e)
          ∙ reports-gone history name)) ∙ is))
      | false ↦ λ e. inl (
        other,
        first,
        sym (ap first_of (reports-kept history name other
            (λ same. true≢false (sym ((Decides-same_session other name).1 same) ∙ e)))) ∙ is,
        user,
      )
    ] refl
without_owns history name account (inr (topup, there, owner)) =
    inr (topup, subst (λ ts. Contains ts topup) (topups-without history name) there, owner)

-- an account is known by the session, or without it
pub is_known-without : (history : History) (name : SessionName) (account : List ℕ)
    → is_known history account
    ≡ (is_owner account (first_of (reports history name)) || is_known (without name history) account)
is_known-without history name account =
    let mine = is_owner account (first_of (reports history name)) in
    let left = is_known (without name history) account in
    iff_same (is_known history account) (mine || left)
    (λ h. elim (owns_without history name account ((known_own history account).0 h)) [
      | inl own ↦ some_left mine left own
      | inr rest ↦ some_right mine left ((known_own (without name history) account).1 rest)
    ])
    (λ h. elim (which mine left h) [
      | inl own ↦
          let first = owned_by account (first_of (reports history name)) own in
          (known_own history account).1 (inl (name, first.0, first.1, first.2))
      | inr rest ↦ (known_own history account).1 (without_owns history name account
          ((known_own (without name history) account).0 rest))
    ])

-- ---- the report

raise_before : (plans : List Plan) (history : History) (report : ReportFacts) (plan : Plan)
    (owner : List ℕ) (more : ℕ) (c : RaisesBy plans history report plan owner more)
    (account : List ℕ) → (o : Option ReportFacts)
    → first_of (reports history (session_of report)) ≡ o
    → cost_before plans history report account
    ≡ cond (bytes_eq account owner) (plan.unit * c.blocks) 0
raise_before plans history report plan owner more c account None is =
    let nothing = first_of-none (reports history (session_of report)) is in
    let none : 0 ≡ c.blocks * plan.block =
    sym (ap (greatest_counted (Some plan)) nothing) ∙ c.whole in
    let few = no_blocks plan.block c.blocks c.some none in
    before-none plans history report account is
    ∙ nothing_at (bytes_eq account owner) plan.unit c.blocks few
  where
    nothing_at : (b : Bool) (unit k : ℕ) → k ≡ 0 → 0 ≡ cond b (unit * k) 0
    nothing_at true unit k e = omega (arith, ap (λ n. unit * n) e)
    nothing_at false unit k e = refl
raise_before plans history report plan owner more c account (Some x) is =
    let s = session_of report in
    let owns : x.user ≡ owner =
    ap (λ (r : ReportFacts). r.user)
    (same_some x c.into (sym (first_of-more report x (reports history s) is) ∙ c.into_is))
    ∙ c.same_owner in
    let planned : plan_of plans history s ≡ Some plan =
    sym (plan-later plans history report x is) ∙ c.same_plan in
    let cost : cost_of (plan_of plans history s) (reports history s) ≡ plan.unit * c.blocks =
    ap (λ p. cost_of p (reports history s)) planned
    ∙ cost-whole plan (greatest_counted (Some plan) (reports history s)) c.blocks c.some c.whole in
    before-known plans history report x account is
    ∙ (λ i. cond (bytes_eq account (owns i)) (cost i) 0)

raise_after : (plans : List Plan) (history : History) (report : ReportFacts) (plan : Plan)
    (owner : List ℕ) (more : ℕ) (c : RaisesBy plans history report plan owner more)
    (account : List ℕ)
    → cost_after plans history report account
    ≡ cond (bytes_eq account owner) (plan.unit * (c.blocks + more)) 0
raise_after plans history report plan owner more c account =
    let s = session_of report in
    let n = counted_of (Some plan) report in
    let g = greatest_counted (Some plan) (reports history s) in
    let greatest : max n g ≡ (c.blocks + more) * plan.block = omega (arith, c.whole, c.raised) in
    let cost : charge_of plans (Accepted (entry.Report report) ∷ history) s
    ≡ plan.unit * (c.blocks + more) =
    charge-own plans history report
    ∙ ap (λ p. cost_of p (report ∷ reports history s)) c.same_plan
    ∙ cost-whole plan (max n g) (c.blocks + more) c.some greatest in
    ap (λ o. share account o (charge_of plans (Accepted (entry.Report report) ∷ history) s))
    c.into_is
    ∙ (λ i. cond (bytes_eq account (c.same_owner i)) (cost i) 0)

more_charged : (b : Bool) (unit k more new old before after : ℕ)
    → new + before ≡ old + after
    → before ≡ cond b (unit * k) 0 → after ≡ cond b (unit * (k + more)) 0
    → new ≡ old + cond b (unit * more) 0
more_charged true unit k more new old before after h x y = omega (arith, h, x, y)
more_charged false unit k more new old before after h x y = omega (arith, h, x, y)

-- The account is charged the blocks that the report counts more.
pub charged-raised : (plans : List Plan) (history : History) (report : ReportFacts) (plan : Plan)
    (owner : List ℕ) (more : ℕ) → RaisesBy plans history report plan owner more
    → (account : List ℕ)
    → charged plans (Accepted (entry.Report report) ∷ history) account
    ≡ charged plans history account + cond (bytes_eq account owner) (plan.unit * more) 0
charged-raised plans history report plan owner more c account =
    more_charged (bytes_eq account owner) plan.unit c.blocks more
    (charged plans (Accepted (entry.Report report) ∷ history) account)
    (charged plans history account) (cost_before plans history report account)
    (cost_after plans history report account) (charged-report plans history report account)
    (raise_before plans history report plan owner more c account
    (first_of (reports history (session_of report))) refl)
    (raise_after plans history report plan owner more c account)

-- ---- the sessions

one_less : (b : Bool) (unit one rest left mid all own : ℕ)
    → left + cond b (unit * rest) 0 ≡ mid → mid + own ≡ all → own ≡ cond b (unit * one) 0
    → left + cond b (unit * (one + rest)) 0 ≡ all
one_less true unit one rest left mid all own h g x = omega (arith, h, g, x)
one_less false unit one rest left mid all own h g x = omega (arith, h, g, x)

-- Without the sessions the account is charged their blocks less.
pub charged-without_all : (plans : List Plan) (plan : Plan) (owner : List ℕ) (history : History)
    (names : List SessionName) → AreOf plans plan owner history names → (account : List ℕ)
    → charged plans (without_all names history) account
    + cond (bytes_eq account owner) (plan.unit * blocks_of plan history names) 0
    ≡ charged plans history account
charged-without_all plans plan owner history [] are account =
    none (bytes_eq account owner) plan.unit (charged plans history account)
  where
    none : (b : Bool) (unit n : ℕ) → n + cond b (unit * 0) 0 ≡ n
    none true unit n = omega arith
    none false unit n = omega arith
charged-without_all plans plan owner history (name ∷ names) (is, are) account =
    let rest = without name history in
    let cost : share account (first_of (reports history name)) (charge_of plans history name)
    ≡ cond (bytes_eq account owner) (plan.unit
    * started_blocks plan.block (greatest_counted (Some plan) (reports history name))) 0 =
    ap (λ o. share account o (charge_of plans history name)) is.1
    ∙ (λ i. cond (bytes_eq account (is.2 i)) (cost_of (is.3 i) (reports history name)) 0) in
    one_less (bytes_eq account owner) plan.unit
    (started_blocks plan.block (greatest_counted (Some plan) (reports history name)))
    (blocks_of plan rest names)
    (charged plans (without_all names rest) account) (charged plans rest account)
    (charged plans history account)
    (share account (first_of (reports history name)) (charge_of plans history name))
    (charged-without_all plans plan owner rest names are account)
    (charged-without plans history name account) cost

pub topups-without_all : (names : List SessionName) (history : History)
    → all_topups (without_all names history) ≡ all_topups history
topups-without_all [] history = refl
topups-without_all (name ∷ names) history =
    topups-without_all names (without name history) ∙ topups-without history name

pub credited-without_all : (names : List SessionName) (history : History) (account : List ℕ)
    → credited (without_all names history) account ≡ credited history account
credited-without_all [] history account = refl
credited-without_all (name ∷ names) history account =
    credited-without_all names (without name history) account
    ∙ credited-without history name account

or_twice : (b c : Bool) → (b || (b || c)) ≡ (b || c)
or_twice true c = refl
or_twice false c = refl

-- without them the same accounts are known, other than their owner
known-without_all : (plans : List Plan) (plan : Plan) (owner : List ℕ) (history : History)
    (names : List SessionName) → AreOf plans plan owner history names → (account : List ℕ)
    → (bytes_eq account owner || is_known (without_all names history) account)
    ≡ (bytes_eq account owner || is_known history account)
known-without_all plans plan owner history [] are account = refl
known-without_all plans plan owner history (name ∷ names) (is, are) account =
    let rest = without name history in
    let mine : is_owner account (first_of (reports history name)) ≡ bytes_eq account owner =
    ap (is_owner account) is.1 ∙ ap (bytes_eq account) is.2 in
    known-without_all plans plan owner rest names are account
    ∙ sym (or_twice (bytes_eq account owner) (is_known rest account))
    ∙ sym (ap (λ b. bytes_eq account owner || b) (is_known-without history name account
    ∙ ap (λ b. b || is_known rest account) mine))

-- ---- the law

pub charged-forwarded : (plans : List Plan) (history : History) (name : SessionName)
    (names : List SessionName) (report : ReportFacts) → CarriesForward plans history name names report
    → (account : List ℕ)
    → charged plans (forwarded history (name ∷ names) report) account
    ≡ charged plans history account
charged-forwarded plans history name names report c account =
    charged-raised plans (without_all (name ∷ names) history) report c.plan c.owner
    (blocks_of c.plan history (name ∷ names)) c.raises account
    ∙ charged-without_all plans c.plan c.owner history (name ∷ names) c.are account

pub balance-forwarded : (plans : List Plan) (history : History) (name : SessionName)
    (names : List SessionName) (report : ReportFacts) → CarriesForward plans history name names report
    → (account : List ℕ)
    → balance_of plans (forwarded history (name ∷ names) report) account
    ≡ balance_of plans history account
balance-forwarded plans history name names report c account =
    λ i. pos (credited-without_all (name ∷ names) history account i)
    -ℤ pos (charged-forwarded plans history name names report c account i)

pub is_known-forwarded : (plans : List Plan) (history : History) (name : SessionName)
    (names : List SessionName) (report : ReportFacts) → CarriesForward plans history name names report
    → (account : List ℕ)
    → is_known (forwarded history (name ∷ names) report) account ≡ is_known history account
is_known-forwarded plans history name names report c account =
    let rest = without_all (name ∷ names) history in
    let first = c.are.0 in
    let into : is_owner account (first_of (report ∷ reports rest (session_of report)))
    ≡ bytes_eq account c.owner =
    ap (is_owner account) c.raises.into_is ∙ ap (bytes_eq account) c.raises.same_owner in
    let mine : is_owner account (first_of (reports history name)) ≡ bytes_eq account c.owner =
    ap (is_owner account) first.1 ∙ ap (bytes_eq account) first.2 in
    let own : is_known history account
    ≡ (bytes_eq account c.owner || is_known (without name history) account) =
    is_known-without history name account
    ∙ ap (λ b. b || is_known (without name history) account) mine in
    is_known-report rest report account ∙ ap (λ b. b || is_known rest account) into
    ∙ known-without_all plans c.plan c.owner history (name ∷ names) c.are account
    ∙ ap (λ b. bytes_eq account c.owner || b) own
    ∙ or_twice (bytes_eq account c.owner) (is_known (without name history) account)
    ∙ sym own

pub moves_nothing : ForwardMovesNothing
moves_nothing = record { balances = balance-forwarded; known = is_known-forwarded }
