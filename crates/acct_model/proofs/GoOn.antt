-- A history in which sessions were carried forward continues as the one in which none were.
use Rattle.std.proofs.Common.{◌≡◌, ◌≢◌, ℕ, Bool, true, false, cond, List, [], ◌∷◌, refl, sym, ◌∙◌}
use Rattle.std.proofs.Common.{ap}
use Rattle.std.proofs.Common.{map, true≢false, arith}
use Rattle.std.proofs.lemmas.Int.{ints}
use Rattle.std.specs.Prelude.{pos, ◌-ℤ◌, ◌+ℤ◌, bytes_eq, Option, Some, None}
use Rattle.std.specs.Prelude.{Contains}
use Rattle.std.specs.List.{sum_by, filter}
use Rattle.std.specs.Option.{option_or, option_and_then}
use Rattle.acct_model.specs.declared.plan.Plan.{Plan}
use Rattle.acct_model.specs.declared.entry.Entry.{Entry}
use Rattle.acct_model.specs.declared.entry.Entry.TheVariants as entry
use Rattle.acct_model.specs.Report.{ReportFacts}
use Rattle.acct_model.specs.Vouchers.{TopUpFacts}
use Rattle.acct_model.specs.Plans.{Extends, plans_added, plans_before}
use Rattle.acct_model.specs.PlanFaults.{plans_fault}
use Rattle.acct_model.specs.History.{Accepted, PlansAdded, History, Opening, SessionName}
use Rattle.acct_model.specs.History.{session_of, same_session, reports, first_of, opening_of}
use Rattle.acct_model.specs.History.{plan_opened, plan_of, cost_of, charge_of, share, charged}
use Rattle.acct_model.specs.History.{all_topups, distinct, same_voucher, voucher_of, credited}
use Rattle.acct_model.specs.History.{balance_of}
use Rattle.acct_model.specs.Forward.{without, GoOnAlike, is_of_aside}
use Rattle.acct_model.specs.Forward.{ForwardGoesOn, without_all, CarriesForward, forwarded}
use Rattle.acct_model.proofs.Balances.{first_in, opening-first, cost_before, cost_after}
use Rattle.acct_model.proofs.Balances.{balance-report, charge-own, reports-other, plan-other}
use Rattle.acct_model.proofs.SamePlans.{SamePlans, same-kept, same-balance}
use Rattle.acct_model.proofs.KeptLaws.{before-added}
use Rattle.acct_model.proofs.Without.{reports-kept, plan-kept}
use Rattle.acct_model.proofs.Forward.{balance-forwarded, topups-without_all}
use Rattle.acct_model.proofs.Lists.{here, deeper}

-- ---- one more report

-- a session is opened in both or in neither, and then by the same plan
opened_alike : (plans : List Plan) (r : ReportFacts) (o p : Option Opening) (b : Bool)
    → first_in o ≡ first_in p
    → option_and_then plan_opened o ≡ option_and_then plan_opened p
    → option_and_then plan_opened
    (option_or o (cond b (Some (record { first = r; plans = plans })) None))
    ≡ option_and_then plan_opened
    (option_or p (cond b (Some (record { first = r; plans = plans })) None))
opened_alike plans r (Some x) (Some y) b first same = same
opened_alike plans r (Some x) None b first same = absurd (cc)
opened_alike plans r None (Some y) b first same = absurd (cc)
opened_alike plans r None None b first same = refl

plan-alike : (plans : List Plan) (whole kept : History) (r : ReportFacts) (name : SessionName)
    → reports whole name ≡ reports kept name
    → plan_of plans whole name ≡ plan_of plans kept name
    → plan_of plans (Accepted (entry.Report r) ∷ whole) name
    ≡ plan_of plans (Accepted (entry.Report r) ∷ kept) name
plan-alike plans whole kept r name same plan =
    opened_alike plans r (opening_of plans whole name) (opening_of plans kept name)
    (same_session name (session_of r))
    (opening-first plans whole name ∙ ap first_of same ∙ sym (opening-first plans kept name)) plan

reports-alike : (whole kept : History) (r : ReportFacts) (name : SessionName)
    → reports whole name ≡ reports kept name
    → reports (Accepted (entry.Report r) ∷ whole) name
    ≡ reports (Accepted (entry.Report r) ∷ kept) name
reports-alike whole kept r name same =
    ap (λ rs. cond (same_session name (session_of r)) (r ∷ rs) rs) same

balance-alike : (plans : List Plan) (whole kept : History) (r : ReportFacts) (account : List ℕ)
    → reports whole (session_of r) ≡ reports kept (session_of r)
    → plan_of plans whole (session_of r) ≡ plan_of plans kept (session_of r)
    → balance_of plans whole account ≡ balance_of plans kept account
    → balance_of plans (Accepted (entry.Report r) ∷ whole) account
    ≡ balance_of plans (Accepted (entry.Report r) ∷ kept) account
balance-alike plans whole kept r account same plan balance =
    let s = session_of r in
    let after = plan-alike plans whole kept r s same plan in
    let before : cost_before plans whole r account ≡ cost_before plans kept r account =
    λ i. share account (first_of (same i)) (cost_of (plan i) (same i)) in
    let charge : charge_of plans (Accepted (entry.Report r) ∷ whole) s
    ≡ charge_of plans (Accepted (entry.Report r) ∷ kept) s =
    charge-own plans whole r ∙ (λ i. cost_of (after i) (r ∷ same i))
    ∙ sym (charge-own plans kept r) in
    let now : cost_after plans whole r account ≡ cost_after plans kept r account =
    λ i. share account (first_of (r ∷ same i)) (charge i) in
    balance-report plans whole r account
    ∙ (λ i. (balance i +ℤ pos (before i)) -ℤ pos (now i))
    ∙ sym (balance-report plans kept r account)

-- ---- one more top-up

-- what top-ups give an account
given : List ℕ → List TopUpFacts → ℕ
given account ts = sum_by (λ v. v.1) (distinct same_voucher
    (map voucher_of (filter (λ t. bytes_eq account t.account) ts)))

-- if balances and credits are the same, so are the charges
same_charged : (credit one other : ℕ) → pos credit -ℤ pos one ≡ pos credit -ℤ pos other
    → one ≡ other
same_charged credit one other e = omega (arith, ints, e)

topup-alike : (plans : List Plan) (whole kept : History) (t : TopUpFacts) (account : List ℕ)
    → all_topups whole ≡ all_topups kept
    → balance_of plans whole account ≡ balance_of plans kept account
    → balance_of plans (Accepted (entry.TopUp t) ∷ whole) account
    ≡ balance_of plans (Accepted (entry.TopUp t) ∷ kept) account
unfolding given
topup-alike plans whole kept t account same balance =
    let credit : credited whole account ≡ credited kept account = ap (given account) same in
    let charge : charged plans whole account ≡ charged plans kept account =
    same_charged (credited whole account) (charged plans whole account)
    (charged plans kept account)
    (balance ∙ ap (λ n. pos n -ℤ pos (charged plans kept account)) (sym credit)) in
    λ i. pos (given account (t ∷ same i)) -ℤ pos (charge i)

-- ---- the law

accepted_alike : (plans : List Plan) (is_aside : SessionName → Bool) (whole kept : History)
    (next : Entry) → GoOnAlike plans is_aside whole kept → is_of_aside is_aside next ≡ false
    → GoOnAlike plans is_aside (Accepted next ∷ whole) (Accepted next ∷ kept)
accepted_alike plans is_aside whole kept (entry.Report r) alike may = record {
  balances = λ account. balance-alike plans whole kept r account
      (alike.reports (session_of r) may) (alike.planned (session_of r) may)
      (alike.balances account);
  reports = λ name other. reports-alike whole kept r name (alike.reports name other);
  planned = λ name other. plan-alike plans whole kept r name (alike.reports name other)
      (alike.planned name other);
  topups = alike.topups;
}
accepted_alike plans is_aside whole kept (entry.Restart x) alike may = record {
  balances = alike.balances;
  reports = alike.reports;
  planned = alike.planned;
  topups = alike.topups;
}
accepted_alike plans is_aside whole kept (entry.TopUp t) alike may = record {
  balances = λ account. topup-alike plans whole kept t account alike.topups
      (alike.balances account);
  reports = alike.reports;
  planned = alike.planned;
  topups = ap (λ ts. t ∷ ts) alike.topups;
}

added_alike : (old new : List Plan) (is_aside : SessionName → Bool) (whole kept : History)
    → plans_fault old ≡ None → plans_fault new ≡ None → Extends new old
    → GoOnAlike old is_aside whole kept
    → GoOnAlike new is_aside (PlansAdded (plans_added old new) ∷ whole)
    (PlansAdded (plans_added old new) ∷ kept)
added_alike old new is_aside whole kept good fine extends alike =
    let before = plans_before (plans_added old new) new in
    let same : SamePlans old before = before-added old new good fine extends in
    record {
      balances = λ account. sym (same-balance old before whole account same)
          ∙ alike.balances account ∙ same-balance old before kept account same;
      reports = alike.reports;
      planned = λ name other. sym (same-kept old before whole name same).0
          ∙ alike.planned name other ∙ (same-kept old before kept name same).0;
      topups = alike.topups;
    }

-- the sessions that were not taken out have their reports and plans
kept_all : (plans : List Plan) (is_aside : SessionName → Bool) (names : List SessionName)
    (history : History) (other : SessionName) → is_aside other ≡ false
    → ((gone : SessionName) → Contains names gone → is_aside gone ≡ true)
    → (reports (without_all names history) other ≡ reports history other)
    × (plan_of plans (without_all names history) other ≡ plan_of plans history other)
kept_all plans is_aside [] history other may gone = (refl, refl)
kept_all plans is_aside (name ∷ names) history other may gone =
    let differs : other ≢ name =
    λ is. true≢false (sym (gone name (here name names)) ∙ ap is_aside (sym is) ∙ may) in
    let rest = kept_all plans is_aside names (without name history) other may
    (λ x there. gone x (deeper name x names there)) in (
      rest.0 ∙ reports-kept history name other differs,
      rest.1 ∙ plan-kept plans history name other differs,
    )

forward_alike : (plans : List Plan) (is_aside : SessionName → Bool) (whole kept : History)
    (name : SessionName) (names : List SessionName) (report : ReportFacts)
    → GoOnAlike plans is_aside whole kept → CarriesForward plans kept name names report
    → ((gone : SessionName) → Contains (name ∷ names) gone → is_aside gone ≡ true)
    → is_aside (session_of report) ≡ true
    → GoOnAlike plans is_aside whole (forwarded kept (name ∷ names) report)
forward_alike plans is_aside whole kept name names report alike c gone into = record {
  balances = λ account. alike.balances account
      ∙ sym (balance-forwarded plans kept name names report c account);
  reports = λ other may.
      let apart : other ≢ session_of report =
      λ is. true≢false (sym into ∙ ap is_aside (sym is) ∙ may) in
      alike.reports other may
      ∙ sym (kept_all plans is_aside (name ∷ names) kept other may gone).0
      ∙ sym (reports-other (without_all (name ∷ names) kept) report other apart);
  planned = λ other may.
      let apart : other ≢ session_of report =
      λ is. true≢false (sym into ∙ ap is_aside (sym is) ∙ may) in
      alike.planned other may
      ∙ sym (kept_all plans is_aside (name ∷ names) kept other may gone).1
      ∙ sym (plan-other plans (without_all (name ∷ names) kept) report other apart);
  topups = alike.topups ∙ sym (topups-without_all (name ∷ names) kept);
}

pub goes_on : ForwardGoesOn
goes_on = record {
  begins = λ plans is_aside history. record {
    balances = λ account. refl;
    reports = λ name may. refl;
    planned = λ name may. refl;
    topups = refl;
  };
  accepted = accepted_alike;
  added = added_alike;
  forward = forward_alike;
  more = λ plans is_aside is_more whole kept more alike. record {
    balances = alike.balances;
    reports = λ name may. alike.reports name (more name may);
    planned = λ name may. alike.planned name (more name may);
    topups = alike.topups;
  };
}
