-- What one accepted entry does to a content that stands for a history.
use Rattle.std.proofs.Common.{◌≡◌, ℕ, Bool, true, false, ◌||◌, cond, List, ◌∷◌, refl, sym, ap}
use Rattle.std.proofs.Common.{◌∙◌, subst, true≢false}
use Rattle.std.specs.Prelude.{ℤ, pos, ◌+ℤ◌, ◌-ℤ◌, Option, Some, None, unwrap_or, bytes_eq}
use Rattle.std.specs.Prelude.{option_map}
use Rattle.std.specs.List.{filter}
use Rattle.std.specs.Option.{option_or}
use Rattle.acct_model.specs.declared.plan.Plan.{Plan}
use Rattle.acct_model.specs.declared.entry.Restart.{Restart}
use Rattle.acct_model.specs.declared.entry.Entry.{Entry}
use Rattle.acct_model.specs.declared.entry.Entry.TheVariants as entry
use Rattle.acct_model.specs.Report.{ReportFacts}
use Rattle.acct_model.specs.Vouchers.{TopUpFacts}
use Rattle.acct_model.specs.Plans.{price_under}
use Rattle.acct_model.specs.History.{Accepted, History, session_of, reports, first_of, is_owner}
use Rattle.acct_model.specs.History.{plan_of, charge_of, all_topups, topup_of, balance_of, is_known}
use Rattle.acct_model.specs.History.{InRange, Admissible}
use Rattle.acct_model.proofs.Same.{Decides-bytes_eq}
use Rattle.acct_model.proofs.TopUps.{Agrees-fresh}
use Rattle.acct_model.proofs.Balances.{reports-own, cost_before, cost_after, before-none}
use Rattle.acct_model.proofs.Balances.{balance-report}
use Rattle.acct_model.proofs.Balances.{balance-report-other, balance-topup, balance-topup-other}
use Rattle.acct_model.proofs.Known.{is_known-report, is_known-topup, balance-unknown}
use Rattle.acct_book.specs.declared.key.Key.{Key}
use Rattle.acct_book.specs.Row.{RowFacts}
use Rattle.acct_book.specs.Content.{Content, same_key, key_of, kept_balance, with_session}
use Rattle.acct_book.specs.Content.{with_topup, with_closed}
use Rattle.acct_book.specs.Rows.{name_of, row_from, row_of_reports, is_restarted, row_of}
use Rattle.acct_book.specs.Charge.{charge_by, charge_of_row}
use Rattle.acct_book.specs.Next.{report_key, next_row, charge_before}
use Rattle.acct_book.specs.Stands.{Stands}
use Rattle.acct_book.specs.inner.Calls.{AddsEntry}
use Rattle.acct_book.specs.Outcome.{IsFresh, IsOverLimit}
use Rattle.acct_book.proofs.Keys.{octets_refl, octets_are, octets_sym, key_is}
use Rattle.acct_book.proofs.Rows.{greatest-counted, first_is, row-plan, row_of-report, row_of-other}
use Rattle.acct_book.proofs.Rows.{row_of-restart}

-- the entry may be accepted and no voucher of it was kept, and the content stands for the history
-- with it
pub record IsNew (plans : List Plan) (history : History) (next : Entry)
    (content : Content) : Type 0 where
  pub admissible : Admissible plans history next
  pub fresh : IsFresh history next
  pub stands : Stands plans content (Accepted next ∷ history)

-- ---- what a row says of its session

abbrev account_in : Option RowFacts → Option (List ℕ)
account_in o = option_map (λ row. row.account) o

abbrev user_in : Option ReportFacts → Option (List ℕ)
user_in o = option_map (λ first. first.user) o

account_at : (plan : Option Plan) (key : Key) (b : Bool) (all : List ReportFacts)
    (o : Option ReportFacts)
    → account_in (option_map (row_from plan key b all) o) ≡ user_in o
account_at plan key b all None = refl
account_at plan key b all (Some x) = refl

-- a row says what its session costs
pub charge-row : (plans : List Plan) (history : History) (key : Key) (x : ReportFacts)
    → first_of (reports history (name_of key)) ≡ Some x
    → charge_before plans (row_of plans history key) ≡ charge_of plans history (name_of key)
charge-row plans history key x is =
    let all = reports history (name_of key) in
    let plan = plan_of plans history (name_of key) in
    let row = row_from plan key (is_restarted history key) all x in
    ap (λ o. charge_before plans (option_map (row_from plan key (is_restarted history key) all) o))
    is ∙ ap (λ p. charge_by p row) (row-plan plans history key x is row refl)
    ∙ ap (price_under plan) (greatest-counted plan all)

-- ---- a report

abbrev pub row_after : List Plan → ReportFacts → History → RowFacts
row_after plans r history = next_row plans (row_of plans history (report_key r)) r

-- the first report of a session that has one more
first_after : (r : ReportFacts) (history : History)
    → (x : ReportFacts)
    × (first_of (reports (Accepted (entry.Report r) ∷ history) (session_of r)) ≡ Some x)
first_after r history =
    let first = first_is r (reports history (session_of r)) in
    (first.0, ap first_of (reports-own history r) ∙ first.1)

own_row : (plans : List Plan) (r : ReportFacts) (history : History)
    → row_of_reports (plan_of plans (Accepted (entry.Report r) ∷ history) (session_of r))
    (report_key r) (is_restarted history (report_key r)) (r ∷ reports history (session_of r)) ≡ Some
    (row_after plans r history)
own_row plans r history =
    ap (row_of_reports (plan_of plans (Accepted (entry.Report r) ∷ history) (session_of r))
    (report_key r) (is_restarted history (report_key r))) (sym (reports-own history r))
    ∙ row_of-report plans r history

-- the row after the report has the account of the session's first report
pub after-account : (plans : List Plan) (r : ReportFacts) (history : History)
    → user_in (first_of (r ∷ reports history (session_of r)))
    ≡ Some (row_after plans r history).account
after-account plans r history =
    sym (account_at (plan_of plans (Accepted (entry.Report r) ∷ history) (session_of r))
    (report_key r) (is_restarted history (report_key r))
    (r ∷ reports history (session_of r)) (first_of (r ∷ reports history (session_of r))))
    ∙ ap account_in (own_row plans r history)

pub after-charge : (plans : List Plan) (r : ReportFacts) (history : History)
    → charge_of plans (Accepted (entry.Report r) ∷ history) (session_of r) ≡ charge_of_row plans
    (row_after plans r history)
after-charge plans r history =
    let first = first_after r history in
    sym (charge-row plans (Accepted (entry.Report r) ∷ history) (report_key r) first.0 first.1)
    ∙ ap (charge_before plans) (row_of-report plans r history)

key_in_at : (plan : Option Plan) (key : Key) (b : Bool) (all : List ReportFacts)
    (o : Option ReportFacts) (row : RowFacts)
    → option_map (row_from plan key b all) o ≡ Some row → key_of row ≡ key
key_in_at plan key b all None row e = absurd (cc)
key_in_at plan key b all (Some x) row e = ap key_of (sym (is (row_from plan key b all x) row e))
  where
    is : (a c : RowFacts) → Some a ≡ Some c → a ≡ c
    is a c e = cc

pub after-key : (plans : List Plan) (r : ReportFacts) (history : History)
    → key_of (row_after plans r history) ≡ report_key r
after-key plans r history =
    key_in_at (plan_of plans (Accepted (entry.Report r) ∷ history) (session_of r)) (report_key r)
    (is_restarted history (report_key r))
    (r ∷ reports history (session_of r)) (first_of (r ∷ reports history (session_of r)))
    (row_after plans r history) (own_row plans r history)

owner_at : (a u : List ℕ) (o : Option ReportFacts) → user_in o ≡ Some u
    → is_owner a o ≡ bytes_eq a u
owner_at a u None e = absurd (cc)
owner_at a u (Some x) e = ap (bytes_eq a) (is x.user u e)
  where
    is : (p q : List ℕ) → Some p ≡ Some q → p ≡ q
    is p q e = cc

-- who is charged
pub mine : (plans : List Plan) (r : ReportFacts) (history : History) (a : List ℕ)
    → is_owner a (first_of (r ∷ reports history (session_of r))) ≡ bytes_eq
    (row_after plans r history).account a
mine plans r history a = owner_at a (row_after plans r history).account
    (first_of (r ∷ reports history (session_of r))) (after-account plans r history)
    ∙ octets_sym a (row_after plans r history).account

-- what the session cost its owner before the report
owed_before : (plans : List Plan) (r : ReportFacts) (history : History) (a : List ℕ)
    → is_owner a (first_of (r ∷ reports history (session_of r))) ≡ true
    → (o : Option ReportFacts) → first_of (reports history (session_of r)) ≡ o
    → cost_before plans history r a ≡ charge_before plans (row_of plans history (report_key r))
owed_before plans r history a own None is =
    let key = report_key r in
    before-none plans history r a is
    ∙ sym (ap (λ o. charge_before plans (option_map (row_from
    (plan_of plans history (session_of r)) key (is_restarted history key)
    (reports history (session_of r))) o)) is)
owed_before plans r history a own (Some x) is =
    let n = charge_of plans history (session_of r) in
    let owner : is_owner a (first_of (reports history (session_of r))) ≡ true =
    ap (is_owner a) is ∙ sym (ap (λ o. is_owner a (option_or o (Some r))) is) ∙ own in
    ap (λ b. cond b n 0) owner ∙ sym (charge-row plans history (report_key r) x is)

-- the balance of the account that it is charged to
pub balance-own : (plans : List Plan) (r : ReportFacts) (history : History) (a : List ℕ)
    → bytes_eq (row_after plans r history).account a ≡ true
    → balance_of plans (Accepted (entry.Report r) ∷ history) a ≡ (balance_of plans history a +ℤ pos
    (charge_before plans (row_of plans history (report_key r)))) -ℤ pos
    (charge_of_row plans (row_after plans r history))
balance-own plans r history a e =
    let rs = reports history (session_of r) in
    let own : is_owner a (first_of (r ∷ rs)) ≡ true = mine plans r history a ∙ e in
    let before = owed_before plans r history a own (first_of rs) refl in
    let after : cost_after plans history r a ≡ charge_of_row plans (row_after plans r history) = ap
    (λ b. cond b (charge_of plans (Accepted (entry.Report r) ∷ history) (session_of r)) 0) own
    ∙ after-charge plans r history in
    balance-report plans history r a ∙ (λ i. (balance_of plans history a +ℤ pos (before i)) -ℤ pos
    (after i))

pub balance-other : (plans : List Plan) (r : ReportFacts) (history : History) (a : List ℕ)
    → bytes_eq (row_after plans r history).account a ≡ false
    → balance_of plans (Accepted (entry.Report r) ∷ history) a ≡ balance_of plans history a
balance-other plans r history a e =
    balance-report-other plans history r a (mine plans r history a ∙ e)

pub known-after : (plans : List Plan) (r : ReportFacts) (history : History) (a : List ℕ)
    → is_known (Accepted (entry.Report r) ∷ history) a
    ≡ (bytes_eq (row_after plans r history).account a || is_known history a)
known-after plans r history a = is_known-report history r a ∙ ap (λ b. b || is_known history a)
    (mine plans r history a)

-- ---- what a book keeps

kept_at : (b : Bool) (z : ℤ) → (b ≡ false → z ≡ pos 0) → unwrap_or (cond b (Some z) None)
    (pos 0) ≡ z
kept_at true z h = refl
kept_at false z h = sym (h refl)

-- the balance that a book keeps is the balance
pub kept-balance : (plans : List Plan) (c : Content) (history : History) → Stands plans c history
    → (a : List ℕ) → kept_balance c a ≡ balance_of plans history a
kept-balance plans c history st a = ap (λ o. unwrap_or o (pos 0)) (st.balances a)
    ∙ kept_at (is_known history a) (balance_of plans history a) (balance-unknown plans history a)

abbrev known_balance : List Plan → History → List ℕ → Option ℤ
known_balance plans history a = cond (is_known history a) (Some (balance_of plans history a)) None

-- balances of which one account's moves to m
balances_at : (plans : List Plan) (old new : History) (a : List ℕ) (m : ℤ) (b : Bool)
    → is_known new a ≡ (b || is_known old a) → (b ≡ true → balance_of plans new a ≡ m)
    → (b ≡ false → balance_of plans new a ≡ balance_of plans old a)
    → cond b (Some m) (known_balance plans old a) ≡ known_balance plans new a
balances_at plans old new a m true known own other = sym
    (ap (λ k. cond k (Some (balance_of plans new a)) None) known ∙ ap Some (own refl))
balances_at plans old new a m false known own other = sym
    (λ i. cond (known i) (Some (other refl i)) None)

range_at : (plans : List Plan) (old new : History) (a : List ℕ) (m : ℤ) (b : Bool)
    → (b ≡ true → balance_of plans new a ≡ m) → (b ≡ false
    → balance_of plans new a ≡ balance_of plans old a) → InRange m
    → InRange (balance_of plans old a) → InRange (balance_of plans new a)
range_at plans old new a m true own other fits was = subst InRange (sym (own refl)) fits
range_at plans old new a m false own other fits was = subst InRange (sym (other refl)) was

-- ---- a content with the report

-- the balance after a report
abbrev pub after_report : List Plan → Content → ReportFacts → ℤ
after_report plans c r =
    let row = next_row plans (c.rows (report_key r)) r in
    (kept_balance c row.account +ℤ pos (charge_before plans (c.rows (report_key r)))) -ℤ pos
    (charge_of_row plans row)

rows_at : (plans : List Plan) (r : ReportFacts) (history : History) (k : Key) (b : Bool)
    → same_key (report_key r) k ≡ b → cond b (Some (row_after plans r history))
    (row_of plans history k) ≡ row_of plans (Accepted (entry.Report r) ∷ history) k
rows_at plans r history k true e = sym (ap (row_of plans (Accepted (entry.Report r) ∷ history))
    (sym (key_is (report_key r) k e)) ∙ row_of-report plans r history)
rows_at plans r history k false e = sym (row_of-other plans r history k e)

-- it is the balance
pub after_report_is : (plans : List Plan) (c : Content) (history : History) (r : ReportFacts)
    → Stands plans c history → (a : List ℕ) → bytes_eq (row_after plans r history).account a ≡ true
    → balance_of plans (Accepted (entry.Report r) ∷ history) a ≡ after_report plans c r
after_report_is plans c history r st a e =
    let is : (row_after plans r history).account ≡ a =
    octets_are (row_after plans r history).account a e in
    let row : c.rows (report_key r) ≡ row_of plans history (report_key r) =
    st.rows (report_key r) in
    balance-own plans r history a e
    ∙ ap (λ x. (balance_of plans history x +ℤ pos (charge_before plans
    (row_of plans history (report_key r)))) -ℤ pos
    (charge_of_row plans (row_after plans r history))) (sym is)
    ∙ ap (λ z. (z +ℤ pos (charge_before plans (row_of plans history (report_key r)))) -ℤ pos
    (charge_of_row plans (row_after plans r history))) (sym (kept-balance plans c history st
    (row_after plans r history).account))
    ∙ ap (λ o. (kept_balance c (next_row plans o r).account +ℤ pos (charge_before plans o)) -ℤ pos
    (charge_of_row plans (next_row plans o r))) (sym row)

pub report_stands : (plans : List Plan) (c : Content) (history : History) (r : ReportFacts)
    → Stands plans c history → InRange (after_report plans c r)
    → Stands plans
    (with_session c (next_row plans (c.rows (report_key r)) r) (after_report plans c r))
    (Accepted (entry.Report r) ∷ history)
report_stands plans c history r st fits =
    let row : next_row plans (c.rows (report_key r)) r ≡ row_after plans r history =
    ap (λ o. next_row plans o r)
    (st.rows (report_key r)) in
    let m : ℤ = after_report plans c r in
    let next = Accepted (entry.Report r) ∷ history in
    let test = bytes_eq (row_after plans r history).account in
    let own = after_report_is plans c history r st in
    let other = balance-other plans r history in
    subst (λ x. Stands plans (with_session c x m) next) (sym row) (record {
      rows = λ k.
          ap (λ s. cond (same_key s k) (Some (row_after plans r history)) (c.rows k))
          (after-key plans r history)
          ∙ ap (λ o. cond (same_key (report_key r) k) (Some (row_after plans r history)) o)
          (st.rows k)
          ∙ rows_at plans r history k (same_key (report_key r) k) refl;
      balances = λ a. ap (λ o. cond (test a) (Some m) o) (st.balances a)
          ∙ balances_at plans history next a m (test a) (known-after plans r history a) (own a)
          (other a);
      topups = st.topups;
      kept = st.kept;
      in_range = λ a. range_at plans history next a m (test a) (own a) (other a) fits
          (st.in_range a);
    })

pub report_new : (plans : List Plan) (c : Content) (history : History) (r : ReportFacts)
    → Stands plans c history → InRange (after_report plans c r)
    → IsNew plans history (entry.Report r)
    (with_session c (next_row plans (c.rows (report_key r)) r)
    (after_report plans c r))
report_new plans c history r st fits =
    let stands = report_stands plans c history r st fits in
    record {
      admissible = record { agrees = tt; in_range = stands.in_range };
      fresh = tt;
      stands
          = stands;
    }

pub report_over : (plans : List Plan) (c : Content) (history : History) (r : ReportFacts)
    → Stands plans c history → (InRange (after_report plans c r) → ⊥)
    → IsOverLimit plans history (entry.Report r) (kept_balance c
    (next_row plans (c.rows (report_key r)) r).account)
report_over plans c history r st over =
    let row : next_row plans (c.rows (report_key r)) r ≡ row_after plans r history =
    ap (λ o. next_row plans o r)
    (st.rows (report_key r)) in
    record {
      fresh = tt;
      account = (row_after plans r history).account;
      changes = ap (λ rs. user_in (first_of rs)) (reports-own history r)
          ∙ after-account plans r history;
      carried = ap (λ x. kept_balance c x.account) row ∙ kept-balance plans c history st
          (row_after plans r history).account;
      out_of_range = λ fits. over (subst InRange (after_report_is plans c history r st
          (row_after plans r history).account (octets_refl (row_after plans r history).account))
          fits);
    }

-- ---- a top-up

abbrev by_number : List ℕ → List TopUpFacts → List TopUpFacts
by_number number ts = filter (λ t. bytes_eq number t.voucher) ts

-- the first top-up by each number, after one by a number that isn't kept
topups_at : (history : History) (t : TopUpFacts) (n : List ℕ) (b : Bool)
    → topup_of history t.voucher ≡ None → bytes_eq t.voucher n ≡ b → bytes_eq n t.voucher ≡ b
    → cond b (Some t) (topup_of history n) ≡ first_of (cond b (t ∷ by_number n (all_topups history))
    (by_number n (all_topups history)))
topups_at history t n true h e f = ap (λ o. option_or o (Some t))
    (sym (ap (topup_of history) (sym (octets_are t.voucher n e)) ∙ h))
topups_at history t n false h e f = refl

topups_after : (history : History) (t : TopUpFacts) (n : List ℕ)
    → topup_of history t.voucher ≡ None → cond (bytes_eq t.voucher n) (Some t)
    (topup_of history n) ≡ topup_of (Accepted (entry.TopUp t) ∷ history) n
topups_after history t n h =
    topups_at history t n (bytes_eq t.voucher n) h refl (octets_sym n t.voucher)
    ∙ ap (λ b. first_of (cond b (t ∷ by_number n (all_topups history))
    (by_number n (all_topups history)))) (octets_sym t.voucher n)

-- the balance after a top-up by a number that isn't kept
pub after_topup_is : (plans : List Plan) (c : Content) (history : History) (t : TopUpFacts)
    → Stands plans c history → topup_of history t.voucher ≡ None → (a : List ℕ)
    → bytes_eq t.account a ≡ true
    → balance_of plans (Accepted (entry.TopUp t) ∷ history) a
    ≡ kept_balance c t.account +ℤ pos t.sum
after_topup_is plans c history t st h a e =
    ap (balance_of plans (Accepted (entry.TopUp t) ∷ history)) (sym (octets_are t.account a e))
    ∙ balance-topup plans history t h
    ∙ ap (λ z. z +ℤ pos t.sum) (sym (kept-balance plans c history st t.account))

topup_other : (plans : List Plan) (history : History) (t : TopUpFacts) (a : List ℕ)
    → bytes_eq t.account a ≡ false → balance_of plans (Accepted (entry.TopUp t) ∷ history) a
    ≡ balance_of plans history a
topup_other plans history t a e = balance-topup-other plans history t a
    (λ is. true≢false (sym ((Decides-bytes_eq t.account a).1 (sym is)) ∙ e))

pub topup_new : (plans : List Plan) (c : Content) (history : History) (t : TopUpFacts)
    → Stands plans c history → c.topups t.voucher ≡ None
    → InRange (kept_balance c t.account +ℤ pos t.sum)
    → IsNew plans history (entry.TopUp t) (with_topup c t (kept_balance c t.account +ℤ pos t.sum))
topup_new plans c history t st none fits =
    let h : topup_of history t.voucher ≡ None = sym (st.topups t.voucher) ∙ none in
    let m : ℤ = kept_balance c t.account +ℤ pos t.sum in
    let next = Accepted (entry.TopUp t) ∷ history in
    let test = bytes_eq t.account in
    let known : (a : List ℕ) → is_known next a ≡ (test a || is_known history a) = λ a.
    is_known-topup history t a ∙ ap (λ b. b || is_known history a) (octets_sym a t.account) in
    let own = after_topup_is plans c history t st h in
    let other = topup_other plans history t in
    let stands : Stands plans (with_topup c t m) next = record {
      rows = st.rows;
      balances = λ a. ap (λ o. cond (test a) (Some m) o) (st.balances a)
          ∙ balances_at plans history next a m (test a) (known a) (own a) (other a);
      topups = λ n. ap (λ o. cond (bytes_eq t.voucher n) (Some t) o) (st.topups n)
          ∙ topups_after history t n h;
      kept = st.kept;
      in_range = λ a. range_at plans history next a m (test a) (own a) (other a) fits
          (st.in_range a);
    } in
    record {
      admissible = record { agrees = Agrees-fresh history t h; in_range = stands.in_range };
      fresh = h;
      stands = stands;
    }

pub topup_over : (plans : List Plan) (c : Content) (history : History) (t : TopUpFacts)
    → Stands plans c history → c.topups t.voucher ≡ None
    → (InRange (kept_balance c t.account +ℤ pos t.sum) → ⊥)
    → IsOverLimit plans history (entry.TopUp t) (kept_balance c t.account)
topup_over plans c history t st none over =
    let h : topup_of history t.voucher ≡ None = sym (st.topups t.voucher) ∙ none in
    record {
      fresh = h;
      account = t.account;
      changes = refl;
      carried = kept-balance plans c history st t.account;
      out_of_range = λ fits. over (subst InRange (after_topup_is plans c history t st h t.account
          (octets_refl t.account)) fits);
    }

-- ---- a restart

pub restart_new : (plans : List Plan) (c : Content) (history : History) (x : Restart)
    → Stands plans c history → IsNew plans history (entry.Restart x) (with_closed c x.client)
restart_new plans c history x st =
    let now = Accepted (entry.Restart x) ∷ history in
    let stands : Stands plans (with_closed c x.client) now = record {
      rows = λ k. ap (option_map _) (st.rows k) ∙ sym (row_of-restart plans x history k);
      balances = st.balances;
      topups = st.topups;
      kept = st.kept;
      in_range = st.in_range;
    } in
    record {
      admissible = record { agrees = tt; in_range = st.in_range };
      fresh = tt;
      stands
          = stands;
    }

pub restart_adds : (plans : List Plan) (c : Content) (x : Restart) (client : List ℕ)
    → client ≡ x.client → AddsEntry plans (entry.Restart x) c (with_closed c client)
restart_adds plans c x client is history st =
    let new = restart_new plans c history x st in (
      new.admissible,
      new.fresh,
      subst (λ k. Stands plans (with_closed c k)
          (Accepted (entry.Restart x) ∷ history)) (sym is) new.stands,
    )
