-- What the calls of a book return together.
use Rattle.std.proofs.Common.{◌≡◌, ◌≢◌, ℕ, List, sym, ap, ◌∙◌, subst, arith}
use Rattle.std.specs.Prelude.{ℤ, pos, ◌+ℤ◌, ◌-ℤ◌, Option, Some, None}
use Rattle.std.proofs.lemmas.Int.{ints}
use Rattle.acct_model.specs.declared.plan.Plan.{Plan}
use Rattle.acct_model.specs.declared.entry.Entry.TheVariants as entry
use Rattle.acct_model.specs.Report.{ReportFacts}
use Rattle.acct_model.specs.Vouchers.{TopUpFacts}
use Rattle.acct_model.specs.History.{History, InRange}
use Rattle.acct_book.specs.declared.key.Key.{Key}
use Rattle.acct_book.specs.Row.{RowFacts}
use Rattle.acct_book.specs.Content.{Content, kept_balance, with_session, with_topup}
use Rattle.acct_book.specs.Charge.{charge_of_row}
use Rattle.acct_book.specs.Next.{report_key, next_row, charge_before}
use Rattle.acct_book.specs.Stands.{Stands}
use Rattle.acct_book.specs.Outcome.{IsOverLimit, IsRepeated, Differs}
use Rattle.acct_book.proofs.Steps.{IsNew, after_report, report_new, report_over, topup_new}
use Rattle.acct_book.proofs.Steps.{topup_over}

-- what was read of a content before a report is put into it
pub record ReportRead (plans : List Plan) (c : Content) (r : ReportFacts) (row : RowFacts)
    (before after : ℕ) (balance : ℤ) : Type 0 where
  pub row_is : row ≡ next_row plans (c.rows (report_key r)) r
  pub before_is : before ≡ charge_before plans (c.rows (report_key r))
  pub after_is : after ≡ charge_of_row plans row
  pub balance_is : balance ≡ kept_balance c row.account

pub report_read : (plans : List Plan) (c0 c1 : Content) (r : ReportFacts) (key : Key)
    (found : Option RowFacts) (row : RowFacts) (before after : ℕ) (account : List ℕ) (balance : ℤ)
    → c1 ≡ c0 → key ≡ report_key r → found ≡ c0.rows key → row ≡ next_row plans found r
    → before ≡ charge_before plans found → after ≡ charge_of_row plans row → account ≡ row.account
    → balance ≡ kept_balance c1 account
    → ReportRead plans c0 r row before after balance
report_read plans c0 c1 r key found row before after account balance same k f w b a u n =
    let f' : found ≡ c0.rows (report_key r) = f ∙ ap c0.rows k in
    record {
      row_is = w ∙ ap (λ o. next_row plans o r) f';
      before_is = b ∙ ap (charge_before plans) f';
      after_is = a;
      balance_is = n ∙ (λ i. kept_balance (same i) (u i));
    }

pub read_moved : (plans : List Plan) (c : Content) (r : ReportFacts) (row : RowFacts)
    (before after : ℕ) (balance : ℤ) → ReportRead plans c r row before after balance
    → (balance +ℤ pos before) -ℤ pos after ≡ after_report plans c r
read_moved plans c r row before after balance read =
    let b : balance ≡ kept_balance c (next_row plans (c.rows (report_key r)) r).account =
    read.balance_is
    ∙ ap (λ x. kept_balance c x.account) read.row_is in
    let a : after ≡ charge_of_row plans (next_row plans (c.rows (report_key r)) r) = read.after_is
    ∙ ap (charge_of_row plans) read.row_is in
    λ i. (b i +ℤ pos (read.before_is i)) -ℤ pos (a i)

pub read_new : (plans : List Plan) (c : Content) (history : History) (r : ReportFacts)
    (row : RowFacts) (before after : ℕ) (balance : ℤ) (m : ℤ) (new : Content)
    → ReportRead plans c r row before after balance → Stands plans c history
    → m ≡ (balance +ℤ pos before) -ℤ pos after → InRange m → new ≡ with_session c row m
    → IsNew plans history (entry.Report r) new
read_new plans c history r row before after balance m new read st is fits put =
    let is' : m ≡ after_report plans c r = is ∙ read_moved plans c r row before after balance
    read in
    let put' : new ≡ with_session c (next_row plans (c.rows (report_key r)) r)
    (after_report plans c r) = put ∙ (λ i. with_session c (read.row_is i) (is' i)) in
    subst (IsNew plans history (entry.Report r)) (sym put')
    (report_new plans c history r st (subst InRange is' fits))

pub read_over : (plans : List Plan) (c : Content) (history : History) (r : ReportFacts)
    (row : RowFacts) (before after : ℕ) (balance : ℤ)
    → ReportRead plans c r row before after balance → Stands plans c history
    → (InRange ((balance +ℤ pos before) -ℤ pos after) → ⊥)
    → IsOverLimit plans history (entry.Report r) balance
read_over plans c history r row before after balance read st over =
    let b : balance ≡ kept_balance c (next_row plans (c.rows (report_key r)) r).account =
    read.balance_is
    ∙ ap (λ x. kept_balance c x.account) read.row_is in
    subst (IsOverLimit plans history (entry.Report r)) (sym b)
    (report_over plans c history r st (λ fits. over (subst InRange
    (sym (read_moved plans c r row before after balance read)) fits)))

less_none : (z : ℤ) (n : ℕ) → (z +ℤ pos n) -ℤ pos 0 ≡ z +ℤ pos n
less_none z n = omega (arith, ints)

pub topup_read_new : (plans : List Plan) (c : Content) (history : History) (t : TopUpFacts)
    (balance m : ℤ) (new : Content)
    → Stands plans c history → c.topups t.voucher ≡ None → balance ≡ kept_balance c t.account
    → m ≡ (balance +ℤ pos t.sum) -ℤ pos 0 → InRange m → new ≡ with_topup c t m
    → IsNew plans history (entry.TopUp t) new
topup_read_new plans c history t balance m new st none b is fits put =
    let is' : m ≡ kept_balance c t.account +ℤ pos t.sum = is ∙ less_none balance t.sum
    ∙ ap (λ z. z +ℤ pos t.sum) b in
    subst (IsNew plans history (entry.TopUp t)) (sym (put ∙ ap (with_topup c t) is'))
    (topup_new plans c history t st none (subst InRange is' fits))

pub topup_read_over : (plans : List Plan) (c : Content) (history : History) (t : TopUpFacts)
    (balance : ℤ)
    → Stands plans c history → c.topups t.voucher ≡ None → balance ≡ kept_balance c t.account
    → (InRange ((balance +ℤ pos t.sum) -ℤ pos 0) → ⊥) → IsOverLimit plans history
    (entry.TopUp t) balance
topup_read_over plans c history t balance st none b over =
    subst (IsOverLimit plans history (entry.TopUp t)) (sym b)
    (topup_over plans c history t st none (λ fits. over (subst InRange
    (sym (less_none balance t.sum ∙ ap (λ z. z +ℤ pos t.sum) b)) fits)))

pub topup_repeated : (plans : List Plan) (c : Content) (history : History) (t kept : TopUpFacts)
    → Stands plans c history → Some kept ≡ c.topups t.voucher → kept.account ≡ t.account
    → kept.sum ≡ t.sum → IsRepeated history (entry.TopUp t)
topup_repeated plans c history t kept st found a s = (kept, sym (found ∙ st.topups t.voucher), a, s)

pub topup_differs : (plans : List Plan) (c : Content) (history : History) (t kept : TopUpFacts)
    → Stands plans c history → Some kept ≡ c.topups t.voucher
    → (kept.account ≡ t.account → kept.sum ≢ t.sum) → Differs history (entry.TopUp t) kept
topup_differs plans c history t kept st found d = (sym (found ∙ st.topups t.voucher), d)
