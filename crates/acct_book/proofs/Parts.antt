-- The part of an account, after an entry of another, and its members in order.
use Rattle.std.proofs.Common.{◌≡◌, ℕ, Bool, true, false, cond, List, ◌∷◌, refl, sym, ap}
use Rattle.std.proofs.Common.{◌∙◌}
use Rattle.std.specs.Prelude.{Option, Some, None, bytes_eq, option_map}
use Rattle.std.specs.List.{filter}
use Rattle.std.specs.Option.{option_or}
use Rattle.acct_model.specs.declared.plan.Plan.{Plan}
use Rattle.acct_model.specs.declared.entry.Entry.TheVariants as entry
use Rattle.acct_model.specs.Report.{ReportFacts}
use Rattle.acct_model.specs.Vouchers.{TopUpFacts}
use Rattle.acct_model.specs.History.{Accepted, History, first_of, all_topups, topup_of}
use Rattle.acct_model.proofs.Same.{Decides-bytes_eq, Decides-false}
use Rattle.acct_model.proofs.Balances.{reports-own, balance-topup-other}
use Rattle.acct_book.specs.declared.key.Key.{Key}
use Rattle.acct_book.specs.Row.{RowFacts}
use Rattle.acct_book.specs.Content.{same_key}
use Rattle.acct_book.specs.Rows.{row_of}
use Rattle.acct_book.specs.Next.{report_key, next_row}
use Rattle.acct_book.specs.Outcome.{account_of}
use Rattle.acct_book.specs.Part.{own_row, own_topup, OtherPartsStay}
use Rattle.acct_book.proofs.Keys.{key_is, octets_sym}
use Rattle.acct_book.proofs.Rows.{row_of-report, row_of-other}
use Rattle.acct_book.proofs.Steps.{row_after, after-account, balance-other}

abbrev user_in : Option ReportFacts → Option (List ℕ)
user_in o = option_map (λ first. first.user) o

-- the account of the row before is that of the row after
own_before : (plans : List Plan) (a : List ℕ) (o : Option RowFacts) (r : ReportFacts)
    → bytes_eq a (next_row plans o r).account ≡ false → own_row a o ≡ None
own_before plans a None r e = refl
own_before plans a (Some row) r e = ap (λ b. cond b (Some row) None) e

rows_stay : (plans : List Plan) (a : List ℕ) (history : History) (r : ReportFacts) (k : Key)
    (b : Bool)
    → same_key (report_key r) k ≡ b → bytes_eq a (row_after plans r history).account ≡ false
    → own_row a (row_of plans (Accepted (entry.Report r) ∷ history) k)
    ≡ own_row a (row_of plans history k)
rows_stay plans a history r k true e other =
    let at : k ≡ report_key r = sym (key_is (report_key r) k e) in
    ap (λ x. own_row a (row_of plans (Accepted (entry.Report r) ∷ history) x)) at
    ∙ ap (own_row a) (row_of-report plans r history)
    ∙ ap (λ b. cond b (Some (row_after plans r history)) None) other
    ∙ sym (own_before plans a (row_of plans history (report_key r)) r other)
    ∙ ap (λ x. own_row a (row_of plans history x)) (sym at)
rows_stay plans a history r k false e other = ap (own_row a) (row_of-other plans r history k e)

first_stays : (a : List ℕ) (o : Option TopUpFacts) (t : TopUpFacts) → bytes_eq a t.account ≡ false
    → own_topup a (option_or o (Some t)) ≡ own_topup a o
first_stays a None t e = ap (λ b. cond b (Some t) None) e
first_stays a (Some u) t e = refl

topups_stay : (a : List ℕ) (ts : List TopUpFacts) (t : TopUpFacts) (b : Bool)
    → bytes_eq a t.account ≡ false → own_topup a (first_of (cond b (t ∷ ts) ts)) ≡ own_topup a
    (first_of ts)
topups_stay a ts t true e = first_stays a (first_of ts) t e
topups_stay a ts t false e = refl

some_is : {A : Type 0} (x y : A) → Some x ≡ Some y → x ≡ y
some_is x y e = cc

pub other_parts_stay : (plans : List Plan) (history : History) (account : List ℕ)
    → OtherPartsStay plans history account
other_parts_stay plans history a = record {
  reports = λ r not_mine.
      let account : account_of history (entry.Report r)
      ≡ Some (row_after plans r history).account = ap
      (λ rs. user_in (first_of rs)) (reports-own history r) ∙ after-account plans r history in
      let other : bytes_eq a (row_after plans r history).account ≡ false =
      Decides-false (bytes_eq a (row_after plans r history).account)
      (Decides-bytes_eq a (row_after plans r history).account)
      (λ e. not_mine (account ∙ ap Some (sym e))) in
      let before = balance-other plans r history a (octets_sym (row_after plans r history).account a
      ∙ other) in
      λ i. record {
        balance = before i;
        rows = λ k. rows_stay plans a history r k (same_key (report_key r) k) refl other i;
        topups = λ n. own_topup a (topup_of history n);
      };
  topups = λ t not_mine.
      let other : bytes_eq a t.account ≡ false = Decides-false (bytes_eq a t.account)
      (Decides-bytes_eq a t.account) (λ e. not_mine (sym e)) in
      let before = balance-topup-other plans history t a (λ e. not_mine (sym e)) in
      λ i. record {
        balance = before i;
        rows = λ k. own_row a (row_of plans history k);
        topups = λ n. topups_stay a (filter (λ u. bytes_eq n u.voucher) (all_topups history)) t
            (bytes_eq n t.voucher) other i;
      };
}
