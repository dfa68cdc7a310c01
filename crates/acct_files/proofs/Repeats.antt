-- Why a line that was taken once is a repeat later.
use Rattle.std.proofs.Common.{◌≡◌, ℕ, zero, suc, Bool, true, false, cond, List, [], ◌∷◌, ◌++◌}
use Rattle.std.proofs.Common.{Option, Some, None, Result, Ok, Err, refl, sym, ◌∙◌, ap, subst}
use Rattle.std.specs.Prelude.{if◌then◌else◌, not, slice_get, bytes_eq}
use Rattle.std.specs.List.{filter}
use Rattle.std.specs.Option.{option_or}
use Rattle.percent_encoding.specs.Percent.{percent_decode}
use Rattle.acct_model.specs.declared.plan.Plan.{Plan}
use Rattle.acct_model.specs.declared.entry.Entry.TheVariants as entry
use Rattle.acct_model.specs.Vouchers.{TopUpFacts, is_voucher_number, is_voucher_account}
use Rattle.acct_model.specs.Vouchers.{is_voucher_sum}
use Rattle.acct_model.specs.History.{Member, Accepted, PlansAdded, History}
use Rattle.acct_model.specs.History.{first_of, all_topups, topup_of}
use Rattle.acct_model.proofs.Same.{Decides-bytes_eq}
use Rattle.acct_book.specs.Effect.{Effect, added, repeated, differs, limited, failed, looked}
use Rattle.acct_book.specs.Effect.{passed, unasked, after_effect, Holds}
use Rattle.acct_book.specs.Outcome.{IsRepeated}
use Rattle.acct_files.specs.declared.import_report.Cause.{Cause}
use Rattle.acct_files.specs.declared.import_report.Cause.TheVariants.{FieldCount, BadVoucher}
use Rattle.acct_files.specs.declared.import_report.Cause.TheVariants.{BadAccount, BadSum}
use Rattle.acct_files.specs.declared.import_report.Cause.TheVariants.{VoucherDiffers, BalanceLimit}
use Rattle.acct_files.specs.declared.import_report.Outcome.{Outcome}
use Rattle.acct_files.specs.declared.import_report.Outcome.TheVariants.{Added, Repeated, Refused}
use Rattle.acct_files.specs.Importing.{Becomes, Imported, is_refused}
use Rattle.acct_files.specs.Laws.{RepeatsLater}
use Rattle.acct_files.specs.Vouchers.{Fields, three_of, sum_of, asked_by}

-- the history keeps the voucher of a top-up, with its account and sum
abbrev Keeps : History → TopUpFacts → Type 0
Keeps history topup = IsRepeated history (entry.TopUp topup)

-- ---- what is kept stays

first_kept : (b : Bool) (t : TopUpFacts) (xs : List TopUpFacts) (k : TopUpFacts)
    → first_of xs ≡ Some k → first_of (cond b (t ∷ xs) xs) ≡ Some k
first_kept true t xs k e = ap (λ o. option_or o (Some t)) e
first_kept false t xs k e = e

kept_longer : (next : Member) (history : History) (n : List ℕ) (k : TopUpFacts)
    → topup_of history n ≡ Some k → topup_of (next ∷ history) n ≡ Some k
kept_longer (Accepted (entry.Report r)) history n k h = h
kept_longer (Accepted (entry.Restart r)) history n k h = h
kept_longer (Accepted (entry.TopUp t)) history n k h =
    first_kept (bytes_eq n t.voucher) t (filter (λ x. bytes_eq n x.voucher) (all_topups history)) k
    h
kept_longer (PlansAdded plans) history n k h = h

keeps_longer : (next : Member) (history : History) (t : TopUpFacts) → Keeps history t
    → Keeps (next ∷ history) t
keeps_longer next history t (k, is, account, amount) =
    (k, kept_longer next history t.voucher k is, account, amount)

keeps_behind : (later history : History) (t : TopUpFacts) → Keeps history t
    → Keeps (later ++ history) t
keeps_behind [] history t h = h
keeps_behind (next ∷ later) history t h =
    keeps_longer next (later ++ history) t (keeps_behind later history t h)

effect_keeps : (old : History) (effect : Effect) (t : TopUpFacts) → Keeps old t
    → Keeps (after_effect old effect) t
effect_keeps old (added e) t h = keeps_longer (Accepted e) old t h
effect_keeps old (repeated e) t h = h
effect_keeps old (differs e kept) t h = h
effect_keeps old (limited e balance) t h = h
effect_keeps old (failed e) t h = h
effect_keeps old looked t h = h
effect_keeps old passed t h = h
effect_keeps old unasked t h = h

run_keeps : (plans : List Plan) (moment : ℕ) (old new : History) (rows : List Fields)
    (outcomes : List Outcome) (t : TopUpFacts) → Keeps old t
    → Imported plans moment old rows outcomes new → Keeps new t
run_keeps plans moment old new [] [] t h run = subst (λ x. Keeps x t) (sym run) h
run_keeps plans moment old new (line ∷ rows) (outcome ∷ outcomes) t h
    (effect, here, holds, rest) =
    run_keeps plans moment (after_effect old effect) new rows outcomes t
    (effect_keeps old effect t h) rest
run_keeps plans moment old new [] (outcome ∷ outcomes) t h run = absurd run
run_keeps plans moment old new (line ∷ rows) [] t h run = absurd run

-- ---- what was taken is kept

newest : (b : Bool) (t : TopUpFacts) (xs : List TopUpFacts) → b ≡ true → first_of xs ≡ None
    → first_of (cond b (t ∷ xs) xs) ≡ Some t
newest true t xs e none = ap (λ o. option_or o (Some t)) none
newest false t xs e none = absurd (cc e)

taken_keeps : (plans : List Plan) (old : History) (wanted : Result TopUpFacts Cause)
    (outcome : Outcome) (effect : Effect) → is_refused outcome ≡ false
    → Becomes wanted outcome effect → Holds plans old effect
    → (t : TopUpFacts) × (wanted ≡ Ok t) × Keeps (after_effect old effect) t
taken_keeps plans old (Ok t) Added effect r is holds = (
  t,
  refl,
  subst (λ e. Keeps (after_effect old e) t) (sym is) (
    t,
    newest (bytes_eq t.voucher t.voucher) t
        (filter (λ x. bytes_eq t.voucher x.voucher) (all_topups old))
        ((Decides-bytes_eq t.voucher t.voucher).1 refl) (subst (Holds plans old) is holds).1,
    refl,
    refl,
  ),
)
taken_keeps plans old (Ok t) Repeated effect r is holds =
    (t, refl, subst (λ e. Keeps (after_effect old e) t) (sym is) (subst (Holds plans old) is holds))
taken_keeps plans old (Ok t) (Refused cause) effect r is holds = absurd (cc r)
taken_keeps plans old (Err cause) Added effect r is holds = absurd is
taken_keeps plans old (Err cause) Repeated effect r is holds = absurd is
taken_keeps plans old (Err cause) (Refused told) effect r is holds = absurd (cc r)

taken_at : (plans : List Plan) (moment : ℕ) (old new : History) (rows : List Fields)
    (outcomes : List Outcome) (i : ℕ) (line : Fields) (outcome : Outcome)
    → Imported plans moment old rows outcomes new → slice_get rows i ≡ Some line
    → slice_get outcomes i ≡ Some outcome → is_refused outcome ≡ false
    → (t : TopUpFacts) × (asked_by moment line ≡ Ok t) × Keeps new t
taken_at plans moment old new [] [] i line outcome run at out r = absurd (cc at)
taken_at plans moment old new [] (o ∷ outcomes) i line outcome run at out r = absurd run
taken_at plans moment old new (x ∷ rows) [] i line outcome run at out r = absurd run
taken_at plans moment old new (x ∷ rows) (o ∷ outcomes) zero line outcome
    (effect, here, holds, rest) at out r =
    let same_line : x ≡ line = cc at in
    let same_out : o ≡ outcome = cc out in
    let (t, is, keeps) = taken_keeps plans old (asked_by moment x) o effect
    (ap is_refused same_out ∙ r) here holds in (
      t,
      sym (ap (asked_by moment) same_line) ∙ is,
      run_keeps plans moment (after_effect old effect) new rows outcomes t keeps rest,
    )
taken_at plans moment old new (x ∷ rows) (o ∷ outcomes) (suc i) line outcome
    (effect, here, holds, rest) at out r =
    taken_at plans moment (after_effect old effect) new rows outcomes i line outcome rest at out r

-- ---- what is kept is repeated

moved_to : TopUpFacts → ℕ → TopUpFacts
moved_to t when = record { voucher = t.voucher; account = t.account; sum = t.sum; when = when }

told_again : (plans : List Plan) (old : History) (t s : TopUpFacts) (told : Outcome)
    (effect : Effect)
    → s.voucher ≡ t.voucher → s.account ≡ t.account → s.sum ≡ t.sum → Keeps old t
    → Becomes (Ok s) told effect → Holds plans old effect → told ≡ Repeated
told_again plans old t s Added effect v a m (k, is, account, amount) was holds =
    let fresh : topup_of old t.voucher ≡ None = sym (ap (topup_of old) v)
    ∙ (subst (Holds plans old) was holds).1 in absurd (cc (is, fresh))
told_again plans old t s Repeated effect v a m keeps was holds = refl
told_again plans old t s (Refused FieldCount) effect v a m keeps was holds = absurd was
told_again plans old t s (Refused BadVoucher) effect v a m keeps was holds = absurd was
told_again plans old t s (Refused BadAccount) effect v a m keeps was holds = absurd was
told_again plans old t s (Refused BadSum) effect v a m keeps was holds = absurd was
told_again plans old t s (Refused VoucherDiffers) effect v a m (k, is, account, amount)
    (other, was) holds =
    let told = subst (Holds plans old) was holds in
    let there : topup_of old t.voucher ≡ Some other = sym (ap (topup_of old) v) ∙ told.0 in
    let one : k ≡ other = cc (is, there) in
    let other_account : other.account ≡ s.account = sym (ap (λ (x : TopUpFacts). x.account) one)
    ∙ account ∙ sym a in
    let other_sum : other.sum ≡ s.sum = sym (ap (λ (x : TopUpFacts). x.sum) one) ∙ amount ∙ sym m in
    absurd (told.1 other_account other_sum)
told_again plans old t s (Refused BalanceLimit) effect v a m (k, is, account, amount)
    (balance, was) holds =
    let fresh : topup_of old t.voucher ≡ None = sym (ap (topup_of old) v)
    ∙ (subst (Holds plans old) was holds).fresh in absurd (cc (is, fresh))

-- ---- the same line at another moment

chosen : (a b c : Bool) (n x : List ℕ) (m when later : ℕ) (t : TopUpFacts)
    → (if not a then Err BadVoucher else if not b then Err BadAccount else if not c then Err BadSum
    else Ok (record { voucher = n; account = x; sum = m; when = when })) ≡ Ok t
    → (s : TopUpFacts) × ((if not a then Err BadVoucher else if not b then Err BadAccount else if
    not c then Err BadSum else Ok (record { voucher = n; account = x; sum = m; when = later }))
    ≡ Ok s)
    × (s.voucher ≡ t.voucher) × (s.account ≡ t.account) × (s.sum ≡ t.sum)
chosen true true true n x m when later t e =
    let first : TopUpFacts = record { voucher = n; account = x; sum = m; when = when } in
    let same : first ≡ t = cc e in (
      record { voucher = n; account = x; sum = m; when = later },
      refl,
      ap
          (λ (y : TopUpFacts). y.voucher) same,
      ap (λ (y : TopUpFacts). y.account) same,
      ap
          (λ (y : TopUpFacts). y.sum) same,
    )
chosen true true false n x m when later t e = absurd (cc e)
chosen true false c n x m when later t e = absurd (cc e)
chosen false b c n x m when later t e = absurd (cc e)

asked_later : (o : Option (List ℕ × List ℕ × List ℕ)) (line : Fields) (when later : ℕ)
    (t : TopUpFacts) → three_of line ≡ o → asked_by when line ≡ Ok t
    → (s : TopUpFacts) × (asked_by later line ≡ Ok s) × (s.voucher ≡ t.voucher)
    × (s.account ≡ t.account) × (s.sum ≡ t.sum)
asked_later None line when later t three e =
    let bad : Err FieldCount ≡ Ok t = rw three at e in absurd (cc bad)
asked_later (Some f) line when later t three e =
    rw three (chosen (is_voucher_number f.0) (is_voucher_account (percent_decode f.1))
    (is_voucher_sum (sum_of f.2)) f.0 (percent_decode f.1) (sum_of f.2) when later t
    (rw three at e))

told_at : (plans : List Plan) (moment : ℕ) (old new : History) (rows : List Fields)
    (outcomes : List Outcome) (j : ℕ) (line : Fields) (told : Outcome) (t s : TopUpFacts)
    → Imported plans moment old rows outcomes new → slice_get rows j ≡ Some line
    → slice_get outcomes j ≡ Some told
    → asked_by moment line ≡ Ok s → s.voucher ≡ t.voucher → s.account ≡ t.account → s.sum ≡ t.sum
    → Keeps old t → told ≡ Repeated
told_at plans moment old new [] [] j line told t s run at out is v a m keeps = absurd (cc at)
told_at plans moment old new [] (o ∷ outcomes) j line told t s run at out is v a m keeps =
    absurd run
told_at plans moment old new (x ∷ rows) [] j line told t s run at out is v a m keeps = absurd run
told_at plans moment old new (x ∷ rows) (o ∷ outcomes) zero line told t s
    (effect, here, holds, rest) at out is v a m keeps =
    let same_line : x ≡ line = cc at in
    let same_out : o ≡ told = cc out in
    let wanted : asked_by moment x ≡ Ok s = ap (asked_by moment) same_line ∙ is in
    sym same_out ∙ told_again plans old t s o effect v a m keeps
    (subst (λ w. Becomes w o effect) wanted here) holds
told_at plans moment old new (x ∷ rows) (o ∷ outcomes) (suc j) line told t s
    (effect, here, holds, rest) at out is v a m keeps =
    told_at plans moment (after_effect old effect) new rows outcomes j line told t s rest at out is
    v a m (effect_keeps old effect t keeps)

pub repeats-later : RepeatsLater
repeats-later plans later_plans moment later old mid between new rows later_rows outcomes
    later_outcomes first second i j line outcome told at out taken again said =
    let (t, is, keeps) = taken_at plans moment old mid rows outcomes i line outcome first at out
    taken in
    let (s, wanted, v, a, m) = asked_later (three_of line) line moment later t refl is in
    told_at later_plans later (between ++ mid) new later_rows later_outcomes j line told t s second
    again said wanted v a m (keeps_behind between mid t keeps)
