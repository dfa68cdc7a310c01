-- Why the first three columns of an export of top-ups are a text that an import takes.
use Rattle.std.proofs.Common.{sym, ◌≡◌, ◌<◌, ◌≤◌, ◌^◌, ℕ, Bool, true, false, ◌&&◌, List, [], ◌∷◌}
use Rattle.std.proofs.Common.{length, map, Some, None, Ok, cond, refl, subst, arith, rules}
use Rattle.std.specs.Prelude.{⊤, bytes_eq, decimal, flat_map, nat_le, nat_lt, take}
use Rattle.std.specs.Char.{is_ascii_digit}
use Rattle.std.specs.List.{filter, list_all}
use Rattle.std.specs.Str.Parse.{digits_value}
use Rattle.std.proofs.lemmas.Bool.Decides.{nat_tests}
use Rattle.std.proofs.lemmas.Fmt.{decimal_is_IsNumeral, length-decimal-le, digits_decimal}
use Rattle.std.proofs.lemmas.Fmt.{digits_value-decimal}
use Rattle.std.proofs.lemmas.Str.Parse.{IsNumeralModel, numerals_by_value}
use Rattle.csv.specs.Machine.{next_record}
use Rattle.csv.specs.Reading.{Reached, default_config}
use Rattle.csv.specs.declared.parser.State.TheVariants as st
use Rattle.csv.proofs.RoundTrip.{read-write}
use Rattle.acct_model.specs.declared.plan.Plan.{Plan}
use Rattle.acct_model.specs.declared.entry.Entry.TheVariants as entry
use Rattle.acct_model.specs.History.{Accepted, History, all_topups, first_of, topup_of}
use Rattle.acct_model.specs.Numbers.{is_numeral}
use Rattle.acct_model.specs.Vouchers.{TopUpFacts, is_voucher_sum}
use Rattle.acct_model.proofs.Escapes.{decoded-shown}
use Rattle.acct_book.specs.Effect.{Effect, after_effect, Holds}
use Rattle.acct_files.specs.declared.import_report.Cause.{Cause}
use Rattle.acct_files.specs.declared.import_report.Cause.TheVariants.{FieldCount, BadVoucher}
use Rattle.acct_files.specs.declared.import_report.Cause.TheVariants.{BadAccount, BadSum}
use Rattle.acct_files.specs.declared.import_report.Cause.TheVariants.{VoucherDiffers, BalanceLimit}
use Rattle.acct_files.specs.declared.import_report.Outcome.{Outcome}
use Rattle.acct_files.specs.declared.import_report.Outcome.TheVariants.{Added, Repeated, Refused}
use Rattle.acct_files.specs.Exporting.{line, topup_header}
use Rattle.acct_files.specs.Importing.{AreAll, Becomes, Imported}
use Rattle.acct_files.specs.Laws.{AreKept, Credits, CutExportIsTaken, HaveOthers, MayBeKept}
use Rattle.acct_files.specs.Laws.{cut_export, cut_fields, moved_to}
use Rattle.acct_files.specs.Vouchers.{asked_by, sum_of}

-- ---- the records of the text

lines_reached : (topups : List TopUpFacts)
    → Reached default_config st.StartRecord (flat_map (λ t. line (cut_fields t)) topups)
    (map cut_fields topups) st.StartRecord []
unfolding Reached
lines_reached [] = (refl, refl)
lines_reached (t ∷ ts) =
    let rest = flat_map (λ x. line (cut_fields x)) ts in
    ((cut_fields t, st.StartRecord, rest), read-write (cut_fields t) rest, refl, lines_reached ts)

no_more : next_record default_config st.StartRecord [] [] [] ≡ None
unfolding next_record
no_more = refl

lines_are_all : (topups : List TopUpFacts) → AreAll (cut_export topups) (map cut_fields topups)
unfolding Reached
lines_are_all topups =
    let rest = flat_map (λ x. line (cut_fields x)) topups in
    let header = take 3 topup_header in (
      header,
      refl,
      (
        st.StartRecord,
        [],
        ((header, st.StartRecord, rest), read-write header rest, refl, lines_reached topups),
        no_more,
      ),
    )

-- ---- what a line asks for

own : IsNumeralModel (λ ds. list_all is_ascii_digit ds ≡ true) (digits_value 10)
own = numerals_by_value _ (search rules)

both_hold : (a b : Bool) → (a && b) ≡ true → (a ≡ true) × (b ≡ true)
both_hold true true h = (refl, refl)
both_hold true false h = absurd (cc h)
both_hold false b h = absurd (cc h)

sum_bounds : (n : ℕ) → is_voucher_sum n ≡ true → (1 ≤ n) × (n ≤ 10 ^ 12)
sum_bounds n h =
    let (low, high) = both_hold (nat_le 1 n) (nat_le n (10 ^ 12)) h in
    (grind (arith, nat_tests), grind (arith, nat_tests))

sum_spelled : (n : ℕ) → is_voucher_sum n ≡ true → sum_of (decimal n) ≡ n
sum_spelled n h =
    let (low, high) = sum_bounds n h in
    let fits : n < 2 ^ 64 = omega arith in
    let digits : list_all is_ascii_digit (decimal n) ≡ true = digits_decimal own n fits in
    let short : length (decimal n) ≤ 13 = length-decimal-le 13 n (omega arith) (omega arith) fits in
    let some : 0 < length (decimal n) = (decimal_is_IsNumeral n fits).0.0 in
    let is : is_numeral 13 (decimal n) ≡ true = grind (arith, nat_tests) in
    let same = digits_value-decimal own n fits in
    let below : nat_lt n (2 ^ 64) ≡ true = grind (arith, nat_tests) in
    rw (is, same, below) refl

asks_again : (topup : TopUpFacts) (moment : ℕ) → MayBeKept topup
    → asked_by moment (cut_fields topup) ≡ Ok (moved_to moment topup)
asks_again topup moment kept =
    rw (
      decoded-shown topup.account kept.octets,
      sum_spelled topup.sum kept.within.bounded,
      kept.within.number,
      kept.within.owner,
      kept.within.bounded,
    ) refl

-- ---- what an empty book then keeps

-- no top-up of the history has the number of any of these
AreFresh : History → List TopUpFacts → Type 0
AreFresh history [] = ⊤
AreFresh history (topup ∷ topups) =
    (topup_of history topup.voucher ≡ None) × AreFresh history topups

fresh_at_first : (topups : List TopUpFacts) → AreFresh [] topups
unfolding AreFresh
fresh_at_first [] = tt
fresh_at_first (topup ∷ topups) = (refl, fresh_at_first topups)

other_number : (b : Bool) (t : TopUpFacts) (xs : List TopUpFacts) → b ≡ false → first_of xs ≡ None
    → first_of (cond b (t ∷ xs) xs) ≡ None
other_number true t xs e none = absurd (cc e)
other_number false t xs e none = none

fresh_after : (moment : ℕ) (old : History) (t : TopUpFacts) (topups : List TopUpFacts)
    → HaveOthers t topups → AreFresh old topups
    → AreFresh (Accepted (entry.TopUp (moved_to moment t)) ∷ old) topups
unfolding AreFresh
fresh_after moment old t [] others fresh = tt
fresh_after moment old t (u ∷ topups) (other, others) (none, fresh) = (
  other_number (bytes_eq u.voucher t.voucher) (moved_to moment t)
      (filter (λ x. bytes_eq u.voucher x.voucher) (all_topups old)) other none,
  fresh_after moment
      old t topups others fresh,
)

module _ (plans : List Plan) (moment : ℕ) (old : History) (effect : Effect) (t : TopUpFacts)
    (fresh : topup_of old t.voucher ≡ None) (holds : Holds plans old effect) where
  not_repeated : Becomes (Ok (moved_to moment t)) Repeated effect → ⊥
  not_repeated was =
      let (k, is, account, amount) = subst (Holds plans old) was holds in absurd (cc (is, fresh))

  only_limit : (cause : Cause) → Becomes (Ok (moved_to moment t)) (Refused cause) effect
      → (cause ≡ BalanceLimit) × (after_effect old effect ≡ old)
  only_limit FieldCount was = absurd was
  only_limit BadVoucher was = absurd was
  only_limit BadAccount was = absurd was
  only_limit BadSum was = absurd was
  only_limit VoucherDiffers (k, was) =
      let there : topup_of old t.voucher ≡ Some k = (subst (Holds plans old) was holds).0 in
      absurd (cc (there, fresh))
  only_limit BalanceLimit (balance, was) =
      (refl, subst (λ e. after_effect old e ≡ old) (sym was) refl)

credits : (plans : List Plan) (moment : ℕ) (old : History) (topups : List TopUpFacts)
    (outcomes : List Outcome) (new : History) → AreKept topups → AreFresh old topups
    → Imported plans moment old (map cut_fields topups) outcomes new
    → Credits moment old topups outcomes new
unfolding AreFresh
credits plans moment old [] [] new kept fresh run = run
credits plans moment old [] (outcome ∷ outcomes) new kept fresh run = absurd run
credits plans moment old (t ∷ topups) [] new kept fresh run = absurd run
credits plans moment old (t ∷ topups) (Added ∷ outcomes) new (may, others, kept) (none, fresh)
    (effect, here, holds, rest) =
    let was = subst (λ w. Becomes w Added effect) (asks_again t moment may) here in
    credits plans moment (Accepted (entry.TopUp (moved_to moment t)) ∷ old) topups outcomes new kept
    (fresh_after moment old t topups others fresh)
    (subst (λ e. Imported plans moment (after_effect old e) (map cut_fields topups) outcomes new)
    was rest)
credits plans moment old (t ∷ topups) (Repeated ∷ outcomes) new (may, others, kept) (none, fresh)
    (effect, here, holds, rest) =
    absurd (not_repeated plans moment old effect t none holds
    (subst (λ w. Becomes w Repeated effect) (asks_again t moment may) here))
credits plans moment old (t ∷ topups) (Refused cause ∷ outcomes) new (may, others, kept)
    (none, fresh) (effect, here, holds, rest) =
    let (limit, same) = only_limit plans moment old effect t none holds cause
    (subst (λ w. Becomes w (Refused cause) effect) (asks_again t moment may) here) in (
      limit,
      credits plans moment old topups outcomes new kept fresh
          (subst (λ x. Imported plans moment x (map cut_fields topups) outcomes new) same rest),
    )

pub cut-is-taken : CutExportIsTaken
cut-is-taken = record {
  lines = lines_are_all;
  asks = asks_again;
  adds =
      λ plans moment topups outcomes new kept run. credits plans moment [] topups outcomes new kept
      (fresh_at_first topups) run;
}
