-- Laws of imports and exports, over the definitions of what they do.
use Rattle.std.specs.Prelude.{◌≡◌, ◌<◌, ⊤, ℕ, false, List, [], ◌∷◌, ◌++◌, take, map, All, Some, Ok}
use Rattle.std.specs.Prelude.{slice_get, bytes_eq}
use Rattle.acct_model.specs.declared.plan.Plan.{Plan}
use Rattle.acct_model.specs.declared.entry.Entry.TheVariants as entry
use Rattle.acct_model.specs.Vouchers.{TopUpFacts, IsTopUp}
use Rattle.acct_model.specs.History.{Accepted, History}
use Rattle.acct_files.specs.declared.import_report.Cause.TheVariants.{BalanceLimit}
use Rattle.acct_files.specs.declared.import_report.Outcome.{Outcome}
use Rattle.acct_files.specs.declared.import_report.Outcome.TheVariants.{Added, Repeated, Refused}
use Rattle.acct_files.specs.Importing.{AreAll, Imported, is_refused}
use Rattle.acct_files.specs.Exporting.{export_text, line, topup_fields, topup_header}
use Rattle.acct_files.specs.Vouchers.{Fields, asked_by}

-- A line that one import added or repeated is a repeat in each later one that reaches it. That
-- holds for any entries accepted and any plans added between the two.
abbrev pub RepeatsLater : Type 0
RepeatsLater =
    (plans later_plans : List Plan) (moment later : ℕ) (old mid between new : History)
    (rows later_rows : List Fields) (outcomes later_outcomes : List Outcome)
    → Imported plans moment old rows outcomes mid
    → Imported later_plans later (between ++ mid) later_rows later_outcomes new
    → (i j : ℕ) (line : Fields) (outcome told : Outcome)
    → slice_get rows i ≡ Some line
    → slice_get outcomes i ≡ Some outcome
    → is_refused outcome ≡ false
    → slice_get later_rows j ≡ Some line
    → slice_get later_outcomes j ≡ Some told
    → told ≡ Repeated

-- ---- an export of top-ups, of which the first three columns are kept

-- the first three columns of a top-up's line
abbrev pub cut_fields : TopUpFacts → Fields
cut_fields topup = take 3 (topup_fields topup)

-- the text of these columns
abbrev pub cut_export : List TopUpFacts → List ℕ
cut_export topups = export_text (take 3 topup_header) (λ topup. line (cut_fields topup)) topups

-- a top-up that a book may keep
pub record MayBeKept (topup : TopUpFacts) : Type 0 where
  pub within : IsTopUp topup.voucher topup.account topup.sum topup.when
  pub octets : All (λ octet. octet < 256) topup.account

-- none of these has the number of this top-up
abbrev pub HaveOthers : TopUpFacts → List TopUpFacts → Type 0
HaveOthers topup [] = ⊤
HaveOthers topup (other ∷ rest) =
    (bytes_eq other.voucher topup.voucher ≡ false) × HaveOthers topup rest

-- top-ups that a book may keep, each under a number of its own
abbrev pub AreKept : List TopUpFacts → Type 0
AreKept [] = ⊤
AreKept (topup ∷ rest) = MayBeKept topup × HaveOthers topup rest × AreKept rest

-- the same top-up at another moment
abbrev pub moved_to : ℕ → TopUpFacts → TopUpFacts
moved_to moment topup = record topup { when = moment }

-- from a history to the one after it: each top-up is added, at a moment, or refused because its
-- account's balance would leave its range
abbrev pub Credits : ℕ → History → List TopUpFacts → List Outcome → History → Type 0
Credits moment old [] [] new = new ≡ old
Credits moment old [] (outcome ∷ outcomes) new = ⊥
Credits moment old (topup ∷ topups) [] new = ⊥
Credits moment old (topup ∷ topups) (Added ∷ outcomes) new =
    Credits moment (Accepted (entry.TopUp (moved_to moment topup)) ∷ old) topups outcomes new
Credits moment old (topup ∷ topups) (Repeated ∷ outcomes) new = ⊥
Credits moment old (topup ∷ topups) (Refused cause ∷ outcomes) new =
    (cause ≡ BalanceLimit) × Credits moment old topups outcomes new

-- The first three columns of an export of top-ups are a text for an import. Its records are the
-- header and a line for each top-up. Each line asks for its top-up at the moment of the import.
-- Into an empty book each is added.
pub record CutExportIsTaken : Type 0 where
  pub lines : (topups : List TopUpFacts) → AreAll (cut_export topups) (map cut_fields topups)
  pub asks : (topup : TopUpFacts) (moment : ℕ) → MayBeKept topup
      → asked_by moment (cut_fields topup) ≡ Ok (moved_to moment topup)
  pub adds : (plans : List Plan) (moment : ℕ) (topups : List TopUpFacts) (outcomes : List Outcome)
      (new : History) → AreKept topups
      → Imported plans moment [] (map cut_fields topups) outcomes new
      → Credits moment [] topups outcomes new
