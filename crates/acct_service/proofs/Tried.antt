-- What holds of the reports that an effect adds or tries. The desk adds none.
use Rattle.std.proofs.Common.{inl, inr, List, ℕ, sym, subst, Result, Ok, Err}
use Rattle.acct_model.specs.declared.entry.Entry.{Entry}
use Rattle.acct_model.specs.declared.entry.Entry.TheVariants as entry
use Rattle.acct_model.specs.Report.{ReportFacts}
use Rattle.acct_model.specs.Vouchers.{TopUpFacts}
use Rattle.acct_book.specs.declared.recording.Recorded.{Recorded}
use Rattle.acct_book.specs.declared.recording.Recorded.TheVariants.{New, Repeat}
use Rattle.acct_book.specs.declared.recording.RecordError.{RecordError}
use Rattle.acct_book.specs.declared.recording.RecordError.TheVariants as error
use Rattle.acct_book.specs.Effect.{Effect, added, failed, effect_of}
use Rattle.acct_desk.specs.Asks.{Ask, refused, me, overruns, look, credit}
use Rattle.acct_desk.specs.Handling.{AnswersAsk, Mutes}

-- it holds of the entry, if that is a report
abbrev pub OfReport : (ReportFacts → Type 0) → Entry → Type 0
OfReport P (entry.Report report) = P report
OfReport P asked = Unit {0}

-- and of the one that an effect adds or tries
abbrev pub Tries : (ReportFacts → Type 0) → Effect → Type 0
Tries P (added asked) = OfReport P asked
Tries P (failed asked) = OfReport P asked
Tries P effect = Unit {0}

module _ (P : ReportFacts → Type 0) where
  recorded_tries : (t : TopUpFacts) (recorded : Result Recorded RecordError)
      → Tries P (effect_of (entry.TopUp t) recorded)
  recorded_tries t (Ok New) = tt
  recorded_tries t (Ok Repeat) = tt
  recorded_tries t (Err (error.VoucherDiffers kept)) = tt
  recorded_tries t (Err (error.BalanceLimit balance)) = tt
  recorded_tries t (Err error.Unavailable) = tt

  pub asked_tries : (ask : Ask) (octets : List ℕ) (effect : Effect)
      → AnswersAsk ask octets effect → Tries P effect
  asked_tries (refused refusal) octets effect (is_octets, is) = subst (Tries P) (sym is) tt
  asked_tries (me page account) octets effect says =
      elim says [
        | inl is ↦ subst (Tries P) (sym is) tt
        | inr (is_octets, is) ↦ subst (Tries P) (sym is) tt
      ]
  asked_tries overruns octets effect says =
      elim says [
        | inl is ↦ subst (Tries P) (sym is) tt
        | inr (is_octets, is) ↦ subst (Tries P) (sym is) tt
      ]
  asked_tries (look query) octets effect says =
      elim says [
        | inl is ↦ subst (Tries P) (sym is) tt
        | inr (is_octets, is) ↦ subst (Tries P) (sym is) tt
      ]
  asked_tries (credit t) octets effect (recorded, is_octets, is) =
      subst (Tries P) (sym is) (recorded_tries t recorded)

  pub muted_tries : (ask : Ask) (effect : Effect) → Mutes ask effect → Tries P effect
  muted_tries (refused refusal) effect is = subst (Tries P) (sym is) tt
  muted_tries (me page account) effect says =
      elim says [
        | inl is ↦ subst (Tries P) (sym is) tt
        | inr is ↦ subst (Tries P) (sym is) tt
      ]
  muted_tries overruns effect says =
      elim says [
        | inl is ↦ subst (Tries P) (sym is) tt
        | inr is ↦ subst (Tries P) (sym is) tt
      ]
  muted_tries (look query) effect says =
      elim says [
        | inl is ↦ subst (Tries P) (sym is) tt
        | inr is ↦ subst (Tries P) (sym is) tt
      ]
  muted_tries (credit t) effect is = subst (Tries P) (sym is) tt
