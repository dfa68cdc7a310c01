-- What disturbed delivery leaves of balances: those of the entries that were to be delivered.
--
-- What was sent is a history too: the one that there would be if nothing were lost, repeated or
-- reordered. A list of entries is one in which no plans were added. What stays in a life is stated
-- for its whole history, in which nothing was carried forward. Balances are stated for the book's
-- history.
use Rattle.std.specs.Prelude.{◌≡◌, ◌⊎◌, ◌≤◌, ℕ, List, [], ◌∷◌, ◌++◌, map, Contains, Ok, None}
use Rattle.std.specs.List.{flat_map}
use Rattle.acct_model.specs.declared.plan.Plan.{Plan}
use Rattle.acct_model.specs.declared.entry.Entry.{Entry}
use Rattle.acct_model.specs.declared.entry.Entry.TheVariants as entry
use Rattle.acct_model.specs.Report.{ReportFacts}
use Rattle.acct_model.specs.Vouchers.{TopUpFacts}
use Rattle.acct_model.specs.Plans.{plan_for, plans_added}
use Rattle.acct_model.specs.History.{Accepted, PlansAdded, History, session_of}
use Rattle.acct_model.specs.History.{plans_then, all_reports, counted_of, all_topups, Admissible}
use Rattle.acct_model.specs.Claims.{OfReport, OfTopUp, report_claim, topup_claim, claims}
use Rattle.acct_model.specs.Claims.{IsConsistent, ClaimsNoMore}
use Rattle.acct_model.specs.Agreement.{AddsForNone, BalancesAreEqual}
use Rattle.acct_book.specs.Effect.{added, Holds}
use Rattle.acct_book.specs.Outcome.{IsRepeated}
use Rattle.acct_site.specs.declared.config.Config.{Config}
use Rattle.acct_files.specs.Vouchers.{Fields, asked_by}
use Rattle.acct_service.specs.declared.event.Event.{Event}
use Rattle.acct_service.specs.Machine.{replied, AnswersEvent}
use Rattle.acct_service.specs.Life.{Span, Past, made_with, PriceAlike, MayExtend, LivesOn, Life}
use Rattle.acct_service.specs.Life.{NoneIsOf, NoneIsLate, LifeInTime, carried_in, HaveProperNames}
use Rattle.acct_service.specs.Life.{HasCarriedNone, CarryNone, acknowledged}

-- ---- what stays

-- the entry was accepted, or is a top-up whose number, account and sum were
abbrev pub IsKept : History → Entry → Type 0
IsKept history asked =
    Contains history (Accepted asked)
    ⊎ ((topup : TopUpFacts) × (asked ≡ entry.TopUp topup)
    × Contains (claims history) (OfTopUp (topup_claim topup)))

-- In a life from the old history to the last, what was accepted stays, whole and in order, and what
-- was acknowledged is kept.
pub record HasKept (old : History) (confirmed : List Entry) (last : History) : Type 0 where
  pub accepted : (newer : History) × (last ≡ newer ++ old)
  pub acknowledged : (asked : Entry) → Contains confirmed asked → IsKept last asked

-- In a life from the old past to the last, the old plans are the last ones without those that the
-- history added since.
abbrev pub PlansAreTold : Past → Past → Type 0
PlansAreTold old last = (newer : History) × (last.whole ≡ newer ++ old.whole)
    × PriceAlike (plans_then last.plans newer) old.plans

-- both histories of a past have the same top-ups
abbrev pub HasSameTopUps : Past → Type 0
HasSameTopUps past = all_topups past.whole ≡ all_topups past.history

-- ---- what was to be delivered

-- the history in which these entries were accepted, and no plans were added
abbrev pub history_of : List Entry → History
history_of entries = map Accepted entries

-- among these entries is a report of the same session that counts no less, by the plan of the
-- report's class
abbrev pub IsCovered : List Plan → ReportFacts → List Entry → Type 0
IsCovered plans report these =
    (other : ReportFacts) × Contains (all_reports (history_of these)) other
    × (session_of other ≡ session_of report)
    × (counted_of (plan_for plans report.class) report
    ≤ counted_of (plan_for plans report.class) other)

-- The sent entries are consistent, and each was acknowledged: a top-up by its claim, a report by
-- one of its session that covers it.
pub record IsSettledBy (plans : List Plan) (sent : History) (confirmed : List Entry) : Type 0 where
  pub consistent : IsConsistent sent
  pub topups : (topup : TopUpFacts) → Contains (all_topups sent) topup
      → Contains (claims (history_of confirmed)) (OfTopUp (topup_claim topup))
  pub reports : (report : ReportFacts) → Contains (all_reports sent) report
      → IsCovered plans report confirmed

-- that, and only the sent entries were accepted, except for Accounting-On and Accounting-Off
abbrev pub IsDelivered : List Plan → History → List Entry → History → Type 0
IsDelivered plans sent confirmed last =
    ClaimsNoMore last sent × IsSettledBy plans sent confirmed

-- What was accepted may be sent again, because its reply may be lost. A report whose session was
-- not set aside may be accepted and moves no balance. A top-up is a repeat.
pub record MayComeAgain (past : Past) : Type 0 where
  pub report : (report : ReportFacts)
      → Contains (claims past.whole) (OfReport (report_claim report))
      → (Contains past.aside (session_of report) → ⊥)
      → Admissible past.plans past.history (entry.Report report)
      × BalancesAreEqual past.plans (Accepted (entry.Report report) ∷ past.history) past.history
  pub topup : (topup : TopUpFacts) → Contains (claims past.whole) (OfTopUp (topup_claim topup))
      → IsRepeated past.history (entry.TopUp topup)

-- ---- lives that are possible

-- the past of a history in which nothing was carried forward
abbrev pub uncarried : List Plan → History → Past
uncarried plans history =
    record { plans = plans; history = history; whole = history; aside = [] }

-- some event asks for the entry, and is answered with a reply if that is added
abbrev pub CanBeServed : Config → Entry → Type 0
CanBeServed config asked =
    (event : Event) × (octets : List ℕ)
    × AnswersEvent None config event.moment event.what (replied octets) (added asked)

-- it is the top-up of a line of an import
abbrev pub CanBeImported : Entry → Type 0
CanBeImported asked = (moment : ℕ) × (fields : Fields) × (topup : TopUpFacts)
    × (asked_by moment fields ≡ Ok topup) × (asked ≡ entry.TopUp topup)

-- each entry may be added to those accepted before it, and can be served or imported; plans were
-- added to others that they extend
abbrev pub CanBeSent : Config → History → Type 0
CanBeSent config [] = Unit {0}
CanBeSent config (Accepted next ∷ older) =
    Holds config.plans older (added next)
    × (CanBeServed config next ⊎ CanBeImported next)
    × CanBeSent config older
CanBeSent config (PlansAdded more ∷ older) =
    (plans : List Plan) × MayExtend plans config.plans × (more ≡ plans_added plans config.plans)
    × CanBeSent (record config { plans = plans }) older

-- ---- the law

pub record LifeSettles : Type 0 where
  -- what was accepted or acknowledged stays
  pub kept : (old last : Past) (spans : List Span) → HasSameTopUps old
      → Life old spans last → HasKept old.whole (acknowledged spans) last.whole
  -- the history says which plans are in force
  pub in_force : (old last : Past) (spans : List Span) → Life old spans last
      → PlansAreTold old last
  -- What was sent counts in the end, by the plans in force then, as if nothing had been lost,
  -- repeated or reordered. It counts as if the server had never stopped, and as if nothing had been
  -- carried forward. No report was accepted of a session that was set aside before. Each addition
  -- was of plans for classes that no report accepted before has.
  pub settled : (plans : List Plan) (sent : History) (last : Past) (spans : List Span)
      → LifeInTime (made_with plans) spans last → AddsForNone last.whole → AddsForNone sent
      → IsDelivered last.plans sent (acknowledged spans) last.whole
      → BalancesAreEqual last.plans last.history sent
  -- Carrying sessions forward moves no balance, if no report is late.
  pub unmoved : (plans : List Plan) (last : Past) (spans : List Span)
      → LifeInTime (made_with plans) spans last
      → BalancesAreEqual last.plans last.history last.whole
  -- what was committed and never answered may be sent again
  pub resent : (plans : List Plan) (last : Past) (spans : List Span)
      → Life (made_with plans) spans last → MayComeAgain last
  -- Such lives exist: for each consistent history that can be sent, there is one that delivers all
  -- of it.
  pub possible : (config : Config) (sent : History) → IsConsistent sent → CanBeSent config sent
      → (plans : List Plan) × (spans : List Span)
      × Life (made_with plans) spans (uncarried config.plans sent)
      × IsDelivered config.plans sent (acknowledged spans) sent
  -- If nothing is carried forward, the whole history is the book's, and no report is late.
  pub plain : (old last : Past) (spans : List Span) → CarryNone spans → HasCarriedNone old
      → Life old spans last → HasCarriedNone last × LifeInTime old spans last
  -- If no client has the name of a line, only a report of a session that was carried forward
  -- before is late.
  pub late : (plans : List Plan) (before : List Span) (old : Past) (span : Span) (new : Past)
      → Life (made_with plans) before old → LivesOn old span new → HaveProperNames span
      → NoneIsOf (flat_map carried_in before) old new → NoneIsLate old new
