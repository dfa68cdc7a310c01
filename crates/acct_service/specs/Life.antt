-- The life of a book: spans of serving, of imports, of additions of plans and of carrying sessions
-- forward, and after each a stop.
use Rattle.std.specs.Prelude.{◌≡◌, ◌⊎◌, ℕ, Bool, true, false, Option, None, Some, List, [], ◌∷◌}
use Rattle.std.specs.Prelude.{◌++◌, Result, Ok, Err, Contains}
use Rattle.std.specs.List.{flat_map}
use Rattle.acct_model.specs.declared.plan.Plan.{Plan}
use Rattle.acct_model.specs.declared.entry.Entry.{Entry}
use Rattle.acct_model.specs.declared.entry.Entry.TheVariants.{TopUp}
use Rattle.acct_model.specs.PlanFaults.{plans_fault}
use Rattle.acct_model.specs.Plans.{plan_for, Extends, plans_added}
use Rattle.acct_model.specs.Vouchers.{TopUpFacts}
use Rattle.acct_model.specs.Report.{ReportFacts}
use Rattle.acct_model.specs.History.{Accepted, PlansAdded, History, SessionName, session_of}
use Rattle.acct_model.specs.History.{all_reports, Admissible}
use Rattle.acct_model.specs.Forward.{Batch, sessions_in}
use Rattle.acct_book_forward.specs.Carrying.{SelectionFacts, is_line, CarriesChosen}
use Rattle.acct_book.specs.Effect.{Effect, added, repeated}
use Rattle.acct_wire.specs.declared.client.Client.{Client}
use Rattle.acct_site.specs.declared.config.Config.{Config}
use Rattle.acct_files.specs.declared.import_report.Cause.{Cause}
use Rattle.acct_files.specs.declared.import_report.Outcome.{Outcome}
use Rattle.acct_files.specs.declared.import_report.Outcome.TheVariants as outcome
use Rattle.acct_files.specs.Vouchers.{Fields, asked_by}
use Rattle.acct_files.specs.Importing.{Imported}
use Rattle.acct_service.specs.Machine.{Visit, Run}
use Rattle.acct_service.specs.Serving.{HasFailed, is_replied}

-- ---- spans

pub data Span : Type 0 where
  -- turns of the server under configurations with these plans, up to the stop: each visit with its
  -- effect
  served : List Plan → List Visit → Span
  -- an import under a configuration at this moment, up to the stop: its records, the outcome of
  -- each, and the voucher whose call returned Unavailable, if it stopped for one
  imported : Config → ℕ → List Fields → List Outcome → Option TopUpFacts → Span
  -- plans were added to those in force, so that these are
  extended : List Plan → Span
  -- sessions that this selection takes were carried forward under a configuration with these plans,
  -- batch after batch, up to the stop
  carried : List Plan → SelectionFacts → List Batch → Span

-- The history of a book, and the plans in force at its end. The whole history is the one in which
-- nothing was carried forward: no book keeps it. Set aside are the sessions that were carried
-- forward, and the lines into which they were.
pub record Past : Type 0 where
  pub plans : List Plan
  pub history : History
  pub whole : History
  pub aside : List SessionName

-- the past of a book that was made with these plans
abbrev pub made_with : List Plan → Past
made_with plans = record { plans = plans; history = []; whole = []; aside = [] }

-- Each class is priced alike: the same plans, in any order.
abbrev pub PriceAlike : List Plan → List Plan → Type 0
PriceAlike these those = (class : List ℕ) → plan_for these class ≡ plan_for those class

-- New plans may replace old ones: neither have a fault, and each old one is among the new ones,
-- unchanged.
pub record MayExtend (old new : List Plan) : Type 0 where
  pub old_are_good : plans_fault old ≡ None
  pub new_are_good : plans_fault new ≡ None
  pub extends : Extends new old

-- the plans in force after a span, from those before it
abbrev pub plans_after : List Plan → Span → List Plan
plans_after plans (served those visits) = plans
plans_after plans (imported config moment rows outcomes tried) = plans
plans_after plans (extended new) = new
plans_after plans (carried those selection batches) = plans

-- from a history to the one after it, with no stop yet, by the plans in force before the span
abbrev pub Goes : List Plan → History → Span → History → Type 0
Goes plans old (served those visits) new = PriceAlike those plans × Run those old visits new
Goes plans old (imported config moment rows outcomes tried) new =
    PriceAlike config.plans plans × Imported config.plans moment old rows outcomes new
Goes plans old (extended more) new =
    MayExtend plans more × (new ≡ PlansAdded (plans_added plans more) ∷ old)
Goes plans old (carried those selection batches) new =
    PriceAlike those plans × CarriesChosen selection those old batches new

-- The entry's call returned Unavailable in the span. A call that the stop interrupts counts as one
-- that did.
abbrev pub HasTried : Span → Entry → Type 0
HasTried (served those visits) asked = HasFailed visits asked
HasTried (imported config moment rows outcomes tried) asked =
    (topup : TopUpFacts) × (tried ≡ Some topup) × (asked ≡ TopUp topup)
HasTried (extended plans) asked = ⊥
HasTried (carried those selection batches) asked = ⊥

-- a stop leaves the history, or that with one entry whose call failed
abbrev pub StopLeaves : List Plan → Span → History → History → Type 0
StopLeaves plans span history left =
    (left ≡ history)
    ⊎ ((asked : Entry) × HasTried span asked × Admissible plans history asked
    × (left ≡ Accepted asked ∷ history))

-- the session of a batch's line, and the sessions that were carried into it
abbrev pub set_aside : Batch → List SessionName
set_aside batch = session_of batch.report ∷ sessions_in batch

-- the same members were added to the history and to the whole one
abbrev pub GrowAlike : Past → Past → Type 0
GrowAlike old new = (newer : History) × (new.history ≡ newer ++ old.history)
    × (new.whole ≡ newer ++ old.whole)

-- If sessions are carried forward, the whole history stays, and they and their lines are set aside.
-- Otherwise both histories grow alike, and no session is set aside.
abbrev pub GoesBeside : Past → Span → Past → Type 0
GoesBeside old (carried those selection batches) new =
    (new.whole ≡ old.whole) × (new.aside ≡ flat_map set_aside batches ++ old.aside)
GoesBeside old span new = GrowAlike old new × (new.aside ≡ old.aside)

-- a span and the stop after it
abbrev pub LivesOn : Past → Span → Past → Type 0
LivesOn old span new =
    (end : History) × Goes old.plans old.history span end × (new.plans ≡ plans_after old.plans span)
    × StopLeaves new.plans span end new.history × GoesBeside old span new

-- steps in their order, each from what the one before it left
abbrev pub Chain : {X S : Type 0} → (X → S → X → Type 0) → X → List S → X → Type 0
Chain Step old [] new = new ≡ old
Chain Step old (step ∷ steps) new = (mid : _) × Step old step mid × Chain Step mid steps new

-- span after span, each from what the stop before it left
abbrev pub Life : Past → List Span → Past → Type 0
Life old spans new = Chain LivesOn old spans new

-- ---- in time

-- no report of these sessions was accepted in between
abbrev pub NoneIsOf : List SessionName → Past → Past → Type 0
NoneIsOf names old new = (newer : History) × (new.whole ≡ newer ++ old.whole)
    × ((report : ReportFacts) → Contains (all_reports newer) report
    → Contains names (session_of report) → ⊥)

-- A report is late if its session was set aside before. None that was accepted is late.
abbrev pub NoneIsLate : Past → Past → Type 0
NoneIsLate old new = NoneIsOf old.aside old new

-- a life in which no report is late
abbrev pub LifeInTime : Past → List Span → Past → Type 0
LifeInTime old spans new =
    Chain (λ old span new. LivesOn old span new × NoneIsLate old new) old spans new

-- the sessions that a span carried forward
abbrev pub carried_in : Span → List SessionName
carried_in (carried those selection batches) = flat_map sessions_in batches
carried_in span = []

-- no client in the configurations of these visits has the name of a line
abbrev pub HaveProperNames : Span → Type 0
HaveProperNames (served those visits) = (visit : Visit) → Contains visits visit
    → (client : Client) → Contains visit.site.clients.list client → is_line client.name ≡ false
HaveProperNames span = Unit {0}

-- nothing was carried forward
abbrev pub HasCarriedNone : Past → Type 0
HasCarriedNone past = (past.whole ≡ past.history) × (past.aside ≡ [])

-- in none of these spans are sessions carried forward
abbrev pub CarryNone : List Span → Type 0
CarryNone spans = (plans : List Plan) (selection : SelectionFacts) (batches : List Batch)
    → Contains spans (carried plans selection batches) → ⊥

-- ---- what was acknowledged

abbrev pub listed : Option Entry → List Entry
listed None = []
listed (Some asked) = asked ∷ []

-- the entry whose success was reported: it was added, or was kept already, and the reply was taken
abbrev pub acknowledged_by : Effect → Bool → Option Entry
acknowledged_by (added asked) true = Some asked
acknowledged_by (repeated asked) true = Some asked
acknowledged_by effect is_taken = None

-- by a reply of the server
abbrev pub acknowledged_at : Visit → List Entry
acknowledged_at visit = listed (acknowledged_by visit.effect (is_replied visit))

-- by a line of an import that was added or repeated
abbrev pub acknowledged_line : Result TopUpFacts Cause → Outcome → Option Entry
acknowledged_line (Ok topup) outcome.Added = Some (TopUp topup)
acknowledged_line (Ok topup) outcome.Repeated = Some (TopUp topup)
acknowledged_line (Ok topup) (outcome.Refused cause) = None
acknowledged_line (Err cause) told = None

abbrev pub acknowledged_lines : ℕ → List Fields → List Outcome → List Entry
acknowledged_lines moment [] outcomes = []
acknowledged_lines moment (fields ∷ rows) [] = []
acknowledged_lines moment (fields ∷ rows) (told ∷ outcomes) =
    listed (acknowledged_line (asked_by moment fields) told)
    ++ acknowledged_lines moment rows outcomes

abbrev pub acknowledged_in : Span → List Entry
acknowledged_in (served those visits) = flat_map acknowledged_at visits
acknowledged_in (imported config moment rows outcomes tried) =
    acknowledged_lines moment rows outcomes
acknowledged_in (extended plans) = []
acknowledged_in (carried those selection batches) = []

-- in all spans
abbrev pub acknowledged : List Span → List Entry
acknowledged spans = flat_map acknowledged_in spans
