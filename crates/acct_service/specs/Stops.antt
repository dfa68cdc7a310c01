-- What a stop leaves of a book is a history that its life continues from.
use Rattle.std.specs.Prelude.{◌≡◌, ◌⊎◌, ℕ, List, Option, Result}
use Rattle.acct_model.specs.declared.plan.Plan.{Plan}
use Rattle.acct_model.specs.History.{History}
use Rattle.acct_model.specs.Forward.{Batch}
use Rattle.acct_book.specs.declared.book.Book.{Ghosts}
use Rattle.acct_book.specs.Content.{Content, keeping}
use Rattle.acct_book.specs.Stands.{Stands}
use Rattle.acct_book.specs.Step.{StoodFor}
use Rattle.acct_book.specs.Addition.{AddsAtMost}
use Rattle.acct_book_forward.specs.Carrying.{SelectionFacts, CarriesOn}
use Rattle.acct_site.specs.declared.config.Config.{Config}
use Rattle.acct_files.specs.declared.import_report.Stopped.{Stopped}
use Rattle.acct_files.specs.declared.import_report.ImportReport.{ImportReport}
use Rattle.acct_files.specs.Importing.{Imports}
use Rattle.acct_service.specs.Machine.{Visit}
use Rattle.acct_service.specs.Serving.{Leads}
use Rattle.acct_service.specs.Life.{Span, served, imported, extended, carried, Past, PriceAlike}
use Rattle.acct_service.specs.Life.{MayExtend, LivesOn}

-- the content stands for a history that this span and a stop lead to
abbrev pub IsLivedOn : Past → Span → Content → Type 0
IsLivedOn past span c =
    (next : Past) × LivesOn past span next × Stands next.plans c next.history

-- the content stands for a history that carrying such sessions forward and a stop lead to
abbrev pub IsCarriedAlong : Past → SelectionFacts → Content → Type 0
IsCarriedAlong past selection c =
    (batches : List Batch) × IsLivedOn past (carried past.plans selection batches) c

module _ {B : Type 0} (b : Ghosts B) where
  -- a crash leaves of the book only what stands for the history
  abbrev pub LeavesOnly : Past → B → Type 0
  LeavesOnly past book = (c : Content) → b.left book c → Stands past.plans c past.history

  -- Anything that a crash leaves of the book stands for a history that this span and a stop lead
  -- to.
  abbrev pub LivesOnBy : Past → Span → B → Type 0
  LivesOnBy past span book = (c : Content) → b.left book c → IsLivedOn past span c

  -- The following holds if a crash at the start left only what stood for the history. A call that
  -- carries sessions forward returns a T or an E.
  pub record StopsAreLived (T E : Type 0) : Type 0 where
    pub served_so_far : (past : Past) (visits : List Visit) (old new : B)
        → LeavesOnly past old → Leads b past.plans visits old new past.history
        → LivesOnBy past (served past.plans visits) new
    pub imported_so_far : (config : Config) (moment : ℕ) (text : Option (List ℕ))
        (past : Past) (stopped : Option Stopped) (report : ImportReport) (old new : B)
        → past.plans ≡ config.plans → LeavesOnly past old
        → (run : Imports b config.plans moment text past.history stopped report old new)
        → LivesOnBy past (imported config moment run.rows run.outcomes run.tried) new
    -- An addition of plans that succeeded leaves the old content with the new plans.
    pub extended_at_once : (past : Past) (more : List Plan) (content : Content)
        → MayExtend past.plans more → Stands past.plans content past.history
        → IsLivedOn past (extended more) (keeping more content)
    -- An addition was killed, failed or succeeded. What a crash leaves then stands for the old
    -- history, by the old plans, or is lived on by the addition.
    pub extended_so_far : (past : Past) (more : List Plan) (old new : B)
        → MayExtend past.plans more → Stands past.plans (b.content old) past.history
        → LeavesOnly past old
        → AddsAtMost b more old new → b.is_sound new
        → (c : Content) → b.left new c
        → Stands past.plans c past.history ⊎ IsLivedOn past (extended more) c
    -- A call carried sessions forward and left the book open. Its content is lived on by the
    -- batches that were done, if any.
    pub carried_at_once : (past : Past) (selection : SelectionFacts) (old new : B)
        (result : Result T E) → StoodFor b past.plans old past.history
        → CarriesOn b selection past.plans old new result → b.is_open new
        → IsCarriedAlong past selection (b.content new)
    -- So is anything that a crash leaves, if that call was killed, failed or succeeded.
    pub carried_so_far : (past : Past) (selection : SelectionFacts) (old new : B)
        (result : Result T E) → StoodFor b past.plans old past.history → LeavesOnly past old
        → CarriesOn b selection past.plans old new result → b.is_sound new
        → (c : Content) → b.left new c → IsCarriedAlong past selection c
    -- The next start may have the plans in another order.
    pub started : (these those : List Plan) (content : Content) (history : History)
        → PriceAlike these those → Stands these content history → Stands those content history
