-- The promise over one run of `serve` on the files of a book: however it ended, every balance is
-- right, in the book that it left and in the files.
use Rattle.std.specs.Prelude.{◌≡◌, ◌⊎◌, ◌<◌, ℕ, List, Option, None, Some, IfSome, Result, Ok, Err}
use Rattle.sqlite_disk.specs.declared.Disk as disk
use Rattle.sqlite_disk.specs.declared.Files.{Files}
use Rattle.sqlite_wal.specs.Files.{outcomes}
use Rattle.sqlite_wal.specs.Reads.{AreClean}
use Rattle.sqlite_wal.specs.Recovery.{Image}
use Rattle.sqlite_trees.specs.Tree.{Trees}
use Rattle.sqlite_store.specs.declared.store.FileStore.{FileStore}
use Rattle.sqlite.specs.Files.{HoldsDatabase, IsClosed, file_state, image_of}
use Rattle.sqlite.specs.Held.{Held}
use Rattle.sqlite.specs.State.{HasCleanDisk}
use Rattle.acct_model.specs.declared.plan.Plan.{Plan}
use Rattle.acct_model.specs.History.{History}
use Rattle.acct_book.specs.declared.book.Book as book
use Rattle.acct_book.specs.Stands.{Stands}
use Rattle.acct_site.specs.declared.config.Config.{Config}
use Rattle.acct_sql_tables.specs.Content.{content_in_tables}
use Rattle.acct_service.specs.declared.exchange.Exchange as exchange
use Rattle.acct_service.specs.Machine.{Visit}
use Rattle.acct_service.specs.Promise.{accepted, AreBalancesDue, EveryBalanceIsRight}
use Rattle.acct_program.specs.declared.status.Status.{Status}
use Rattle.acct_program_args.specs.declared.job.BookJob.TheVariants as of_book
use Rattle.acct_program_args.specs.declared.job.Listening.{Listening}
use Rattle.acct_program_args.specs.declared.job.Serving.{Serving}
use Rattle.acct_program_commands.specs.Checks.{ReadsConfig}
use Rattle.acct_program_commands.specs.Names.{NamesSeen}
use Rattle.acct_program_commands.specs.Puts.{WasPut}
use Rattle.acct_program_commands.specs.declared.fault.Fault.{Fault}
use Rattle.acct_program_serving.specs.Files.{IsNamed}
use Rattle.acct_program_serving.specs.Promise.{visits_of}
use Rattle.acct_program_serving.specs.Serving.{RunsServer}
use Rattle.acct_program_jobs.specs.declared.left.Left.{Left}
use Rattle.acct_program_jobs.specs.declared.left.Left.TheVariants as left
use Rattle.acct_program_jobs.specs.Files.{IsBookOf, IsOther}
use Rattle.acct_program_jobs.specs.Jobs.{DoesBookJob}

-- the files hold a book of these plans whose content stands for this history
pub record HoldHistory (image : Image) (plans : List Plan) (history : History) : Type 0 where
  pub held : Trees
  pub holds : ∥ HoldsDatabase image held ∥₁
  pub stands : Stands plans (content_in_tables held) history

-- and in it each account has the balance that is due by this history
pub record HoldBalancesDue (image : Image) (plans : List Plan) (history : History) : Type 0 where
  pub book : HoldHistory image plans history
  pub due : AreBalancesDue plans history (content_in_tables book.held)

-- what the next start may find in these files: what they hold now, or what a crash leaves of them
abbrev pub IsFoundNext : {D : Type 0} → disk.Ghosts D → Files D → Image → Type 0
IsFoundNext g files image =
    (image ≡ image_of g files) ⊎ outcomes g files.log files.db image

module _ {D : Type 0} {g : disk.Ghosts D} {X : Type 0} (image : Image)
    (b : book.Ghosts (Held (FileStore D g))) (x : exchange.Ghosts X)
    (IsBound : Listening → X → Type 0) (printed after : Option (List ℕ))
    (file : List ℕ) (seen : Option NamesSeen) (serving : Serving) where
  -- a server over a book whose names were seen so ran this way
  abbrev pub Serves : Config → Result Status Fault → Held (FileStore D g) → Held (FileStore D g)
      → Type 0
  Serves config result first last = RunsServer b x WasPut (IsBound serving.listening)
      (Some file) None None seen serving config printed after result first last

  -- its visits
  abbrev pub visits_by : (config : Config) (result : Result Status Fault)
      (first last : Held (FileStore D g)) → Serves config result first last → List Visit
  visits_by config result first last run = visits_of b x WasPut
      (IsBound serving.listening) (Some file) None None serving config printed after first last seen
      result run

  -- A server ran with this configuration from the book that the files held to this one. From each
  -- history for which that stood, every balance is right.
  pub record RanRightly (config : Config) (result : Result Status Fault)
      (last : Held (FileStore D g)) : Type 0 where
    pub first : Held (FileStore D g)
    pub adopted : HasCleanDisk (file_state first) → IsBookOf image config.plans first
    pub run : Serves config result first last
    pub right : (before : History) → HoldHistory image config.plans before → b.is_sound last
        → EveryBalanceIsRight b config.plans before (visits_by config result first last run) last

  -- Its book was closed into these files. If it made a turn or more, and the disk returned what was
  -- written, the next start finds the balances that are due by what was accepted, in a book that
  -- stands for that: the next run begins with this history.
  pub record ClosedRightly (config : Config) (ended : Status) (files : Files D) : Type 0 where
    pub last : Held (FileStore D g)
    pub ran : RanRightly config (Ok ended) last
    pub written : (before : History) → HoldHistory image config.plans before → 0 < serving.turns
        → AreClean g files.log files.db → (next : Image) → IsFoundNext g files next
        → HoldBalancesDue next config.plans
        (accepted before (visits_by config (Ok ended) ran.first last ran.run))

  -- The run ended well, and then the close failed. A crash leaves nothing that it did not leave
  -- before.
  pub record UnclosedRightly (config : Config) (rest : FileStore D g) : Type 0 where
    pub last : Held (FileStore D g)
    pub ended : Status
    pub ran : RanRightly config (Ok ended) last
    pub closed : IsClosed last rest

  -- How it ended by the configuration of this name, by what is left of the files. A fault ended it
  -- before there was a book; or there was no book of these plans; or a fault ended its run, and the
  -- book is still open.
  abbrev pub EndsRightly : Result Status Fault → Left D g → Type 0
  EndsRightly ended left.Nothing = (told : Fault) × (ended ≡ Err told)
  EndsRightly ended (left.Unopened it) = (told : Fault) × (ended ≡ Err told)
  EndsRightly ended (left.Open last) =
      (config : Config) × ReadsConfig file (Ok config) × (told : Fault) × (ended ≡ Err told)
      × (IsOther image config.plans told last ⊎ RanRightly config (Err told) last)
  EndsRightly ended (left.Unclosed rest) =
      (config : Config) × ReadsConfig file (Ok config) × UnclosedRightly config rest
  EndsRightly ended (left.Closed files) =
      (config : Config) × ReadsConfig file (Ok config) × (status : Status) × (ended ≡ Ok status)
      × ClosedRightly config status files

-- So it is of each run of the command over the book of this name. A server has one kind of book:
-- that of a script is not used.
abbrev pub FilesAreRight : {D : Type 0} {g : disk.Ghosts D} {X : Type 0} → Image
    → book.Ghosts (Held (FileStore D g)) → exchange.Ghosts X
    → (Listening → X → Type 0) → Type 0
FilesAreRight {D} {g} image b x IsBound = (text printed after : Option (List ℕ))
    (file name : List ℕ) (serving : Serving) (ended : Result Status Fault) (rest : Left D g)
    → DoesBookJob image b x IsBound b text printed after file name (of_book.Serve serving) ended
    rest → (seen : Option NamesSeen) × IfSome seen (IsNamed name)
    × EndsRightly image b x IsBound printed after file seen serving ended rest
