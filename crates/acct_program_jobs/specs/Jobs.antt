-- What each job does: how it ends, what it has printed if it ends well, and what it leaves of the
-- book's files, with some configuration. No contract can name the file that it was read from.
use Rattle.std.specs.Prelude.{◌≡◌, ◌⊎◌, ◌<◌, ◌^◌, ℕ, List, [], ◌∷◌, ◌++◌, Option, Some, None}
use Rattle.std.specs.Prelude.{Result, Ok, Err, IfErr, IfSome, Bool, true, codes, decimal}
use Rattle.std.specs.Io.KnownBytes.{Appends}
use Rattle.sqlite_disk.specs.declared.Disk as disk
use Rattle.sqlite_disk.specs.declared.Files.{Files}
use Rattle.sqlite_wal.specs.Recovery.{Image}
use Rattle.sqlite_store.specs.declared.store.FileStore.{FileStore}
use Rattle.sqlite.specs.Held.{Held}
use Rattle.sqlite.specs.State.{HasCleanDisk}
use Rattle.sqlite.specs.Files.{file_state}
use Rattle.acct_model.specs.declared.plan.Plan.{Plan}
use Rattle.acct_model.specs.PlanFaults.{plans_fault}
use Rattle.acct_book.specs.declared.book.Book as book
use Rattle.acct_site.specs.declared.config.Config.{Config}
use Rattle.acct_site.specs.SampleSite.{sample_clients, sample_plans}
use Rattle.acct_service.specs.declared.exchange.Exchange as exchange
use Rattle.acct_program_feed.specs.Feed.{RanAfresh}
use Rattle.acct_program.specs.declared.status.Status.{Status}
use Rattle.acct_program.specs.declared.status.Status.TheVariants as status
use Rattle.acct_program_args.specs.declared.job.Job.{Job}
use Rattle.acct_program_args.specs.declared.job.Job.TheVariants as job
use Rattle.acct_program_args.specs.declared.job.BookJob.{BookJob}
use Rattle.acct_program_args.specs.declared.job.BookJob.TheVariants as of_book
use Rattle.acct_program_args.specs.declared.job.Export.{Export}
use Rattle.acct_program_args.specs.declared.job.Carrying.{Carrying}
use Rattle.acct_program_args.specs.declared.job.Listening.{Listening}
use Rattle.acct_program_args.specs.declared.job.Serving.{Serving}
use Rattle.acct_program_commands.specs.Anew.{ChecksOver}
use Rattle.acct_program_commands.specs.Auditing.{Audits}
use Rattle.acct_program_commands.specs.Checks.{ChecksConfig, IsUnchecked, ReadsConfig}
use Rattle.acct_program_commands.specs.Exports.{IsExportFault, plans_text}
use Rattle.acct_program_commands.specs.KeptNames.{NamesSome}
use Rattle.acct_program_commands.specs.Names.{NamesSeen}
use Rattle.acct_program_commands.specs.Imports.{Runs}
use Rattle.acct_program_commands.specs.Puts.{WasPut}
use Rattle.acct_program_commands.specs.SignedKeys.{PrintsKey}
use Rattle.acct_program_commands.specs.Survey.{RunsForward}
use Rattle.acct_program_serving.specs.Files.{IsNamed}
use Rattle.acct_program_serving.specs.Serving.{RunsServer}
use Rattle.acct_program_commands.specs.declared.fault.Fault.{Fault}
use Rattle.acct_program_commands.specs.declared.fault.Fault.TheVariants as fault
use Rattle.acct_program_jobs.specs.declared.left.Left.{Left}
use Rattle.acct_program_jobs.specs.declared.left.Left.TheVariants as left
use Rattle.acct_program_jobs.specs.declared.making.Making.{Making}
use Rattle.acct_program_jobs.specs.declared.making.Making.TheVariants as how
use Rattle.acct_program_jobs.specs.Files.{IsMade, HasNotMade, IsBookOf, IsUnfound}
use Rattle.acct_program_jobs.specs.Files.{IsUnclosed}
use Rattle.acct_program_jobs.specs.Files.{Copies, IsRefused, IsUnlisted}
use Rattle.acct_program_jobs.specs.Commands.{Worked, Closes, Fails, WritesOut, FailsToExport}

-- what a command printed, if its output was not lost
abbrev pub text_of : {W : Type 0} → (W → Option (List ℕ)) → Option W → Option (List ℕ)
text_of contents None = None
text_of contents (Some output) = contents output

-- `book made`
abbrev pub made_line : List ℕ
made_line = codes "book made" ++ 10 ∷ []

-- `schema 3`: the number of the schema that a migrated book has
abbrev pub schema_line : List ℕ
schema_line = codes "schema 3" ++ 10 ∷ []

-- `added N`: how many plans were added
abbrev pub added_line : ℕ → List ℕ
added_line count = codes "added " ++ decimal count ++ 10 ∷ []

-- the line for a book that was made this way, with so many plans added
abbrev pub line_of : Making → ℕ → List ℕ
line_of (how.New has_sums) count = made_line
line_of how.Migrated count = schema_line
line_of how.Extended count = added_line count

-- ---- commands without a book

-- the site of `feed`: that of a file, or the sample's clients and plans
abbrev pub IsSiteOf : Option (List ℕ) → Config → Type 0
IsSiteOf None config = (config.clients ≡ sample_clients) × (config.plans ≡ sample_plans)
IsSiteOf (Some file) config = ReadsConfig file (Ok config)

-- why `feed` did not end well: there is no configuration under its name, or the output failed
abbrev pub FeedsNothing : Option (List ℕ) → Fault → Type 0
FeedsNothing None told = told ≡ fault.CannotWrite
FeedsNothing (Some file) told = IsUnchecked file told

-- a script whose lines were all good was answered over an empty book with this configuration
pub record FeedsScript {B : Type 0} (b : book.Ghosts B) (config : Config) (text : Option (List ℕ))
    (before after : Option (List ℕ)) : Type 0 where
  pub input : List ℕ
  pub read : IfSome text (λ all. input ≡ all)
  pub ran : RanAfresh b config.clients config.plans input before after

-- A file that a command names for a server to write would overwrite another one, or there was no
-- memory to find out. Nothing was done.
module _ {D : Type 0} {g : disk.Ghosts D} {A B : Type 0} where
  pub record KeepsOthers (status : Option A) (balances : Option B) (before after : Option (List ℕ))
      (ended : Result Status Fault) (rest : Left D g) : Type 0 where
    pub named : NamesSome status balances
    pub told : Fault
    pub ended_is : ended ≡ Err told
    pub why : (told ≡ fault.WouldOverwrite) ⊎ (told ≡ fault.NoMemory)
    pub unprinted : after ≡ before
    pub nothing : rest ≡ left.Nothing

-- ---- commands that keep a book

module _ {D : Type 0} {g : disk.Ghosts D} where
  -- a fault ended a command before any file of the book was opened: there is no configuration under
  -- this name
  pub record HasNoConfig (file : List ℕ) (told : Fault) (rest : Left D g) : Type 0 where
    pub why : ReadsConfig file (Err told)
    pub nothing : rest ≡ left.Nothing

  -- how a command ended: well, with its book closed this way; or by a fault, which left this
  abbrev pub ClosesOrFails : (Status → Files D → Type 0) → (Fault → Left D g → Type 0)
      → Result Status Fault → Left D g → Type 0
  ClosesOrFails Closed Failed ended rest =
      ((status : Status) × (files : Files D) × (ended ≡ Ok status) × (rest ≡ left.Closed files)
      × Closed status files)
      ⊎ ((told : Fault) × (ended ≡ Err told) × Failed told rest)

  -- `init`, `migrate` and `plans`: a book is made of the files for a configuration's plans
  module _ (image : Image) (making : Making) where
    -- the book was made, and was closed into these files
    pub record IsMadeAndClosed (plans : List Plan) (count : ℕ) (book : Held (FileStore D g))
        (files : Files D) : Type 0 where
      pub made : HasCleanDisk (file_state book) → IsMade making image plans count book
      pub copied : Copies book files

    -- it was made, and could not be closed
    pub record IsMadeUnclosed (plans : List Plan) (told : Fault) (rest : Left D g) : Type 0 where
      pub book : Held (FileStore D g)
      pub count : ℕ
      pub made : HasCleanDisk (file_state book) → IsMade making image plans count book
      pub unclosed : IsUnclosed book told rest

    -- it was closed, and the line about that could not be written
    pub record IsMadeUntold (plans : List Plan) (told : Fault) (rest : Left D g) : Type 0 where
      pub untold : told ≡ fault.CannotWrite
      pub files : Files D
      pub closed : rest ≡ left.Closed files
      pub book : Held (FileStore D g)
      pub count : ℕ
      pub is_made : IsMadeAndClosed plans count book files

    -- why the command did not end well
    abbrev pub FailsToMake : List ℕ → Fault → Left D g → Type 0
    FailsToMake file told rest = HasNoConfig file told rest
        ⊎ ((config : Config) × ReadsConfig file (Ok config)
        × (HasNotMade making image config.plans told rest
        ⊎ IsMadeUnclosed config.plans told rest
        ⊎ IsMadeUntold config.plans told rest))

  -- with the configuration of the file of this name
  module _ (image : Image) (file : List ℕ) where
    -- why `init`, `migrate` and `plans` did not end well
    abbrev pub FailsToMakeNew : Bool → Fault → Left D g → Type 0
    FailsToMakeNew has_sums told rest = FailsToMake image (how.New has_sums) file told rest

    abbrev pub FailsToMigrate : Fault → Left D g → Type 0
    FailsToMigrate told rest = FailsToMake image how.Migrated file told rest

    abbrev pub FailsToAdd : Fault → Left D g → Type 0
    FailsToAdd told rest = FailsToMake image how.Extended file told rest

    -- `serve` and `import`: what was done with a configuration, from the book that the files held
    module _ (Did : Config → Result Status Fault → Held (FileStore D g) → Held (FileStore D g)
        → Type 0) where
      abbrev pub WorksAndCloses : Status → Files D → Type 0
      WorksAndCloses ended files =
          (config : Config) × ReadsConfig file (Ok config)
          × Closes image config.plans (Did config) ended files

      abbrev pub FailsAtWork : Fault → Left D g → Type 0
      FailsAtWork told rest = HasNoConfig file told rest
          ⊎ ((config : Config) × ReadsConfig file (Ok config)
          × Fails image config.plans (Did config) told rest)

    -- the output got the plans that the book in the files keeps: each class has one of them
    pub record AreListed (before after : Option (List ℕ)) (last : Held (FileStore D g)) : Type 0
      where
        pub plans : List Plan
        pub faultless : plans_fault plans ≡ None
        pub kept : HasCleanDisk (file_state last) → IsBookOf image plans last
        pub told : Appends before after (plans_text plans)

    -- why it did not: there is no book in the files, or the plans of a book could not be written
    abbrev pub AreUntold : Fault → Left D g → Type 0
    AreUntold told (left.Open last) = IsUnlisted image told (left.Open last)
        ⊎ (IsExportFault told × ((plans : List Plan)
        × (HasCleanDisk (file_state last) → IsBookOf image plans last)))
    AreUntold told rest = IsUnfound image told rest

    abbrev pub FailsToList : Fault → Left D g → Type 0
    FailsToList told rest = HasNoConfig file told rest ⊎ AreUntold told rest

    -- `plans --list`
    abbrev pub ListsPlans : Option (List ℕ) → Option (List ℕ) → Result Status Fault → Left D g
        → Type 0
    ListsPlans before after ended rest =
        ((last : Held (FileStore D g)) × (ended ≡ Ok status.Done) × (rest ≡ left.Open last)
        × AreListed before after last)
        ⊎ ((told : Fault) × (ended ≡ Err told) × FailsToList told rest)

    module _ (b : book.Ghosts (Held (FileStore D g))) where
      -- it ended well: the book, and a line about it
      pub record Makes (making : Making) (before after : Option (List ℕ)) (ended : Status)
          (files : Files D) : Type 0 where
        pub config : Config
        pub read : ReadsConfig file (Ok config)
        pub done : ended ≡ status.Done
        pub book : Held (FileStore D g)
        pub count : ℕ
        pub is_made : IsMadeAndClosed image making config.plans count book files
        pub told : Appends before after (line_of making count)

      -- `init`, `migrate` and `plans` ended well
      abbrev pub MakesNew : Bool → Option (List ℕ) → Option (List ℕ) → Status → Files D
          → Type 0
      MakesNew has_sums before after ended files =
          Makes (how.New has_sums) before after ended files

      abbrev pub Migrates : Option (List ℕ) → Option (List ℕ) → Status → Files D → Type 0
      Migrates before after ended files = Makes how.Migrated before after ended files

      abbrev pub AddsPlans : Option (List ℕ) → Option (List ℕ) → Status → Files D → Type 0
      AddsPlans before after ended files = Makes how.Extended before after ended files

      -- `export`: what was written of the content that the files held
      pub record ExportsBook (what : Export) (before after : Option (List ℕ))
          (ended : Result Status Fault) (rest : Left D g) : Type 0 where
        pub config : Config
        pub read : ReadsConfig file (Ok config)
        pub done : ended ≡ Ok status.Done
        pub last : Held (FileStore D g)
        pub open_is : rest ≡ left.Open last
        pub worked : Worked image config.plans (WritesOut b config.plans what before after) last

      -- why it was not written
      pub record ExportsNothing (ended : Result Status Fault) (rest : Left D g) : Type 0 where
        pub told : Fault
        pub ended_is : ended ≡ Err told
        pub why : HasNoConfig file told rest
            ⊎ ((config : Config) × ReadsConfig file (Ok config)
            × FailsToExport b image config.plans told rest)

      -- `check --audit`: the book that the files held was audited, and is still open
      pub record AuditsBook (before after : Option (List ℕ)) (ended : Result Status Fault)
          (rest : Left D g) : Type 0 where
        pub config : Config
        pub read : ReadsConfig file (Ok config)
        pub last : Held (FileStore D g)
        pub open_is : rest ≡ left.Open last
        pub worked : Worked image config.plans
            (λ first last. Audits b config before after first last ended) last

      -- `check` of a book that the files held: it is still open
      pub record ChecksBook (before after : Option (List ℕ)) (ended : Result Status Fault)
          (rest : Left D g) : Type 0 where
        pub config : Config
        pub read : ReadsConfig file (Ok config)
        pub last : Held (FileStore D g)
        pub open_is : rest ≡ left.Open last
        pub worked : Worked image config.plans
            (λ first last. ChecksOver b config (Appends before after) first last ended) last
        pub why : IfErr ended IsExportFault

      -- why no book was looked at
      pub record LooksAtNone (ended : Result Status Fault) (rest : Left D g) : Type 0 where
        pub told : Fault
        pub ended_is : ended ≡ Err told
        pub why : HasNoConfig file told rest
            ⊎ ((config : Config) × ReadsConfig file (Ok config)
            × IsRefused image config.plans told rest)

      -- `check`: only of a configuration, or of one and the book of a file
      abbrev pub DoesCheck : Option (List ℕ) → Option (List ℕ) → Option (List ℕ)
          → Result Status Fault → Left D g → Type 0
      DoesCheck None before after ended rest =
          ChecksConfig file before after ended × (rest ≡ left.Nothing)
      DoesCheck (Some database) before after ended rest =
          ChecksBook before after ended rest ⊎ LooksAtNone ended rest

      -- `check`, with or without an audit
      abbrev pub ChecksOrAudits : Option (List ℕ) → Option (List ℕ) → Bool → Option (List ℕ)
          → Result Status Fault → Left D g → Type 0
      ChecksOrAudits before after true (Some database) ended rest =
          AuditsBook before after ended rest ⊎ LooksAtNone ended rest
      ChecksOrAudits before after audits database ended rest =
          DoesCheck database before after ended rest

  -- ---- all of them

  -- What a job does over the files that held the image: how it ends, and what it leaves of them.
  -- `text` is what standard input has, `before` and `after` what standard output had and has.
  -- `IsBound` says how an exchange is bound that listens where a server is to.
  module _ (image : Image) {X M : Type 0} (b : book.Ghosts (Held (FileStore D g)))
      (x : exchange.Ghosts X) (IsBound : Listening → X → Type 0) (m : book.Ghosts M)
      (text before after : Option (List ℕ)) where
    -- turns of a server over a book whose names were seen so before it was opened, and an import at
    -- a moment, with a configuration
    abbrev pub HasServed : List ℕ → Option NamesSeen → Serving → Config → Result Status Fault
        → Held (FileStore D g) → Held (FileStore D g) → Type 0
    HasServed file seen serving config =
        RunsServer b x WasPut (IsBound serving.listening) (Some file) None None seen serving config
        before after

    abbrev pub HasImported : ℕ → Config → Result Status Fault → Held (FileStore D g)
        → Held (FileStore D g) → Type 0
    HasImported moment config ended first last =
        Runs b config.plans moment text first last before after ended

    -- sessions that were carried forward at a moment, over files that were last changed at
    -- another one, with a configuration
    abbrev pub HasForwarded : Carrying → ℕ → ℕ → Config → Result Status Fault
        → Held (FileStore D g) → Held (FileStore D g) → Type 0
    HasForwarded carrying moment written_at config ended first last =
        RunsForward b config.plans carrying moment written_at before after first last ended

    -- what is done by the configuration of the first name with the book of the second
    abbrev pub DoesBookJob : List ℕ → List ℕ → BookJob → Result Status Fault → Left D g → Type 0
    DoesBookJob file name (of_book.Init has_sums) ended rest =
        ClosesOrFails (MakesNew image file b has_sums before after)
        (FailsToMakeNew image file has_sums) ended rest
    DoesBookJob file name (of_book.Serve serving) ended rest =
        KeepsOthers serving.telling.status serving.telling.balances before after ended rest
        ⊎ ((seen : Option NamesSeen) × IfSome seen (IsNamed name)
        × ClosesOrFails (WorksAndCloses image file (HasServed file seen serving))
        (FailsAtWork image file (HasServed file seen serving)) ended rest)
    DoesBookJob file name of_book.Import ended rest = (moment : ℕ) × (moment < 2 ^ 53)
        × ClosesOrFails (WorksAndCloses image file (HasImported moment))
        (FailsAtWork image file (HasImported moment)) ended rest
    DoesBookJob file name (of_book.Forward carrying) ended rest =
        (moment : ℕ) × (written_at : ℕ) × (moment < 2 ^ 53)
        × ClosesOrFails (WorksAndCloses image file (HasForwarded carrying moment written_at))
        (FailsAtWork image file (HasForwarded carrying moment written_at)) ended rest
    DoesBookJob file name (of_book.Export what) ended rest =
        ExportsBook image file b what before after ended rest
        ⊎ ExportsNothing image file b ended rest
    DoesBookJob file name of_book.Migrate ended rest =
        ClosesOrFails (Migrates image file b before after) (FailsToMigrate image file) ended rest
    DoesBookJob file name of_book.AddPlans ended rest =
        ClosesOrFails (AddsPlans image file b before after) (FailsToAdd image file) ended rest
    DoesBookJob file name of_book.ListPlans ended rest =
        ListsPlans image file before after ended rest

    abbrev pub DoesJob : Job → Result Status Fault → Left D g → Type 0
    DoesJob (job.Feed file) ended rest =
        (ended ≡ Ok status.Done
        → (config : Config) × IsSiteOf file config × FeedsScript m config text before after)
        × IfErr ended (FeedsNothing file) × (rest ≡ left.Nothing)
    DoesJob (job.Check file database kept audits) ended rest =
        KeepsOthers kept.status kept.balances before after ended rest
        ⊎ ChecksOrAudits image file b before after audits database ended rest
    DoesJob (job.Key file account until) ended rest =
        PrintsKey file account until before after ended
        × (rest ≡ left.Nothing)
    DoesJob (job.Book paths asked) ended rest =
        DoesBookJob paths.config paths.database asked ended rest
