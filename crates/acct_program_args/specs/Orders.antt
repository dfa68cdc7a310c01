-- What the options of a subcommand ask for.
use Rattle.std.specs.Prelude.{◌≡◌, ◌≤◌, ◌<◌, ◌^◌, ◌*◌, ⊤, ℕ, Bool, true, false, List, length}
use Rattle.std.specs.Prelude.{[], Option, Some, None, IfSome, is_some, unwrap_or, codes}
use Rattle.std.specs.Option.{option_or}
use Rattle.clap.specs.Words.{Row, Text, all_of, first_of, one_of}
use Rattle.clap.specs.Takes.{is_given}
use Rattle.percent_encoding.specs.Percent.{percent_decode}
use Rattle.acct_model.specs.Numbers.{number_up_to}
use Rattle.acct_model.specs.Vouchers.{is_voucher_account}
use Rattle.acct_program_args.specs.declared.job.Order.{Order}
use Rattle.acct_program_args.specs.declared.job.Job.{Job}
use Rattle.acct_program_args.specs.declared.job.Job.TheVariants as job
use Rattle.acct_program_args.specs.declared.job.BookJob.{BookJob}
use Rattle.acct_program_args.specs.declared.job.BookJob.TheVariants as of_book
use Rattle.acct_program_args.specs.declared.job.Export.{Export}
use Rattle.acct_program_args.specs.declared.job.Export.TheVariants.{Sessions, Balances, TopUps}
use Rattle.acct_program_args.specs.declared.job.Export.TheVariants.{Overruns}
use Rattle.acct_program_args.specs.declared.job.Serving.{Serving}
use Rattle.acct_program_args.specs.declared.job.Listening.{Listening}
use Rattle.acct_program_args.specs.declared.job.Syncs.{Syncs}
use Rattle.acct_program_args.specs.declared.job.Syncs.TheVariants.{Once, Twice}
use Rattle.acct_program_args.specs.declared.job.Telling.{Telling}
use Rattle.acct_program_args.specs.declared.job.BalancesFile.{BalancesFile}
use Rattle.acct_program_args.specs.declared.job.Paths.{Paths}
use Rattle.acct_program_args.specs.declared.job.KeptNames.{KeptNames}
use Rattle.acct_program_args.specs.declared.job.Carrying.{Carrying}
use Rattle.acct_program_args.specs.declared.job.Cutoff.{Cutoff}
use Rattle.acct_program_args.specs.declared.job.Cutoff.TheVariants.{Before, At}

-- the option has this number, from 1 to the given one
abbrev pub IsNumber : Text → List Row → ℕ → ℕ → Type 0
IsNumber id rows most number =
    (text : Text) × (first_of id rows ≡ Some text) × (number_up_to most text ≡ Some number)
    × (1 ≤ number) × (number ≤ most)

-- whether a flag was given
abbrev pub IsFlag : Text → List Row → Bool → Type 0
IsFlag id rows is_given =
    (one_of id rows ≡ Some (codes "true") → is_given ≡ true)
    × (one_of id rows ≡ Some (codes "false") → is_given ≡ false)
    × (one_of id rows ≡ None → is_given ≡ false)

-- the addresses at which reports are received: each that was given
abbrev pub IsAddresses : List Row → List Text → Type 0
IsAddresses rows addresses =
    (all_of (codes "bind") rows ≡ Some addresses)
    × (1 ≤ length addresses) × (length addresses ≤ 16)

-- the address of the desk: its own, or else the first of the others
abbrev pub IsDeskAddress : List Row → Text → Type 0
IsDeskAddress rows address =
    option_or (first_of (codes "desk-bind") rows) (first_of (codes "bind") rows) ≡ Some address

-- where the options say that a server listens
abbrev pub IsListening : List Row → Listening → Type 0
IsListening rows listening =
    IsAddresses rows listening.addresses.items × IsDeskAddress rows listening.desk_address
    × IsNumber (codes "radius-port") rows 65535 listening.radius_port
    × IsNumber (codes "desk-port") rows 65535 listening.desk_port

-- the word for how often a book is synced
abbrev pub syncs_name : Syncs → Text
syncs_name Once = codes "once"
syncs_name Twice = codes "twice"

-- the options name how often the book is synced
abbrev pub IsSyncs : List Row → Syncs → Type 0
IsSyncs rows syncs = first_of (codes "sync") rows ≡ Some (syncs_name syncs)

-- the file of balances that the options name, if they name one; if they name none, the command line
-- gives no seconds for it either
abbrev pub IsBalances : List Row → Option BalancesFile → Type 0
IsBalances rows None =
    (first_of (codes "balances") rows ≡ None) × (is_given (codes "balances-every") rows ≡ false)
IsBalances rows (Some balances) =
    (first_of (codes "balances") rows ≡ Some balances.file)
    × IsNumber (codes "balances-every") rows 86400 balances.seconds

-- what the options say that a server writes apart from its replies
abbrev pub IsTelling : List Row → Telling → Type 0
IsTelling rows telling =
    IsFlag (codes "quiet") rows telling.is_quiet
    × (first_of (codes "status") rows ≡ telling.status) × IsBalances rows telling.balances

-- how many days old a report may be
abbrev pub IsOldest : List Row → Option ℕ → Type 0
IsOldest rows None = first_of (codes "oldest-report") rows ≡ None
IsOldest rows (Some days) = IsNumber (codes "oldest-report") rows 36500 days

-- so many days in seconds
abbrev pub seconds_of : Option ℕ → Option ℕ
seconds_of None = None
seconds_of (Some days) = Some (days * 86400)

-- how the options say that a server runs
abbrev pub IsServing : List Row → Serving → Type 0
IsServing rows serving =
    IsListening rows serving.listening
    × IsNumber (codes "turns") rows 9223372036854775807 serving.turns
    × IsSyncs rows serving.syncs × IsOldest rows serving.oldest_report
    × IsTelling rows serving.telling

-- the files that the options name
abbrev pub ArePaths : List Row → Paths → Type 0
ArePaths rows paths =
    (first_of (codes "config") rows ≡ Some paths.config)
    × (first_of (codes "db") rows ≡ Some paths.database)

-- the files that the options say a server is to write
abbrev pub AreKeptNames : List Row → KeptNames → Type 0
AreKeptNames rows kept =
    (first_of (codes "status") rows ≡ kept.status)
    × (first_of (codes "balances") rows ≡ kept.balances)

-- the name of what is written
abbrev pub export_name : Export → Text
export_name Sessions = codes "sessions"
export_name Balances = codes "balances"
export_name TopUps = codes "topups"
export_name Overruns = codes "overruns"

-- the options name what is to be written
abbrev pub IsExport : List Row → Export → Type 0
IsExport rows what = first_of (codes "what") rows ≡ Some (export_name what)

-- the moment from which on a session that has ended stays: days and a moment are not both given
abbrev pub IsCutoff : List Row → Cutoff → Type 0
IsCutoff rows (Before days) =
    (first_of (codes "at") rows ≡ None) × IsNumber (codes "before") rows 36500 days × (30 ≤ days)
IsCutoff rows (At moment) =
    (is_given (codes "before") rows ≡ false)
    × IsNumber (codes "at") rows 9007199254740991 moment

-- for how many days an open session must have been silent
abbrev pub IsSilence : List Row → Option ℕ → Type 0
IsSilence rows None = first_of (codes "silent") rows ≡ None
IsSilence rows (Some days) = IsNumber (codes "silent") rows 36500 days × (30 ≤ days)

-- which sessions the options say are carried forward, and how
abbrev pub IsCarrying : List Row → Carrying → Type 0
IsCarrying rows carrying =
    IsCutoff rows carrying.cutoff × IsSilence rows carrying.silent
    × (unwrap_or (all_of (codes "keep") rows) [] ≡ carrying.kept.items)
    × IsFlag (codes "dry-run") rows carrying.is_dry × IsFlag (codes "yes") rows carrying.is_sure
    × IsOldest rows carrying.oldest_report

-- what the rows of a subcommand's options ask to be done with a book
abbrev pub WordsAskOfBook : Text → List Row → BookJob → Type 0
WordsAskOfBook name rows (of_book.Init has_sums) =
    (name ≡ codes "init") × IsFlag (codes "page-sums") rows has_sums
WordsAskOfBook name rows (of_book.Serve serving) = (name ≡ codes "serve") × IsServing rows serving
WordsAskOfBook name rows of_book.Import = name ≡ codes "import"
WordsAskOfBook name rows (of_book.Export what) = (name ≡ codes "export") × IsExport rows what
WordsAskOfBook name rows of_book.Migrate = name ≡ codes "migrate"
WordsAskOfBook name rows of_book.AddPlans =
    (name ≡ codes "plans") × IsFlag (codes "list") rows false
WordsAskOfBook name rows of_book.ListPlans =
    (name ≡ codes "plans") × IsFlag (codes "list") rows true
WordsAskOfBook name rows (of_book.Forward carrying) =
    (name ≡ codes "forward") × IsCarrying rows carrying

-- the account that the options name, percent-decoded: 1 to 253 octets
abbrev pub IsAccount : List Row → List ℕ → Type 0
IsAccount rows account =
    (text : Text) × (first_of (codes "account") rows ≡ Some text)
    × (account ≡ percent_decode text) × (is_voucher_account account ≡ true)

-- what the rows of a subcommand's options ask for
abbrev pub WordsAskFor : Text → List Row → Job → Type 0
WordsAskFor name rows (job.Feed config) =
    (name ≡ codes "feed") × (first_of (codes "config") rows ≡ config)
WordsAskFor name rows (job.Check config database kept audits) =
    (name ≡ codes "check") × (first_of (codes "config") rows ≡ Some config)
    × (first_of (codes "db") rows ≡ database) × AreKeptNames rows kept
    × IsFlag (codes "audit") rows audits × (audits ≡ true → is_some database ≡ true)
WordsAskFor name rows (job.Key config account until) =
    (name ≡ codes "key") × (first_of (codes "config") rows ≡ Some config)
    × IsAccount rows account × IsNumber (codes "until") rows 9007199254740991 until
WordsAskFor name rows (job.Book paths asked) = ArePaths rows paths × WordsAskOfBook name rows asked

-- the order is that of the subcommand that the command line names
abbrev pub NamesJob : Option (Text × List Row) → Order → Type 0
NamesJob None order = ⊥
NamesJob (Some p) order =
    WordsAskFor p.0 p.1 order.job × IsFlag (codes "explain") p.1 order.explains
    × IsFlag (codes "lose-damaged-commits") p.1 order.loses_commits

-- A server makes fewer than 2^63 turns and receives reports at 1 to 16 addresses. It lets at least
-- 1 to 86,400 seconds pass between two writings of the balances. Its reports are up to 36,500 days
-- old.
pub record IsBounded (serving : Serving) : Type 0 where
  pub turns : serving.turns < 2 ^ 63
  pub some_address : 1 ≤ length serving.listening.addresses.items
  pub addresses : length serving.listening.addresses.items ≤ 16
  pub seconds : IfSome serving.telling.balances
      (λ balances. (1 ≤ balances.seconds) × (balances.seconds ≤ 86400))
  pub oldest : IfSome serving.oldest_report (λ days. days ≤ 36500)

-- a number of days is 30 to 36,500
abbrev pub AreDays : ℕ → Type 0
AreDays days = (30 ≤ days) × (days ≤ 36500)

-- the days are so many, or the moment is below 2^53
abbrev pub IsWithin : Cutoff → Type 0
IsWithin (Before days) = AreDays days
IsWithin (At moment) = moment < 2 ^ 53

-- the numbers of what is done with a book are within their bounds
abbrev pub AreBounded : BookJob → Type 0
AreBounded (of_book.Init has_sums) = ⊤
AreBounded (of_book.Serve serving) = IsBounded serving
AreBounded of_book.Import = ⊤
AreBounded (of_book.Export what) = ⊤
AreBounded of_book.Migrate = ⊤
AreBounded of_book.AddPlans = ⊤
AreBounded of_book.ListPlans = ⊤
AreBounded (of_book.Forward carrying) =
    IsWithin carrying.cutoff × IfSome carrying.silent AreDays
    × IfSome carrying.oldest_report (λ days. days ≤ 36500)

-- so are those of a job
abbrev pub HasBounds : Job → Type 0
HasBounds (job.Feed config) = ⊤
HasBounds (job.Check config database kept audits) = ⊤
HasBounds (job.Key config account until) = ⊤
HasBounds (job.Book paths asked) = AreBounded asked
