-- The command line as a simple command of clap.
use Rattle.std.specs.Prelude.{ℕ, pos, true, false, List, [], ◌∷◌, Some, codes}
use Rattle.clap.specs.Words.{App, Rule, Text, new_app, new_rule, with_rule, with_subcommand}
use Rattle.clap.specs.declared.builder.action.ArgAction.TheVariants as action
use Rattle.clap.specs.declared.builder.value_parser.ValueParser.TheVariants as parser

-- an option of one value
abbrev pub option_rule : Text → Rule
option_rule id = record (new_rule id) { long = Some id; value_names = 1 }

-- an option that must be given
abbrev pub required : Rule → Rule
required r = record r { required = true }

-- `--config FILE`
abbrev pub config_rule : Rule
config_rule = option_rule (codes "config")

-- `--db FILE`
abbrev pub database_rule : Rule
database_rule = option_rule (codes "db")

-- `WHAT`
abbrev pub what_rule : Rule
what_rule = record (new_rule (codes "what")) { value_names = 1 }

-- a flag
abbrev pub flag_rule : Text → Rule
flag_rule id = record (new_rule id) { long = Some id; action = Some action.SetTrue }

-- an option that has this value if it isn't given
abbrev pub default_rule : Text → Text → Rule
default_rule id value = record (option_rule id) { defaults = value ∷ [] }

-- `--bind A.B.C.D`, which may be given more than once
abbrev pub bind_rule : Rule
bind_rule =
    record (default_rule (codes "bind") (codes "127.0.0.1")) { action = Some action.Append }

-- an option of a number, from 1 to the given one
abbrev pub number_rule : Text → ℕ → Text → Rule
number_rule id most value =
    record (default_rule id value) { parser = Some (parser.Signed (pos 1) (pos most)) }

-- an option for a port
abbrev pub port_rule : Text → Text → Rule
port_rule id default_port = number_rule id 65535 default_port

-- `--turns N`
abbrev pub turns_rule : Rule
turns_rule = number_rule (codes "turns") 9223372036854775807 (codes "9223372036854775807")

-- `--sync HOW`
abbrev pub sync_rule : Rule
sync_rule = default_rule (codes "sync") (codes "twice")

-- an option that has a rule on another one
abbrev pub tied : Rule → Rule
tied r = record r { is_free = false }

-- `--balances-every SECONDS`, without the rule that it needs `--balances`
abbrev pub seconds_rule : Rule
seconds_rule = number_rule (codes "balances-every") 86400 (codes "60")

-- `--balances-every SECONDS`, which may only be given with `--balances`
abbrev pub balances_every_rule : Rule
balances_every_rule = tied seconds_rule

-- `--audit`, which may only be given with `--db`
abbrev pub audit_rule : Rule
audit_rule = tied (flag_rule (codes "audit"))

-- an option for a number of days
abbrev pub days_rule : Text → Rule
days_rule id = record (option_rule id) { parser = Some (parser.Signed (pos 30) (pos 36500)) }

-- `--before DAYS`
abbrev pub before_rule : Rule
before_rule = record (days_rule (codes "before")) { defaults = codes "90" ∷ [] }

-- `--at MOMENT`
abbrev pub at_rule : Rule
at_rule = record (option_rule (codes "at")) {
  parser = Some (parser.Signed (pos 1) (pos 9007199254740991));
}

-- `--until SECONDS`
abbrev pub until_rule : Rule
until_rule = record (option_rule (codes "until")) {
  parser = Some (parser.Signed (pos 1) (pos 9007199254740991));
}

-- `ACCOUNT`
abbrev pub account_rule : Rule
account_rule = record (new_rule (codes "account")) { value_names = 1 }

-- `--oldest-report DAYS`
abbrev pub oldest_rule : Rule
oldest_rule = record (option_rule (codes "oldest-report")) {
  parser = Some (parser.Signed (pos 1) (pos 36500));
}

-- `--keep CLIENT`, which may be given more than once
abbrev pub keep_rule : Rule
keep_rule = record (option_rule (codes "keep")) { action = Some action.Append }

-- a command that has a configuration: `--explain`
abbrev pub explained : App → App
explained a = with_rule a (flag_rule (codes "explain"))

-- `feed [--config FILE] [--explain]`
abbrev pub feed_app : App
feed_app = explained (with_rule (new_app (codes "feed")) config_rule)

-- a command that needs a configuration: `--config FILE`
abbrev pub configured_app : Text → App
configured_app name = with_rule (new_app name) (required config_rule)

-- `key --config FILE --until SECONDS [--explain] ACCOUNT`
abbrev pub key_app : App
key_app = with_rule (explained (with_rule (configured_app (codes "key")) (required until_rule)))
    (required account_rule)

-- a command that keeps a book: `--config FILE --db FILE [--explain]`
abbrev pub book_app : Text → App
book_app name = explained (with_rule (configured_app name) (required database_rule))

-- `init --config FILE --db FILE [--explain] [--page-sums]`
abbrev pub init_app : App
init_app = with_rule (book_app (codes "init")) (flag_rule (codes "page-sums"))

-- a command that opens an existing book: `--lose-damaged-commits`
abbrev pub opening : App → App
opening a = with_rule a (flag_rule (codes "lose-damaged-commits"))

-- `--config FILE --db FILE [--explain] [--lose-damaged-commits]`
abbrev pub opening_app : Text → App
opening_app name = opening (book_app name)

-- `export --config FILE --db FILE [--explain] [--lose-damaged-commits] WHAT`
abbrev pub export_app : App
export_app = with_rule (opening_app (codes "export")) (required what_rule)

-- `plans --config FILE --db FILE [--explain] [--lose-damaged-commits] [--list]`
abbrev pub plans_app : App
plans_app = with_rule (opening_app (codes "plans")) (flag_rule (codes "list"))

-- a command with these options, from the first on
abbrev pub with_rules : App → List Rule → App
with_rules a [] = a
with_rules a (r ∷ rs) = with_rules (with_rule a r) rs

-- `check --config FILE [--db FILE [--audit]] [--status FILE] [--balances FILE] [--explain]
-- [--lose-damaged-commits]`
abbrev pub check_app : App
check_app = opening (explained (with_rules (configured_app (codes "check"))
    (database_rule ∷ option_rule (codes "status") ∷ option_rule (codes "balances")
    ∷ audit_rule ∷ [])))

-- `serve --config FILE --db FILE [--explain] [--lose-damaged-commits] [--bind A.B.C.D]..
-- [--desk-bind A.B.C.D] [--radius-port PORT] [--desk-port PORT] [--turns N] [--sync HOW] [--quiet]
-- [--status FILE] [--balances FILE [--balances-every SECONDS]] [--oldest-report DAYS]`
abbrev pub serve_app : App
serve_app = with_rules (opening_app (codes "serve"))
    (bind_rule ∷ option_rule (codes "desk-bind")
    ∷ port_rule (codes "radius-port") (codes "1813") ∷ port_rule (codes "desk-port") (codes "8066")
    ∷ turns_rule ∷ sync_rule ∷ flag_rule (codes "quiet") ∷ option_rule (codes "status")
    ∷ option_rule (codes "balances") ∷ balances_every_rule ∷ oldest_rule ∷ [])

-- `forward --config FILE --db FILE [--explain] [--lose-damaged-commits] [--before DAYS]
-- [--at MOMENT] [--silent DAYS] [--keep CLIENT].. [--dry-run] [--yes] [--oldest-report DAYS]`
abbrev pub forward_app : App
forward_app = with_rules (opening_app (codes "forward"))
    (before_rule ∷ at_rule ∷ days_rule (codes "silent") ∷ keep_rule
    ∷ flag_rule (codes "dry-run") ∷ flag_rule (codes "yes") ∷ oldest_rule ∷ [])

-- a command that has a version
abbrev pub has_version : App → App
has_version a = record a { top = record a.top { has_version = true } }

-- a command that needs a subcommand
abbrev pub requires_subcommand : App → App
requires_subcommand a = record a { top = record a.top { subcommand_required = true } }

-- the program's name and version, which need a subcommand
abbrev pub bare_app : App
bare_app = requires_subcommand (has_version (new_app (codes "radacctd")))

-- a program with these commands, from the first on
abbrev pub with_commands : App → List App → App
with_commands a [] = a
with_commands a (c ∷ cs) = with_commands (with_subcommand a c.top) cs

-- the program's command line
abbrev pub app : App
app = with_commands bare_app
    (feed_app ∷ check_app ∷ init_app ∷ serve_app ∷ opening_app (codes "import")
    ∷ export_app ∷ opening_app (codes "migrate") ∷ plans_app ∷ forward_app ∷ key_app
    ∷ [])
