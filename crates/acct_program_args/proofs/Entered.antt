-- The subcommand that a parse entered, with its rows.
use Rattle.std.proofs.Common.{◌≡◌, List, Option, Some, None, option_map, refl, ◌∙◌, codes}
use Rattle.clap.specs.Words.{Row, Text, subcommand_name_of, subcommand_rows, subcommand_rows_of}
use Rattle.clap.specs.declared.parser.matches.ArgMatches.{ArgMatches}
use Rattle.clap.specs.declared.parser.matches.ArgMatches.TheViews.{out-ArgMatches, out-SubCommand}
use Rattle.clap.specs.declared.parser.matches.SubCommand.{SubCommand}
use Rattle.std.specs.Prelude.{Box}
use Rattle.std.specs.Box.{box_value}
use Rattle.acct_program_args.specs.declared.job.Order.{Order}
use Rattle.acct_program_args.specs.Orders.{WordsAskFor, IsFlag, NamesJob}

abbrev first : Text × List Row → Text
first p = p.0

abbrev second : Text × List Row → List Row
second p = p.1

module _ {Z : Type 0} where
  name_first : (s : Option (Box SubCommand Z)) → option_map (λ b. (out-SubCommand
      (box_value b)).name.now) s ≡ option_map first (subcommand_rows s)
  name_first None = refl
  name_first (Some x) = refl

name_of_rows : (m : ArgMatches) → subcommand_name_of m ≡ option_map first (subcommand_rows_of m)
name_of_rows m = name_first (out-ArgMatches m).subcommand

-- what a subcommand's name and rows ask for
abbrev Asks : Text → List Row → Order → Type 0
Asks name rows order =
    WordsAskFor name rows order.job × IsFlag (codes "explain") rows order.explains
    × IsFlag (codes "lose-damaged-commits") rows order.loses_commits

named : (o : Option (Text × List Row)) (name : Text) (rows : List Row) (order : Order)
    → Some name ≡ option_map first o → Some rows ≡ option_map second o
    → Asks name rows order → NamesJob o order
named None name rows order a b h = absurd (cc (a, b))
named (Some p) name rows order a b h =
    let one : name ≡ p.0 = cc a in
    let two : rows ≡ p.1 = cc b in
    rw (one, two) at h

-- an order that the entered subcommand's name and rows ask for
pub names_job : (m : ArgMatches) (o : Option (Text × List Row)) (name : Text) (rows : List Row)
    (order : Order) → subcommand_rows_of m ≡ o
    → Some name ≡ subcommand_name_of m → Some rows ≡ option_map second (subcommand_rows_of m)
    → Asks name rows order → NamesJob o order
names_job m o name rows order e a b h =
    rw (← e) (named (subcommand_rows_of m) name rows order (a ∙ name_of_rows m) b h)
