use Rattle.std.proofs.Common.{◌≡◌, ◌∙◌, ap, sym, refl, true, false, Option, Some, None, is_some}
use Rattle.std.specs.Prelude.{option_and_then}
use Rattle.std.specs.Option.{option_map_or}
use Rattle.clap.specs.Facts.{explicit_source}
use Rattle.clap.specs.Matches.{found_of, matched_of}
use Rattle.clap.proofs.TakesLemmas.{present_row}
use Rattle.clap.specs.declared.parser.matches.MatchedArg.{MatchedArg}
use Rattle.clap.specs.declared.parser.matches.ValueSource.TheVariants.{DefaultValue, CommandLine}
use Rattle.acct_program_args.proofs.options.is_given.Goals as goal

by_default : (o : Option MatchedArg) → Some DefaultValue ≡ option_and_then (λ a. a.source) o
    → option_map_or (λ a. explicit_source a.source) o false ≡ false
by_default None e = refl
by_default (Some a) e = ap explicit_source (sym e)

by_words : (o : Option MatchedArg) → Some CommandLine ≡ option_and_then (λ a. a.source) o
    → option_map_or (λ a. explicit_source a.source) o false ≡ true
by_words None e = absurd (cc e)
by_words (Some a) e = ap explicit_source (sym e)

unsaid : (o : Option MatchedArg) → None ≡ option_and_then (λ a. a.source) o
    → is_some o ≡ option_map_or (λ a. explicit_source a.source) o false
unsaid None e = refl
unsaid (Some a) e = ap explicit_source e

pub returns-in-Some-DefaultValue : goal.returns-in-Some-DefaultValue
returns-in-Some-DefaultValue c =
    sym (by_default (matched_of (found_of c.args.options.now) c.args.id.now)
    (ap (λ s. Some s) (sym c.in-Some-DefaultValue.field-0-is) ∙ sym c.in-Some-DefaultValue.is
    ∙ c.value_source.ensures))
    ∙ present_row (found_of c.args.options.now) c.args.id.now

pub returns-in-Some-CommandLine : goal.returns-in-Some-CommandLine
returns-in-Some-CommandLine c =
    sym (by_words (matched_of (found_of c.args.options.now) c.args.id.now)
    (ap (λ s. Some s) (sym c.in-Some-CommandLine.field-0-is) ∙ sym c.in-Some-CommandLine.is
    ∙ c.value_source.ensures))
    ∙ present_row (found_of c.args.options.now) c.args.id.now

pub returns-in-None : goal.returns-in-None
returns-in-None c =
    c.contains_id.ensures
    ∙ unsaid (matched_of (found_of c.args.options.now) c.args.id.now)
    (sym c.in-None.is ∙ c.value_source.ensures)
    ∙ present_row (found_of c.args.options.now) c.args.id.now
