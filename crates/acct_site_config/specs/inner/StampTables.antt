-- How the texts of a stamp's table are borrowed.
use Rattle.std.specs.Prelude.{Option}
use Rattle.std.specs.Option.{option_map}
use Rattle.acct_site_config.specs.declared.stamp_tables.StampTexts.{StampTexts as Borrowed}
use Rattle.acct_site_config.specs.StampTables.{StampTexts}

-- the texts that are borrowed
abbrev pub texts_view : Borrowed → StampTexts
texts_view texts = (texts.secret.now, option_map (λ old. old.now) texts.old)

abbrev pub stamp_view : Option Borrowed → Option StampTexts
stamp_view stamp = option_map texts_view stamp
