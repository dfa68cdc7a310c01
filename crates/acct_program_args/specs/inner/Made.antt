-- A command in the making.
use Rattle.std.specs.Prelude.{◌≡◌, Result, IfOk}
use Rattle.clap.specs.Words.{App, app_of}
use Rattle.clap.specs.declared.builder.command.Command.{Command}

-- it is this one, unless an allocation failed
abbrev pub IsMade : {E : Type 0} → App → Result Command E → Type 0
IsMade a made = IfOk made (λ command. app_of command ≡ a)
