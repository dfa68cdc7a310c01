-- The exit statuses that whoever starts the program goes by.
use Rattle.std.specs.Prelude.{ℕ}
use Rattle.acct_program.specs.declared.status.Status.{Status}
use Rattle.acct_program.specs.declared.status.Status.TheVariants.{Done, Refused, BadCommandLine}
use Rattle.acct_program.specs.declared.status.Status.TheVariants.{Unavailable, Socket}

abbrev pub status_number : Status → ℕ
status_number Done = 0
status_number Refused = 1
status_number BadCommandLine = 2
status_number Unavailable = 3
status_number Socket = 4
