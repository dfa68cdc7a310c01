-- What an exchange over a list records.
use Rattle.std.specs.Prelude.{Bool, true, false, List, Option, Some, None}
use Rattle.acct_service.specs.declared.exchange.Call.{Call}

-- all its calls, or none
abbrev pub told_of : Bool → List Call → Option (List Call)
told_of true calls = Some calls
told_of false calls = None
