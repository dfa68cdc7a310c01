-- What a row says of a session.
use Rattle.std.specs.Prelude.{ℕ, ◌+◌, ◌<◌, ◌^◌, List, Option, codes}
use Rattle.acct_book.specs.declared.row.SessionState.{SessionState}
use Rattle.acct_book.specs.declared.row.SessionState.TheVariants.{Live, Closed, Stopped}

-- a row: whose session it is, who pays and by which plan, and what its reports said
pub record RowFacts : Type 0 where
  pub client : List ℕ
  pub session : List ℕ
  pub account : List ℕ
  pub class : List ℕ
  pub plan : List ℕ
  pub input : ℕ
  pub output : ℕ
  pub seconds : ℕ
  pub first : ℕ
  pub last : ℕ
  pub state : SessionState
  pub cause : ℕ
  pub calling : List ℕ
  pub framed : Option (List ℕ)

-- the text of a session's state, in every place that shows one
abbrev pub state_text : SessionState → List ℕ
state_text Live = codes "open"
state_text Closed = codes "closed"
state_text Stopped = codes "stopped"

-- what each row keeps: its octets are below 2^63 together, and its moments are below 2^53
pub record IsRow (input output first last : ℕ) : Type 0 where
  pub total_fits : input + output < 2 ^ 63
  pub first_fits : first < 2 ^ 53
  pub last_fits : last < 2 ^ 53
