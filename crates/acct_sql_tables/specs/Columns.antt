-- What the columns of a row say.
use Rattle.std.specs.Prelude.{ℕ, ℤ, zero, suc, pos, negsuc, ◌+◌, ◌^◌, Bool, false, bytes_eq, List}
use Rattle.std.specs.Prelude.{[], ◌∷◌, Option, Some, None}
use Rattle.sqlite.specs.declared.types.Value.{Value}
use Rattle.sqlite.specs.declared.types.Value.TheVariants.{Null, Int, Real, Text, Blob}
use Rattle.sqlite.specs.Order.{Row, column}
use Rattle.sqlite_value.specs.Order.{bytes}
use Rattle.acct_model.specs.declared.plan.Plan.{Plan}
use Rattle.acct_model.specs.declared.plan.Count.{Count}
use Rattle.acct_model.specs.declared.plan.Count.TheVariants.{Both, Input, Output}
use Rattle.acct_model.specs.Vouchers.{TopUpFacts}
use Rattle.acct_book.specs.declared.row.SessionState.{SessionState}
use Rattle.acct_book.specs.declared.row.SessionState.TheVariants.{Live, Closed, Stopped}
use Rattle.acct_book.specs.Row.{RowFacts}

abbrev pub is_blob : List ℕ → Value → Bool
is_blob octets Null = false
is_blob octets (Int n) = false
is_blob octets (Real x) = false
is_blob octets (Text t) = false
is_blob octets (Blob b) = bytes_eq b octets

abbrev pub is_text : List ℕ → Value → Bool
is_text octets Null = false
is_text octets (Int n) = false
is_text octets (Real x) = false
is_text octets (Text t) = bytes_eq t octets
is_text octets (Blob b) = false

abbrev pub int_in : Value → ℤ
int_in Null = pos 0
int_in (Int n) = n
int_in (Real x) = pos 0
int_in (Text t) = pos 0
int_in (Blob b) = pos 0

-- an integer below 0 counts as 2^64 and more, which no row has
abbrev pub size_of : ℤ → ℕ
size_of (pos n) = n
size_of (negsuc n) = 2 ^ 64 + n

-- and so does what is no integer
abbrev pub count_in : Value → ℕ
count_in Null = 2 ^ 64
count_in (Int n) = size_of n
count_in (Real x) = 2 ^ 64
count_in (Text t) = 2 ^ 64
count_in (Blob b) = 2 ^ 64

abbrev pub state_by_code : ℤ → SessionState
state_by_code (pos zero) = Live
state_by_code (pos (suc zero)) = Closed
state_by_code (pos (suc (suc n))) = Stopped
state_by_code (negsuc n) = Stopped

-- 0 is open, 1 closed and 2 stopped
abbrev pub state_in : Value → SessionState
state_in Null = Stopped
state_in (Int n) = state_by_code n
state_in (Real x) = Stopped
state_in (Text t) = Stopped
state_in (Blob b) = Stopped

-- What is none of the three is no state: it counts as stopped, with a cause of 2^64 and more, which
-- no row has.
abbrev pub cause_in_columns : ℤ → ℕ → ℕ
cause_in_columns (pos zero) cause = cause
cause_in_columns (pos (suc zero)) cause = cause
cause_in_columns (pos (suc (suc zero))) cause = cause
cause_in_columns (pos (suc (suc (suc n)))) cause = 2 ^ 64 + cause
cause_in_columns (negsuc n) cause = 2 ^ 64 + cause

-- the cause of a session by the columns of its state and its cause
abbrev pub cause_in : Value → Value → ℕ
cause_in Null cause = 2 ^ 64
cause_in (Int n) cause = cause_in_columns n (count_in cause)
cause_in (Real x) cause = 2 ^ 64
cause_in (Text t) cause = 2 ^ 64
cause_in (Blob b) cause = 2 ^ 64

abbrev pub framed_in : List ℕ → Option (List ℕ)
framed_in [] = None
framed_in (octet ∷ octets) = Some (octet ∷ octets)

-- a session by its columns: client, id, account, class, input, output, seconds, first_seen,
-- last_seen, state, cause, calling, framed; its plan is in a table of its own
abbrev pub session_in_columns : (ℕ → Value) → RowFacts
session_in_columns at = record {
  client = bytes (at 0);
  session = bytes (at 1);
  account = bytes (at 2);
  class = bytes (at 3);
  plan = [];
  input = count_in (at 4);
  output = count_in (at 5);
  seconds = count_in (at 6);
  first = count_in (at 7);
  last = count_in (at 8);
  state = state_in (at 9);
  cause = cause_in (at 9) (at 10);
  calling = bytes (at 11);
  framed = framed_in (bytes (at 12));
}

-- a top-up by its columns: number, account, amount, moment
abbrev pub topup_in_columns : (ℕ → Value) → TopUpFacts
topup_in_columns at = record {
  voucher = bytes (at 0);
  account = bytes (at 1);
  sum = count_in (at 2);
  when = count_in (at 3);
}

abbrev pub count_by_mode : ℤ → Option Count
count_by_mode (pos zero) = Some Both
count_by_mode (pos (suc zero)) = Some Input
count_by_mode (pos (suc (suc zero))) = Some Output
count_by_mode (pos (suc (suc (suc n)))) = None
count_by_mode (negsuc n) = None

-- what a plan counts: 0 both directions, 1 the input, 2 the output, and nothing else says it
abbrev pub mode_in : Value → Option Count
mode_in Null = None
mode_in (Int n) = count_by_mode n
mode_in (Real x) = None
mode_in (Text t) = None
mode_in (Blob b) = None

-- a plan by its class, its row's columns (the class, then block and unit) and what it counts
abbrev pub plan_in_columns : List ℕ → (ℕ → Value) → Count → Plan
plan_in_columns class at count = record {
  class = class;
  block = count_in (at 1);
  unit = count_in (at 2);
  count = count;
}

-- the columns of a row, which follow its rowid
abbrev pub columns : Row → ℕ → Value
columns row at = column row (at + 1)

-- ---- the columns that are written

abbrev pub code_of : SessionState → ℕ
code_of Live = 0
code_of Closed = 1
code_of Stopped = 2

abbrev pub framed_octets : Option (List ℕ) → List ℕ
framed_octets None = []
framed_octets (Some octets) = octets

abbrev pub session_columns : RowFacts → Row
session_columns row =
    Text row.client ∷ Blob row.session ∷ Blob row.account ∷ Blob row.class ∷ Int (pos row.input) ∷
    Int (pos row.output) ∷ Int (pos row.seconds) ∷ Int (pos row.first) ∷ Int (pos row.last)
    ∷ Int (pos (code_of row.state)) ∷ Int (pos row.cause) ∷ Blob row.calling ∷ Blob
    (framed_octets row.framed) ∷ []

-- the columns of the table `session_plan`: client, id, plan_class
abbrev pub session_plan_columns : RowFacts → Row
session_plan_columns row = Text row.client ∷ Blob row.session ∷ Blob row.plan ∷ []

abbrev pub topup_columns : TopUpFacts → Row
topup_columns topup = Text topup.voucher ∷ Blob topup.account ∷ Int (pos topup.sum) ∷ Int
    (pos topup.when) ∷ []
