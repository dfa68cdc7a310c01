-- What the desk returns about accounts, as JSON.
use Rattle.std.specs.Prelude.{ℕ, ◌+◌, nat_lt, List, map, codes, decimal, ℤ}
use Rattle.std.specs.Prelude.{Option, Some, None, if◌then◌else◌}
use Rattle.std.specs.List.{filter_map}
use Rattle.serde_json.specs.Data.{Data, string, number, unsigned, array, object, member, no_members}
use Rattle.serde_json.specs.View.{items_of}
use Rattle.serde_json.specs.Find.{of_integer}
use Rattle.acct_model.specs.declared.plan.Plan.{Plan}
use Rattle.acct_model.specs.Shown.{shown, shown_address}
use Rattle.acct_model.specs.Vouchers.{TopUpFacts}
use Rattle.acct_book.specs.Row.{RowFacts, state_text}
use Rattle.acct_book.specs.Charge.{charge_of_row}
use Rattle.acct_book.specs.Balance.{overrun_of}

-- an account's balance
abbrev pub balance_body : List ℕ → ℤ → Data
balance_body account balance =
    object (member (codes "account") (string (shown account))
    (member (codes "balance") (number (of_integer balance))
    (member (codes "overrun") (number (unsigned (overrun_of balance))) no_members)))

-- one session
unfoldable pub session_item : List Plan → RowFacts → Data
session_item plans row =
    object (member (codes "calling") (string (shown row.calling))
    (member (codes "cause") (number (unsigned row.cause))
    (member (codes "charged") (string (decimal (charge_of_row plans row)))
    (member (codes "class") (string (shown row.class))
    (member (codes "client") (string row.client)
    (member (codes "first") (number (unsigned row.first))
    (member (codes "framed") (string (shown_address row.framed))
    (member (codes "input") (number (unsigned row.input))
    (member (codes "last") (number (unsigned row.last))
    (member (codes "output") (number (unsigned row.output))
    (member (codes "seconds") (number (unsigned row.seconds))
    (member (codes "session") (string (shown row.session))
    (member (codes "state") (string (state_text row.state))
    (member (codes "total") (number (unsigned (row.input + row.output))) no_members))))))))))))))

-- the sessions that an account owns
abbrev pub sessions_body : List Plan → List ℕ → List RowFacts → Data
sessions_body plans account rows =
    object (member (codes "account") (string (shown account))
    (member (codes "sessions") (array (items_of (map (session_item plans) rows))) no_members))

-- one top-up
unfoldable pub topup_item : TopUpFacts → Data
topup_item topup =
    object (member (codes "sum") (number (unsigned topup.sum))
    (member (codes "voucher") (string topup.voucher)
    (member (codes "when") (number (unsigned topup.when)) no_members)))

-- the top-ups of an account
abbrev pub topups_body : List ℕ → List TopUpFacts → Data
topups_body account topups =
    object (member (codes "account") (string (shown account))
    (member (codes "topups") (array (items_of (map topup_item topups))) no_members))

-- one overdrawn account
unfoldable pub overrun_item : List ℕ → ℕ → Data
overrun_item account overrun =
    object (member (codes "account") (string (shown account))
    (member (codes "overrun") (number (unsigned overrun)) no_members))

-- an account with its balance, if that is below 0
abbrev pub overrun_in : List ℕ × ℤ → Option Data
overrun_in entry = if nat_lt 0 (overrun_of entry.1) then Some
    (overrun_item entry.0 (overrun_of entry.1)) else None

-- the overdrawn accounts, of accounts with their balances
abbrev pub overruns_body : List (List ℕ × ℤ) → Data
overruns_body accounts = object
    (member (codes "overruns") (array (items_of (filter_map overrun_in accounts))) no_members)
