-- What the desk says at a login: how much the account may use, and what is going on under it.
use Rattle.std.specs.Prelude.{ℕ, ◌*◌, ◌/◌, ◌==◌, min, nat_lt, nat_le, ℤ, pos, negsuc, Bool, true}
use Rattle.std.specs.Prelude.{false, ◌&&◌, not, List, [], length, codes, bytes_eq, count_by, fold}
use Rattle.std.specs.Prelude.{Option, Some, None, if◌then◌else◌}
use Rattle.std.specs.BTreeSet.{insert_key}
use Rattle.serde_json.specs.Data.{Data, null, string, number, unsigned, object, member, no_members}
use Rattle.acct_model.specs.declared.plan.Plan.{Plan}
use Rattle.acct_model.specs.declared.plan.Count.{Count}
use Rattle.acct_model.specs.declared.plan.Count.TheVariants.{Both, Input, Output}
use Rattle.acct_book.specs.declared.row.SessionState.{SessionState}
use Rattle.acct_book.specs.declared.row.SessionState.TheVariants.{Live, Closed, Stopped}
use Rattle.acct_book.specs.Row.{RowFacts}
use Rattle.acct_book.specs.Maps.{octets_cmp}
use Rattle.acct_desk_pages.specs.declared.login.Heard.{Heard}

-- ---- what a balance pays

-- what a balance has above 0
abbrev pub credit_of : ℤ → ℕ
credit_of (pos n) = n
credit_of (negsuc n) = 0

-- the balance is below the price of a block
abbrev pub is_short : Plan → ℤ → Bool
is_short plan balance = nat_lt (credit_of balance) plan.unit

-- How many counted octets a balance pays: a block for each unit that it has. Of a plan without a
-- price none is said. No session reports more than 2^63 - 1 octets.
abbrev pub paid_octets : Plan → ℤ → Option ℕ
paid_octets plan balance =
    if plan.unit == 0 then None
    else Some (min (credit_of balance / plan.unit * plan.block) 9223372036854775807)

-- ---- what is going on

-- a session goes on
abbrev pub is_live : SessionState → Bool
is_live Live = true
is_live Closed = false
is_live Stopped = false

abbrev pub is_open : RowFacts → Bool
is_open row = is_live row.state

-- the row is of a session that goes on, of a station other than this one, and was heard since then
abbrev pub is_other : Heard → RowFacts → Bool
is_other heard row =
    is_live row.state && nat_le heard.since row.last && nat_le 1 (length row.calling)
    && not (bytes_eq heard.station row.calling)

-- the stations, each once, with that of a row if it counts
abbrev pub with_station : Heard → List (List ℕ) → RowFacts → List (List ℕ)
with_station heard stations row =
    if is_other heard row then insert_key octets_cmp stations row.calling else stations

-- the other stations that were heard, each once
abbrev pub other_stations : Heard → List RowFacts → List (List ℕ)
other_stations heard rows = fold (with_station heard) [] rows

-- ---- the body

-- the word for what a plan counts
abbrev pub counted_word : Count → List ℕ
counted_word Both = codes "total"
counted_word Input = codes "in"
counted_word Output = codes "out"

-- a number, or null
abbrev pub number_or_null : Option ℕ → Data
number_or_null None = null
number_or_null (Some n) = number (unsigned n)

-- how many other stations were heard, if a station was named
abbrev pub stations_heard : Option Heard → List RowFacts → Option ℕ
stations_heard None rows = None
stations_heard (Some heard) rows = Some (length (other_stations heard rows))

-- The body of a login that has this stamp, by the plan, the balance and the rows of its account.
unfoldable pub login_body : Plan → List ℕ → Option Heard → ℤ → List RowFacts → Data
login_body plan stamp heard balance rows =
    object (member (codes "counted") (string (counted_word plan.count))
    (member (codes "octets") (number_or_null (paid_octets plan balance))
    (member (codes "open") (number (unsigned (count_by is_open rows)))
    (member (codes "stamp") (string stamp)
    (member (codes "stations") (number_or_null (stations_heard heard rows)) no_members)))))
