-- What the exports write.
use Rattle.std.specs.Prelude.{◌≡◌, ℕ, ℤ, ◌+◌, ◌==◌, if◌then◌else◌}
use Rattle.std.specs.Prelude.{List, [], ◌∷◌, ◌++◌, codes, decimal, flat_map, false}
use Rattle.std.specs.Fmt.{signed_decimal}
use Rattle.csv.specs.Writing.{default_writer, row_text, writer_setup, fields_written, has_written}
use Rattle.csv.specs.declared.writer.Writer.{Writer}
use Rattle.acct_model.specs.declared.plan.Plan.{Plan}
use Rattle.acct_model.specs.declared.plan.Count.{Count}
use Rattle.acct_model.specs.declared.plan.Count.TheVariants.{Both, Input, Output}
use Rattle.acct_model.specs.Shown.{shown, shown_address}
use Rattle.acct_model.specs.Vouchers.{TopUpFacts}
use Rattle.acct_book.specs.Row.{RowFacts, state_text}
use Rattle.acct_book.specs.Charge.{charge_of_row}
use Rattle.acct_book.specs.Balance.{overrun_of}
use Rattle.acct_files.specs.declared.account_lines.AccountExport.{AccountExport}
use Rattle.acct_files.specs.declared.account_lines.AccountExport.TheVariants.{Balances, Overruns}
use Rattle.acct_files.specs.Vouchers.{Fields}

-- a line of fields, separated by commas and in quotes if a field needs them
abbrev pub line : Fields → List ℕ
line fields = row_text default_writer fields

-- ---- sessions

abbrev pub session_header : Fields
session_header =
    codes "client" ∷ codes "session" ∷ codes "account" ∷ codes "class" ∷ codes "input" ∷ codes
    "output" ∷ codes "total" ∷ codes "charged"
    ∷ codes "seconds" ∷ codes "first" ∷ codes "last" ∷ codes "state" ∷ codes "cause" ∷ codes
    "calling" ∷ codes "framed" ∷ []

-- client, session, account and class
abbrev pub session_name : RowFacts → Fields
session_name row = row.client ∷ shown row.session ∷ shown row.account ∷ shown row.class ∷ []

-- octets, what they cost, seconds and moments
abbrev pub session_counts : List Plan → RowFacts → Fields
session_counts plans row =
    decimal row.input ∷ decimal row.output ∷ decimal (row.input + row.output)
    ∷ decimal (charge_of_row plans row) ∷ decimal row.seconds ∷ decimal row.first
    ∷ decimal row.last ∷ []

-- state, cause, calling station and address
abbrev pub session_end : RowFacts → Fields
session_end row =
    state_text row.state ∷ decimal row.cause ∷ shown row.calling ∷ shown_address row.framed ∷ []

abbrev pub session_fields : List Plan → RowFacts → Fields
session_fields plans row = session_name row ++ session_counts plans row ++ session_end row

-- ---- top-ups

abbrev pub topup_header : Fields
topup_header = codes "voucher" ∷ codes "account" ∷ codes "sum" ∷ codes "when" ∷ []

abbrev pub topup_fields : TopUpFacts → Fields
topup_fields topup = topup.voucher ∷ shown topup.account ∷ decimal topup.sum ∷ decimal topup.when ∷
    []

-- ---- accounts

abbrev pub account_header : AccountExport → Fields
account_header Balances = codes "account" ∷ codes "balance" ∷ codes "overrun" ∷ []
account_header Overruns = codes "account" ∷ codes "overrun" ∷ []

-- the line of an account; of overruns, only an account whose overrun is above 0 has one
abbrev pub account_line : AccountExport → List ℕ → ℤ → List ℕ
account_line Balances account balance =
    line (shown account ∷ signed_decimal balance ∷ decimal (overrun_of balance) ∷ [])
account_line Overruns account balance =
    if overrun_of balance == 0 then [] else line (shown account ∷ decimal (overrun_of balance) ∷ [])

-- ---- plans

abbrev pub plan_header : Fields
plan_header = codes "class" ∷ codes "block" ∷ codes "unit" ∷ codes "count" ∷ []

-- what a plan counts, as a configuration names it
abbrev pub count_text : Count → List ℕ
count_text Both = codes "both"
count_text Input = codes "in"
count_text Output = codes "out"

abbrev pub plan_fields : Plan → Fields
plan_fields plan = shown plan.class ∷ decimal plan.block ∷ decimal plan.unit
    ∷ count_text plan.count ∷ []

-- ---- a whole export

-- the header and then a line for each entry, in the order of the entries
abbrev pub export_text : {E : Type 0} → Fields → (E → List ℕ) → List E → List ℕ
export_text header text entries = line header ++ flat_map text entries

-- the writer is between two lines
module _ {W : Type 0} where
  pub record IsBetweenLines (w : Writer W) : Type 0 where
    pub setup : writer_setup w ≡ default_writer
    pub fields : fields_written w ≡ 0
    pub wrote : has_written w ≡ false
