-- The answers to lines, and the text of each answer.
use Rattle.std.specs.Prelude.{◌≤◌, ℕ, ℤ, List, [], ◌++◌, ◌-◌, Option, Some, None, Result, Ok}
use Rattle.std.specs.Prelude.{Err, codes, take, drop, length, ◌==◌, decimal, if◌then◌else◌}
use Rattle.std.specs.Fmt.{signed_decimal}
use Rattle.hex.specs.Hex.{encode_lower}
use Rattle.acct_model.specs.declared.plan.Plan.{Plan}
use Rattle.acct_book.specs.Charge.{charge_of_row}
use Rattle.acct_book.specs.Row.{RowFacts, state_text}
use Rattle.acct_book.specs.declared.book.Unavailable.{Unavailable as Refusal}
use Rattle.acct_book.specs.declared.recording.Recorded.{Recorded}
use Rattle.acct_book.specs.declared.recording.Recorded.TheVariants as recorded
use Rattle.acct_book.specs.declared.recording.RecordError.{RecordError}
use Rattle.acct_book.specs.declared.recording.RecordError.TheVariants as error
use Rattle.acct_wire.specs.declared.answering.Outcome.{Outcome}
use Rattle.acct_wire.specs.declared.answering.Outcome.TheVariants as outcome
use Rattle.acct_wire.specs.Reasons.{reason_number}
use Rattle.acct_program_feed.specs.Octets.{shown_word}
use Rattle.acct_program_feed.specs.declared.answer.Answer.{Answer}
use Rattle.acct_program_feed.specs.declared.answer.Answer.TheVariants as answer
use Rattle.acct_program_feed.specs.declared.answer.Credit.{Credit}
use Rattle.acct_program_feed.specs.declared.answer.Credit.TheVariants as credit
use Rattle.acct_program_feed.specs.declared.shown_row.ShownRow.{ShownRow}

-- the word for what became of a voucher
abbrev pub credit_text : Credit → List ℕ
credit_text credit.New = codes "new"
credit_text credit.Repeat = codes "repeat"
credit_text credit.Differs = codes "differs"
credit_text credit.Limit = codes "limit"
credit_text credit.Unavailable = codes "unavailable"

-- `session CLIENT SESSION ACCOUNT CLASS `
abbrev pub names_text : ShownRow → List ℕ
names_text row =
    codes "session " ++ row.client ++ codes " " ++ row.session ++ codes " " ++ row.account
    ++ codes " "
    ++ row.class ++ codes " "

-- `INPUT OUTPUT CHARGED `
abbrev pub octets_text : ShownRow → List ℕ
octets_text row =
    decimal row.input ++ codes " " ++ decimal row.output ++ codes " " ++ decimal row.charged
    ++ codes " "

-- `STATE CAUSE`
abbrev pub end_text : ShownRow → List ℕ
end_text row = state_text row.state ++ codes " " ++ decimal row.cause

-- `session CLIENT SESSION ACCOUNT CLASS INPUT OUTPUT CHARGED STATE CAUSE`
abbrev pub row_text : ShownRow → List ℕ
row_text row = names_text row ++ octets_text row ++ end_text row

-- a word after a space, or nothing if it has no octets
abbrev pub after_space : List ℕ → List ℕ
after_space word = if length word == 0 then [] else codes " " ++ word

-- the text of an answer
abbrev pub answer_text : Answer → List ℕ
answer_text (answer.Parted front attributes) = codes "reply " ++ front ++ after_space attributes
answer_text (answer.Reply octets) = codes "reply " ++ octets
answer_text (answer.Dropped reason) = codes "drop " ++ decimal (reason_number reason)
answer_text (answer.Balance account balance) =
    codes "balance " ++ account ++ codes " " ++ signed_decimal balance
answer_text (answer.Voucher became) = credit_text became
answer_text (answer.Session row) = row_text row
answer_text answer.NoSession = codes "no session"
answer_text answer.Unavailable = codes "unavailable"
answer_text answer.BadLine = codes "bad line"

-- a reply has 20 to 4,096 octets (RFC 2866, section 3)
abbrev pub ReplyFits : Outcome → Type 0
ReplyFits (outcome.Reply size) = (20 ≤ size) × (size ≤ 4096)
ReplyFits (outcome.Drop why) = Unit {0}

-- The answer to a datagram has the octets of its reply, which are at the front of the array.
abbrev pub packet_answer : List ℕ → Outcome → Answer
packet_answer out (outcome.Reply size) = answer.Reply (encode_lower (take size out))
packet_answer out (outcome.Drop why) = answer.Dropped why

-- The answer to a signed request has the first four octets of its reply, and its attributes.
abbrev pub signed_answer : List ℕ → Outcome → Answer
signed_answer out (outcome.Reply size) =
    answer.Parted (encode_lower (take 4 out)) (encode_lower (take (size - 20) (drop 20 out)))
signed_answer out (outcome.Drop why) = answer.Dropped why

-- the answer for an account's balance
abbrev pub balance_answer : List ℕ → Result ℤ Refusal → Answer
balance_answer account (Ok balance) = answer.Balance (shown_word account) balance
balance_answer account (Err refusal) = answer.Unavailable

-- what became of a voucher
abbrev pub credit_of : Result Recorded RecordError → Credit
credit_of (Ok recorded.New) = credit.New
credit_of (Ok recorded.Repeat) = credit.Repeat
credit_of (Err (error.VoucherDiffers kept)) = credit.Differs
credit_of (Err (error.BalanceLimit balance)) = credit.Limit
credit_of (Err error.Unavailable) = credit.Unavailable

-- a session's row as it is shown, with its price under these plans
abbrev pub shown_row : List Plan → RowFacts → ShownRow
shown_row plans row = record {
  client = row.client;
  session = shown_word row.session;
  account = shown_word row.account;
  class = shown_word row.class;
  input = row.input;
  output = row.output;
  charged = charge_of_row plans row;
  state = row.state;
  cause = row.cause;
}

-- the answer for a session
abbrev pub session_answer : List Plan → Result (Option RowFacts) Refusal → Answer
session_answer plans (Ok (Some row)) = answer.Session (shown_row plans row)
session_answer plans (Ok None) = answer.NoSession
session_answer plans (Err refusal) = answer.Unavailable
