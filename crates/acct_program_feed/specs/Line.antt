-- The lines that `feed` reads.
use Rattle.std.specs.Prelude.{◌≡◌, ◌≢◌, ℕ, ◌-◌, ◌^◌, ◌<◌, ⊤, Some, None, List, [], ◌∷◌, codes}
use Rattle.std.specs.Net.Grammar.{IsDotted}
use Rattle.acct_model.specs.Vouchers.{TopUpFacts}
use Rattle.acct_model.specs.TopUpFaults.{topup_fault}
use Rattle.acct_book.specs.declared.key.Key.{Key}
use Rattle.acct_model.specs.Numbers.{number_of, number_up_to}
use Rattle.acct_program_feed.specs.Octets.{octets_in_hex, octets_shown}
use Rattle.acct_program_feed.specs.Words.{words}
use Rattle.acct_program_feed.specs.declared.line.Line.{Line}
use Rattle.acct_program_feed.specs.declared.line.Line.TheVariants as line

-- `signed MOMENT CLIENT IDENTIFIER OCTETS`
pub record AreSigned (all : List (List ℕ)) (moment : ℕ) (client : List ℕ) (identifier : ℕ)
    (octets : List ℕ) : Type 0 where
  pub moment_word : List ℕ
  pub identifier_word : List ℕ
  pub octets_word : List ℕ
  pub are : all ≡ codes "signed" ∷ moment_word ∷ client ∷ identifier_word ∷ octets_word ∷ []
  pub moment_is : number_up_to (2 ^ 53 - 1) moment_word ≡ Some moment
  pub identifier_is : number_up_to 255 identifier_word ≡ Some identifier
  pub octets_are : octets_in_hex octets_word ≡ Some octets

-- `packet MOMENT ADDRESS OCTETS`
pub record ArePacket (all : List (List ℕ)) (moment : ℕ) (source octets : List ℕ) : Type 0 where
  pub moment_word : List ℕ
  pub source_word : List ℕ
  pub octets_word : List ℕ
  pub are : all ≡ codes "packet" ∷ moment_word ∷ source_word ∷ octets_word ∷ []
  pub moment_is : number_up_to (2 ^ 53 - 1) moment_word ≡ Some moment
  pub source_is : IsDotted source_word source
  pub octets_are : octets_in_hex octets_word ≡ Some octets

-- `balance ACCOUNT`
pub record AreBalance (all : List (List ℕ)) (account : List ℕ) : Type 0 where
  pub account_word : List ℕ
  pub are : all ≡ codes "balance" ∷ account_word ∷ []
  pub account_is : octets_shown account_word ≡ Some account

-- `topup MOMENT VOUCHER ACCOUNT SUM`
pub record AreTopUp (all : List (List ℕ)) (topup : TopUpFacts) : Type 0 where
  pub moment_word : List ℕ
  pub account_word : List ℕ
  pub sum_word : List ℕ
  pub are : all ≡ codes "topup" ∷ moment_word ∷ topup.voucher ∷ account_word ∷ sum_word ∷ []
  pub moment_is : number_up_to (2 ^ 53 - 1) moment_word ≡ Some topup.when
  pub account_is : octets_shown account_word ≡ Some topup.account
  pub sum_is : number_of 20 sum_word ≡ Some topup.sum
  pub faultless : topup_fault topup.voucher topup.account topup.sum ≡ None

-- `session CLIENT SESSION`
pub record AreSession (all : List (List ℕ)) (key : Key) : Type 0 where
  pub session_word : List ℕ
  pub are : all ≡ codes "session" ∷ key.client ∷ session_word ∷ []
  pub session_is : octets_shown session_word ≡ Some key.session

-- the words of a line
abbrev pub AreWordsOf : List (List ℕ) → Line → Type 0
AreWordsOf all (line.Signed moment client identifier octets) =
    AreSigned all moment client identifier octets
AreWordsOf all (line.Packet moment source octets) = ArePacket all moment source octets
AreWordsOf all (line.Balance account) = AreBalance all account
AreWordsOf all (line.TopUp topup) = AreTopUp all topup
AreWordsOf all (line.Session key) = AreSession all key

-- the text of a line
abbrev pub SpellsLine : List ℕ → Line → Type 0
SpellsLine text line = AreWordsOf (words text) line

-- the text isn't empty, and no line has it
abbrev pub IsBad : List ℕ → Type 0
IsBad text = (text ≢ []) × ((line : Line) → SpellsLine text line → ⊥)

-- its moment, if it has one, is below 2^53
abbrev pub HasMoment : Line → Type 0
HasMoment (line.Signed moment client identifier octets) = moment < 2 ^ 53
HasMoment (line.Packet moment source octets) = moment < 2 ^ 53
HasMoment (line.Balance account) = ⊤
HasMoment (line.TopUp topup) = ⊤
HasMoment (line.Session key) = ⊤
