-- The numbers and the names of the reasons for a drop, and how many drops are counted for each.
use Rattle.std.specs.Prelude.{ℕ, ◌-◌, List, [], ◌∷◌, codes, slice_index}
use Rattle.acct_wire.specs.declared.reason.Reason.{Reason}
use Rattle.acct_wire.specs.declared.reason.Reason.TheVariants as reason

-- the number of a reason, which operators see
abbrev pub reason_number : Reason → ℕ
reason_number reason.UnknownClient = 1
reason_number reason.TooShort = 2
reason_number reason.BadLength = 3
reason_number reason.WrongCode = 4
reason_number reason.BadAuthenticator = 5
reason_number reason.BadAttribute = 6
reason_number reason.NoStatus = 7
reason_number reason.UnknownStatus = 8
reason_number reason.NoSessionId = 9
reason_number reason.BadField = 10
reason_number reason.TotalTooLarge = 11
reason_number reason.BalanceLimit = 12
reason_number reason.Unavailable = 13
reason_number reason.TooOld = 14

-- its name, which operators see next to the number
abbrev pub reason_name : Reason → List ℕ
reason_name reason.UnknownClient = codes "UnknownClient"
reason_name reason.TooShort = codes "TooShort"
reason_name reason.BadLength = codes "BadLength"
reason_name reason.WrongCode = codes "WrongCode"
reason_name reason.BadAuthenticator = codes "BadAuthenticator"
reason_name reason.BadAttribute = codes "BadAttribute"
reason_name reason.NoStatus = codes "NoStatus"
reason_name reason.UnknownStatus = codes "UnknownStatus"
reason_name reason.NoSessionId = codes "NoSessionId"
reason_name reason.BadField = codes "BadField"
reason_name reason.TotalTooLarge = codes "TotalTooLarge"
reason_name reason.BalanceLimit = codes "BalanceLimit"
reason_name reason.Unavailable = codes "Unavailable"
reason_name reason.TooOld = codes "TooOld"

-- the reasons in the order of their numbers
unfoldable pub all_reasons : List Reason
all_reasons =
    reason.UnknownClient ∷ reason.TooShort ∷ reason.BadLength ∷ reason.WrongCode
    ∷ reason.BadAuthenticator ∷ reason.BadAttribute ∷ reason.NoStatus ∷ reason.UnknownStatus
    ∷ reason.NoSessionId ∷ reason.BadField ∷ reason.TotalTooLarge ∷ reason.BalanceLimit
    ∷ reason.Unavailable ∷ reason.TooOld ∷ []

-- The place of its count in a list of counts: there is one for each reason in the order of the
-- numbers, which begin at 1.
abbrev pub reason_place : Reason → ℕ
reason_place why = reason_number why - 1

-- how many drops are counted for a reason in such a list
abbrev pub count_for : List ℕ → Reason → ℕ
count_for counts why = slice_index counts (reason_place why)
