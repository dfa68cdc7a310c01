-- The desk's responses to requests refused without the book, and to top-ups, octet for octet.
use Rattle.std.specs.Prelude.{ℕ, List, [], ◌++◌, codes, Result, Ok, Err}
use Rattle.acct_book.specs.declared.recording.Recorded.{Recorded}
use Rattle.acct_book.specs.declared.recording.Recorded.TheVariants.{New, Repeat}
use Rattle.acct_book.specs.declared.recording.RecordError.{RecordError}
use Rattle.acct_book.specs.declared.recording.RecordError.TheVariants.{VoucherDiffers, BalanceLimit}
use Rattle.acct_book.specs.declared.recording.RecordError.TheVariants.{Unavailable}
use Rattle.acct_desk.specs.declared.routes.Endpoint.{Endpoint}
use Rattle.acct_desk.specs.declared.asking.Refusal.{Refusal}
use Rattle.acct_desk.specs.declared.asking.Refusal.TheVariants.{BadRequest, TooLarge, NoPath}
use Rattle.acct_desk.specs.declared.asking.Refusal.TheVariants.{WrongMethod, NoKey, NotAllowed}
use Rattle.acct_desk.specs.declared.asking.Refusal.TheVariants.{BadTopUp, BadLogin}
use Rattle.acct_desk.specs.Routes.{method_of}
use Rattle.acct_desk_pages.specs.Responses.{error_response, result_response, unavailable_response}

-- the line that names an endpoint's method (RFC 9110, section 10.2.1)
abbrev pub allow_line : Endpoint → List ℕ
allow_line endpoint = codes "Allow: " ++ method_of endpoint ++ codes "\r\n"

-- the line that names what a caller lacks (RFC 9110, section 11.6.1)
abbrev pub challenge_line : List ℕ
challenge_line = codes "WWW-Authenticate: Desk-Key\r\n"

-- the response to a request that is refused without the book
abbrev pub refusal_response : Refusal → List ℕ
refusal_response BadRequest = error_response 400 [] (codes "bad request")
refusal_response TooLarge = error_response 413 [] (codes "too large")
refusal_response NoPath = error_response 404 [] (codes "no such path")
refusal_response (WrongMethod endpoint) =
    error_response 405 (allow_line endpoint) (codes "wrong method")
refusal_response NoKey = error_response 401 challenge_line (codes "no key")
refusal_response NotAllowed = error_response 403 [] (codes "not allowed")
refusal_response BadTopUp = error_response 422 [] (codes "bad topup")
refusal_response BadLogin = error_response 422 [] (codes "bad login")

-- the response to a top-up that was added
unfoldable pub added_response : List ℕ
added_response = result_response 201 (codes "new")

-- the response to a top-up, by the result of recording it
abbrev pub recorded_response : Result Recorded RecordError → List ℕ
recorded_response (Ok New) = added_response
recorded_response (Ok Repeat) = result_response 200 (codes "repeat")
recorded_response (Err (VoucherDiffers kept)) = error_response 409 [] (codes "voucher differs")
recorded_response (Err (BalanceLimit balance)) = error_response 422 [] (codes "balance limit")
recorded_response (Err Unavailable) = unavailable_response
