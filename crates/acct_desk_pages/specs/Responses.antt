-- Whole responses with a JSON body, octet for octet.
use Rattle.std.specs.Prelude.{ℕ, List, [], ◌∷◌, length, codes, decimal, flat_map}
use Rattle.http.specs.StatusCode.{status_text}
use Rattle.serde_json.specs.Data.{Data, string, object, member, no_members}
use Rattle.serde_json.specs.Written.{compact_text}

-- the pieces of a response with this body; each further head line has its line end
abbrev pub response_pieces : ℕ → List ℕ → List ℕ → List (List ℕ)
response_pieces status further body =
    codes "HTTP/1.1 " ∷ status_text status
    ∷ codes "\r\nContent-Type: application/json\r\nContent-Length: " ∷ decimal (length body)
    ∷ codes "\r\nConnection: close\r\n" ∷ further ∷ codes "\r\n" ∷ body ∷ []

abbrev pub response_text : ℕ → List ℕ → List ℕ → List ℕ
response_text status further body = flat_map (λ piece. piece) (response_pieces status further body)

-- a response whose body is JSON, without spaces
abbrev pub response_of : ℕ → List ℕ → Data → List ℕ
response_of status further body = response_text status further (compact_text body)

-- a response that names an error
abbrev pub error_body : List ℕ → Data
error_body words = object (member (codes "error") (string words) no_members)

abbrev pub error_response : ℕ → List ℕ → List ℕ → List ℕ
error_response status further words = response_of status further (error_body words)

-- a response that names a result
abbrev pub result_body : List ℕ → Data
result_body words = object (member (codes "result") (string words) no_members)

abbrev pub result_response : ℕ → List ℕ → List ℕ
result_response status words = response_of status [] (result_body words)

-- the response if the book is unavailable
unfoldable pub unavailable_response : List ℕ
unavailable_response = error_response 503 [] (codes "unavailable")
