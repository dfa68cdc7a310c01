-- What the desk reads of a book for a page.
use Rattle.std.specs.Prelude.{◌≡◌, false, ℕ, List, [], Result, Ok, Err, IfOk, OnOk}
use Rattle.serde_json.specs.View.{view}
use Rattle.serde_json.specs.Data.{Data}
use Rattle.serde_json.specs.Written.{has_float}
use Rattle.serde_json.specs.declared.value.Value.{Value}
use Rattle.acct_model.specs.declared.plan.Plan.{Plan}
use Rattle.acct_model.specs.History.{History}
use Rattle.acct_book.specs.declared.book.Book.{Ghosts}
use Rattle.acct_book.specs.Stands.{Stands}
use Rattle.acct_book.specs.Step.{OnlyLooks}
use Rattle.acct_desk_pages.specs.declared.bodies.PageError.{PageError}
use Rattle.acct_desk_pages.specs.declared.bodies.PageError.TheVariants.{Unavailable, Memory}
use Rattle.acct_desk.specs.declared.pages.Told.{Told}
use Rattle.acct_desk.specs.Asks.{Ask}
use Rattle.acct_desk.specs.Handling.{IsTold}
use Rattle.acct_desk_pages.specs.Responses.{response_of, unavailable_response}

-- the status and the body of a page, and of what else was told
abbrev pub page_of : Value → ℕ × Data
page_of body = (200, view body)

abbrev pub told_of : Told → ℕ × Data
told_of told = (told.status, view told.body)

-- What was read of the book. The book is only read. If something is told, the book is open. It is
-- what the history gives.
pub record ShowsBy {B T : Type 0} (of : T → ℕ × Data) (plans : List Plan) (ask : Ask) (b : Ghosts B)
    (old new : B) (result : Result T PageError) : Type 0 where
  pub reads : OnlyLooks b old new
  pub answers : b.is_sound new → OnOk result (b.is_open new)
  pub plain : IfOk result (λ t. has_float (of t).1 ≡ false)
  pub told : b.is_open new → (history : History) → Stands plans (b.content old) history
      → IfOk result (λ t. IsTold plans history ask (of t))

-- a page that was read
abbrev pub Shows : {B : Type 0} → List Plan → Ask → Ghosts B → B → B → Result Value PageError
    → Type 0
Shows plans ask b old new result = ShowsBy page_of plans ask b old new result

-- the response with what was read
abbrev pub IsResponseBy : {T : Type 0} → (T → ℕ × Data) → Result T PageError → List ℕ → Type 0
IsResponseBy of (Ok t) octets = octets ≡ response_of (of t).0 [] (of t).1
IsResponseBy of (Err Unavailable) octets = octets ≡ unavailable_response
IsResponseBy of (Err Memory) octets = ⊥

-- the response with a page
abbrev pub IsPageResponse : Result Value PageError → List ℕ → Type 0
IsPageResponse result octets = IsResponseBy page_of result octets
