-- How a caller proceeds: its request is read, and then its response is written.
use Rattle.std.specs.Prelude.{◌≡◌, ⊤, ℕ, false, List, [], Option}
use Rattle.acct_net_callers.specs.declared.caller.Stage.{Stage}
use Rattle.acct_net_callers.specs.declared.caller.Stage.TheVariants as stage
use Rattle.acct_net_callers.specs.declared.caller.Step.{Step}
use Rattle.acct_net_callers.specs.declared.caller.Step.TheVariants as step
use Rattle.acct_net_callers.specs.declared.request_buffer.RequestBuffer.{RequestBuffer}
use Rattle.acct_net_callers.specs.Transfer.{Receives, Ends, Sends, IsRequestOf}

-- what is left to write of a response that was handed over
abbrev pub IsLeft : Stage → List ℕ → Type 0
IsLeft (stage.Writing left) octets = left ≡ octets
IsLeft stage.Closing octets = [] ≡ octets
IsLeft (stage.Waiting asked) octets = ⊥
IsLeft (stage.Reading request) octets = ⊥

-- a caller of whom nothing is read yet
abbrev pub IsFresh : Stage → Type 0
IsFresh (stage.Reading request) = (request.octets.items ≡ []) × (request.has_ended ≡ false)
IsFresh (stage.Writing left) = ⊥
IsFresh (stage.Waiting asked) = ⊥
IsFresh stage.Closing = ⊥

-- a step that hands out no request
abbrev pub HasNoRequest : Step → Type 0
HasNoRequest step.Pending = ⊤
HasNoRequest step.Closed = ⊤
HasNoRequest (step.Received request) = ⊥

-- what is read of a request has its end, and is handed out and kept, or more of it has to be read
abbrev pub FollowsRead : RequestBuffer → Stage → Step → Type 0
FollowsRead buffer new (step.Received request) =
    (new ≡ stage.Waiting request) × IsRequestOf buffer.octets.items buffer.has_ended request
FollowsRead buffer new step.Pending = new ≡ stage.Reading buffer
FollowsRead buffer new step.Closed = ⊥

-- what follows for a caller from what was just read or written
abbrev pub Advances : Stage → Stage → Step → Type 0
Advances (stage.Reading buffer) new step = FollowsRead buffer new step
Advances (stage.Writing left) new step = IsLeft new left × HasNoRequest step
Advances (stage.Waiting asked) new step = (new ≡ stage.Waiting asked) × HasNoRequest step
Advances stage.Closing new step = (new ≡ stage.Closing) × HasNoRequest step

-- a read added to what is read of a request, and what follows from it
pub record Reads (old_left new_left : Option (List ℕ)) (old : RequestBuffer) (new : Stage)
    (step : Step) : Type 0 where
  pub buffer : RequestBuffer
  pub receives : Receives old_left new_left old.octets.items buffer.octets.items
  pub ends : Ends new_left old.has_ended buffer.has_ended
  pub follows : FollowsRead buffer new step

-- more of a response was written: the next octets of what was left of it
abbrev pub Writes : Option (List ℕ) → Option (List ℕ) → List ℕ → Stage → Type 0
Writes old_held new_held left new =
    (rest : List ℕ) × IsLeft new rest × Sends old_held new_held left rest

-- What a caller's step did, by its stage, and by what its connection had left to read and held
-- written before and after: one request is handed out, and then one response is written.
abbrev pub Proceeds : Option (List ℕ) → Option (List ℕ) → Option (List ℕ) → Option (List ℕ)
    → Stage → Stage → Step → Type 0
Proceeds old_left new_left old_held new_held (stage.Reading request) new step =
    Reads old_left new_left request new step
Proceeds old_left new_left old_held new_held (stage.Writing left) new step =
    Writes old_held new_held left new × HasNoRequest step
Proceeds old_left new_left old_held new_held (stage.Waiting asked) new step =
    (new ≡ stage.Waiting asked) × HasNoRequest step
Proceeds old_left new_left old_held new_held stage.Closing new step =
    (new ≡ stage.Closing) × HasNoRequest step
