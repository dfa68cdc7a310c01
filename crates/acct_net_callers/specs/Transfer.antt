-- What is read of a request and written of a response.
use Rattle.std.specs.Prelude.{◌≡◌, ◌⊎◌, ◌<◌, ℕ, Bool, true, List, [], ◌++◌, Option, length}
use Rattle.std.specs.Io.KnownBytes.{Consumes, Appends, IsAtEnd}
use Rattle.acct_desk.specs.Reading.{IsSettled}
use Rattle.acct_net_callers.specs.declared.request_buffer.RequestBuffer.{RequestBuffer}

-- what is read of a request grew at its end by the octets that a reader lost at its front
abbrev pub Receives : Option (List ℕ) → Option (List ℕ) → List ℕ → List ℕ → Type 0
Receives old_left new_left old new =
    (octets : List ℕ) × Consumes old_left new_left octets × (new ≡ old ++ octets)

-- that a caller sends no more was known before, or a reader has shown that it has no more
abbrev pub Ends : Option (List ℕ) → Bool → Bool → Type 0
Ends left old new = new ≡ true → (old ≡ true) ⊎ IsAtEnd left

-- more of a request was read, or its end
abbrev pub HasGrown : RequestBuffer → RequestBuffer → Type 0
HasGrown old new =
    (length old.octets.items < length new.octets.items) ⊎ (new.has_ended ≡ true)

-- what is left of a response lost at its front the octets by which a writer grew at its end
abbrev pub Sends : Option (List ℕ) → Option (List ℕ) → List ℕ → List ℕ → Type 0
Sends old_held new_held old new =
    (octets : List ℕ) × Appends old_held new_held octets × (old ≡ octets ++ new)

-- The request in what was received: the first octets, and no fewer than are needed to know it,
-- unless they are as many as are taken of any, or the caller sent no more.
pub record IsRequestOf (received : List ℕ) (has_ended : Bool) (request : List ℕ) : Type 0 where
  pub rest : List ℕ
  pub first : received ≡ request ++ rest
  pub ends : IsSettled request ⊎ (length request ≡ 12288)
      ⊎ ((rest ≡ []) × (has_ended ≡ true))
