-- What the files of the system were seen to be. No contract of std says it: so each of these is
-- given by the calls of `ReadsFiles` on the system, which are read by eye, and only their proofs
-- unfold it.
use Rattle.std.specs.Prelude.{⊤, ℕ, List, Option}
use Rattle.std.specs.declared.fs.attrs.Metadata.{Metadata}

-- This name led to this path from the root, without symbolic links, or it could not be told to
-- which.
unfoldable pub LeadsTo : List ℕ → Option (List ℕ) → Type 0
LeadsTo name path = ⊤

-- The file of this name was opened as this one, or there was none.
unfoldable pub WasOpened : {F : Type 0} → List ℕ → Option F → Type 0
WasOpened name file = ⊤

-- The system said this of the file of this name, or nothing.
unfoldable pub WasAsked : List ℕ → Option Metadata → Type 0
WasAsked name found = ⊤
