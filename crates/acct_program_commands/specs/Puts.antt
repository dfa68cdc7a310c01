-- What the files of the system were seen to have. No contract of std says it: so each of these is
-- given by one function, which is read by eye, and only its proof unfolds it.
use Rattle.std.specs.Prelude.{⊤, ℕ, List, Option, None, Some}
use Rattle.acct_program_commands.specs.Sights.{Reading, Sight}

-- A file with this text was put at this name, by `put_in_place`.
unfoldable pub WasPut : List ℕ → List ℕ → Type 0
WasPut name text = ⊤

-- All octets of the file of this name were read, or this is why they were not, by `read_file`.
unfoldable pub WasRead : List ℕ → Reading → Type 0
WasRead name reading = ⊤

-- What a poll of the file of this name returned was read under that name. Of a text that is no file
-- nothing is said.
abbrev pub WasSeen : Option (List ℕ) → Sight → Type 0
WasSeen None sight = ⊤
WasSeen (Some name) None = ⊤
WasSeen (Some name) (Some reading) = WasRead name reading
