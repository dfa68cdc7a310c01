-- The name of the log of a book.
use Rattle.std.specs.Prelude.{◌≡◌, ℕ, List, ◌++◌, Option, codes}
use Rattle.std.specs.Prelude.{unwrap_or}

-- The log is beside the file to which the book's name leads. If that is not known, it is beside the
-- name.
abbrev pub IsLogOf : (List ℕ → Option (List ℕ) → Type 0) → List ℕ → List ℕ → Type 0
IsLogOf leads_to book log = (path : Option (List ℕ)) × leads_to book path
    × (log ≡ unwrap_or path book ++ codes "-wal")
