-- The words of a text.
use Rattle.std.specs.Prelude.{ℕ, ◌==◌, List, [], ◌∷◌, ◌++◌, if◌then◌else◌}

-- the words of a text whose first word begins with these octets, which were read before it
abbrev pub words_after : List ℕ → List ℕ → List (List ℕ)
words_after word [] = word ∷ []
words_after word (octet ∷ text) =
    if octet == 32 then word ∷ words_after [] text else words_after (word ++ octet ∷ []) text

-- The words of a text, which one space each separates. A word may have no octets.
abbrev pub words : List ℕ → List (List ℕ)
words text = words_after [] text
