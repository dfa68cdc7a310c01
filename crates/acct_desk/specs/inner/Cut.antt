-- Octets cut at their first slash.
use Rattle.std.specs.Prelude.{ℕ, ◌==◌, List, [], ◌∷◌, if◌then◌else◌, Option, None, Some, option_map}

-- the octets before the first slash, and those behind it
abbrev pub cut : List ℕ → Option (List ℕ × List ℕ)
cut [] = None
cut (octet ∷ rest) =
    if octet == 47 then Some ([], rest)
    else option_map (λ parts. (octet ∷ parts.0, parts.1)) (cut rest)
