-- Octets spelled so that none of them is `;`, `/` or a space: how a stamp names an account.
use Rattle.std.specs.Prelude.{ℕ, ◌/◌, ◌%◌, ◌==◌, nat_le, Bool, true, ◌&&◌, ◌||◌, List, [], ◌∷◌}
use Rattle.std.specs.Prelude.{if◌then◌else◌}
use Rattle.std.specs.List.{flat_map}
use Rattle.std.specs.Fmt.{digit_glyph}

-- a letter or digit of ASCII, `.`, `_` or `-`
abbrev pub is_plain : ℕ → Bool
is_plain octet =
    (nat_le 48 octet && nat_le octet 57) || (nat_le 65 octet && nat_le octet 90) ||
    (nat_le 97 octet && nat_le octet 122) || octet == 46 || octet == 95 || octet == 45

-- an octet: itself if it is plain, else `%` and two upper-case hexadecimal digits
abbrev pub coded_octet : ℕ → List ℕ
coded_octet octet =
    if is_plain octet then octet ∷ []
    else 37 ∷ digit_glyph true (octet / 16 % 16) ∷ digit_glyph true (octet % 16) ∷ []

-- octets spelled so, one after the other
abbrev pub coded : List ℕ → List ℕ
coded octets = flat_map coded_octet octets
