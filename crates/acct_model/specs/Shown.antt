-- Octets and addresses shown as text.
use Rattle.std.specs.Prelude.{ℕ, ◌/◌, ◌%◌, ◌==◌, nat_lt, nat_le, Bool, true, ◌||◌, Option, None}
use Rattle.std.specs.Prelude.{Some, List, [], ◌∷◌, if◌then◌else◌}
use Rattle.std.specs.Net.Text.{ipv4_text}
use Rattle.std.specs.List.{flat_map}
use Rattle.std.specs.Fmt.{digit_glyph}

-- an octet that is not shown as itself: a control, `%` or one past ASCII
abbrev pub is_escaped : ℕ → Bool
is_escaped octet = nat_lt octet 32 || octet == 127 || octet == 37 || nat_le 128 octet

-- an octet as text: itself, or `%` and two upper-case hexadecimal digits
abbrev pub shown_octet : ℕ → List ℕ
shown_octet octet =
    if is_escaped octet
    then 37 ∷ digit_glyph true (octet / 16 % 16) ∷ digit_glyph true (octet % 16) ∷ []
    else octet ∷ []

-- octets as text, one after the other
abbrev pub shown : List ℕ → List ℕ
shown octets = flat_map shown_octet octets

-- an IPv4 address as text: four decimal numbers separated by dots, and no text for none
abbrev pub shown_address : Option (List ℕ) → List ℕ
shown_address None = []
shown_address (Some octets) = ipv4_text octets
