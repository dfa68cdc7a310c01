-- Numbers in decimal, as texts have them.
use Rattle.std.specs.Prelude.{ℕ, ◌^◌, Option, None, Some, List, length, Bool, nat_lt, nat_le, ◌&&◌}
use Rattle.std.specs.Prelude.{if◌then◌else◌}
use Rattle.std.specs.Char.{is_ascii_digit}
use Rattle.std.specs.List.{list_all}
use Rattle.std.specs.Str.Parse.{digits_value}

-- 1 to this many decimal digits
abbrev pub is_numeral : ℕ → List ℕ → Bool
is_numeral most_digits text =
    nat_le 1 (length text) && nat_le (length text) most_digits && list_all is_ascii_digit text

-- the number that 1 to this many decimal digits spell, if it is below 2^64
abbrev pub number_of : ℕ → List ℕ → Option ℕ
number_of most_digits text =
    if is_numeral most_digits text && nat_lt (digits_value 10 text) (2 ^ 64)
    then Some (digits_value 10 text)
    else None

-- the number, if there is one and it isn't above the given one
abbrev pub number_at_most : ℕ → Option ℕ → Option ℕ
number_at_most most None = None
number_at_most most (Some number) = if nat_le number most then Some number else None

-- the number that 1 to 20 decimal digits spell, if it isn't above the given one
abbrev pub number_up_to : ℕ → List ℕ → Option ℕ
number_up_to most text = number_at_most most (number_of 20 text)
