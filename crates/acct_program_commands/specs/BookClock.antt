-- The line that is printed if the clock is before the last change of a book.
use Rattle.std.specs.Prelude.{ℕ, List, [], ◌∷◌, ◌++◌, codes, decimal, nat_lt, if◌then◌else◌}

-- `clock: MOMENT is before WRITTEN, when the book was last written`
abbrev pub late_text : ℕ → ℕ → List ℕ
late_text moment written_at =
    codes "clock: " ++ decimal moment ++ codes " is before " ++ decimal written_at
    ++ codes ", when the book was last written"

-- that line, if the clock is before
abbrev pub late_line : ℕ → ℕ → List ℕ
late_line moment written_at =
    if nat_lt moment written_at then late_text moment written_at ++ 10 ∷ [] else []
