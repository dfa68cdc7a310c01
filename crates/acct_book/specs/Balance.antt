-- How far a balance is below 0.
use Rattle.std.specs.Prelude.{ℕ, suc, ℤ, pos, negsuc}

-- how far a balance is below 0, and 0 if it is not
abbrev pub overrun_of : ℤ → ℕ
overrun_of (pos n) = 0
overrun_of (negsuc n) = suc n
