-- Sessions of accounts, added up: each number stops at 2^64 - 1.
use Rattle.std.specs.Prelude.{◌≡◌, ◌<◌, ◌+◌, ◌-◌, ◌^◌, ℕ, min}
use Rattle.acct_book_forward.specs.declared.forwarding.Tally.{Tally}

abbrev pub plus : ℕ → ℕ → ℕ
plus a b = min (a + b) (2 ^ 64 - 1)

-- none yet
abbrev pub no_sessions : Tally
no_sessions = record { carried = 0; of_kept = 0; still_open = 0; recent = 0; too_large = 0 }

-- those of the accounts so far and of another one
abbrev pub both : Tally → Tally → Tally
both sum tally = record {
  carried = plus sum.carried tally.carried;
  of_kept = plus sum.of_kept tally.of_kept;
  still_open = plus sum.still_open tally.still_open;
  recent = plus sum.recent tally.recent;
  too_large = plus sum.too_large tally.too_large;
}

-- what is counted as too large, as if each was carried
abbrev pub as_carried : Tally → Tally
as_carried tally = record tally { carried = tally.too_large; too_large = 0 }

-- One more account is counted, and one more of which sessions are carried, if some are.
pub record AddsUp (accounts more touched more_touched : ℕ) (sum more_sum tally : Tally)
    : Type 0 where
  pub accounts_are : more ≡ plus accounts 1
  pub none : tally.carried ≡ 0 → more_touched ≡ touched
  pub some : 0 < tally.carried → more_touched ≡ plus touched 1
  pub sessions_are : more_sum ≡ both sum tally
