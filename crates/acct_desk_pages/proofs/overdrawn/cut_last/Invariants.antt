use Rattle.std.proofs.Common.{◌≡◌, ℕ, ◌-◌, ◌<◌, ◌≤◌, get_or, length}
use Rattle.acct_desk_pages.proofs.overdrawn.cut_last.Given as goal

-- no octet from there on is a slash
abbrev pub invariant-loop-behind : goal.invariant-loop-behind
invariant-loop-behind l = (k : ℕ) → length l.octets - l.behind ≤ k → k < length l.octets
    → get_or l.octets k 0 ≡ 47 → ⊥
