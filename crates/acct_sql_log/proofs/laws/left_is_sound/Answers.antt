use Rattle.std.proofs.Common.{◌≡◌, ℕ, ◌-◌, ◌<◌, ◌≤◌, zero, suc, List, subst, arith}
use Rattle.std.proofs.Common.{inl, inr}
use Rattle.std.proofs.lemmas.Bool.{cases_order}
use Rattle.sqlite_wal.specs.Recovery.{header}
use Rattle.acct_sql_log.specs.declared.damage.Damage.TheVariants as damage
use Rattle.acct_sql_log.specs.Answered.{IsSealedLast, BeginsAt, IsSynced, IsFollowed}
use Rattle.acct_sql_log.specs.Chain.{frame_in, frame_count, Holds, BreaksAt}
use Rattle.acct_sql_log.specs.Damage.{IsFrameDamage, IsCutShort}
use Rattle.acct_sql_log.specs.Left.{IsLeft}
use Rattle.acct_sql_log.proofs.laws.left_is_sound.Goals as goal

-- of frames that hold, those behind the commits are all of one
module _ (log : List ℕ) (left : IsLeft log) (i : ℕ) (is_behind : left.committed ≤ i)
    (all_hold : (j : ℕ) → j < i → Holds log (suc j)) where
  begins : (first : ℕ) → BeginsAt log first i → first ≡ left.committed
  begins first begins_at = elim (cases_order first left.committed) [
    | inl same ↦ same
    | inr order ↦ elim order [
      | inl less ↦ absurd (left.ends (left.committed - 1) (omega (arith, less))
          (begins_at.alone (left.committed - 1) (omega (arith, less))
          (omega (arith, less, is_behind))))
      | inr more ↦
          let within = begins_at.low in
          absurd (begins_at.behind (first - 1) (omega (arith, more))
          (left.unfinished (first - 1) (omega (arith, more))
          (λ k low. all_hold k (omega (arith, more, within)))))
    ]
  ]

module _ (log : List ℕ) (left : IsLeft log) (i : ℕ) (breaks : BreaksAt log (suc i)) where
  -- the frame that breaks the chain is none of the commits
  is_behind : left.committed ≤ i
  is_behind = elim (cases_order i left.committed) [
    | inl same ↦ omega (arith, same)
    | inr order ↦ elim order [
      | inl less ↦ absurd (breaks.breaks (left.hold i less))
      | inr more ↦ omega (arith, more)
    ]
  ]

  -- all before it hold
  before : (j : ℕ) → j < i → Holds log (suc j)
  before j low = breaks.before (suc j) (omega arith)

  not_synced : IsSynced log i → ⊥
  not_synced synced = left.unsealed
      (subst (λ (n : ℕ). IsSealedLast (header log) (frame_in log n))
      (begins log left i is_behind before synced.0 synced.1) synced.2)

  not_followed : IsFollowed log i (frame_count log) → ⊥
  not_followed found =
      let behind = is_behind in
      let after = found.1 in
      left.last found.0 (omega (arith, behind, after)) found.2 found.3

no_frame : (log : List ℕ) → IsLeft log → (frame commits : ℕ) → IsFrameDamage log frame commits → ⊥
no_frame log left zero commits found =
    let some = found.some in
    omega (arith, some)
no_frame log left (suc i) commits found =
    let back : suc i - 1 ≡ i = omega arith in
    elim found.answered [
      | inl synced ↦ not_synced log left i found.first (subst (IsSynced log) back synced)
      | inr followed ↦ not_followed log left i found.first
          (subst (λ (n : ℕ). IsFollowed log n (frame_count log)) back followed)
    ]

no_end : (log : List ℕ) → IsLeft log → (frame commits : ℕ) → IsCutShort log frame commits → ⊥
no_end log left frame commits found = left.unsealed
    (subst (λ (n : ℕ). IsSealedLast (header log) (frame_in log n))
    (begins log left (frame_count log) left.whole (λ j low. found.hold (suc j) (omega arith))
    found.answered.0 found.answered.1) found.answered.3)

pub returns : goal.returns
returns c log left damage.Header found = found.breaks (left.head found.was_sealed)
returns c log left (damage.Frame frame commits) (inl found) = no_frame log left frame commits found
returns c log left (damage.Frame frame commits) (inr found) = no_end log left frame commits found
