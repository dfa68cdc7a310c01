use Rattle.std.proofs.Common.{◌≡◌, ◌+◌, ◌-◌, ◌↔◌, ℕ, suc, Bool, List, sym, ◌∙◌, ap, ap₂, arith}
use Rattle.std.proofs.Common.{add-one, zero-add, subst, if◌then◌else◌, IsTrue, false}
use Rattle.std.proofs.lemmas.Bool.{false≢true}
use Rattle.sqlite_wal.specs.Recovery.{header}
use Rattle.acct_sql_log.specs.Answered.{BeginsCounted, IsSynced, IsFollowed}
use Rattle.acct_sql_log.specs.Chain.{frame_in, ends_commit, BreaksAt}
use Rattle.acct_sql_log.specs.Scanner.{IsBreakIn}
use Rattle.acct_sql_log.proofs.Counting.{one_more, commits_before, same_frame, followed_more}
use Rattle.acct_sql_log.proofs.Counting.{followed_by_none}
use Rattle.acct_sql_log.proofs.scanner.Scanner.broken_with.Goals as goal

-- what the frame ends, as the count has it
one : (log head octets : List ℕ) (frames count : ℕ) (ends : Bool) → head ≡ header log
    → octets ≡ frame_in log frames → ends ≡ ends_commit head octets
    → count ≡ (if ends then 1 else 0)
    → count ≡ (if ends_commit (header log) (frame_in log frames) then 1 else 0)
one log head octets frames count ends heads is ends_is counted =
    counted ∙ ap (λ (b : Bool). if b then 1 else 0) (ends_is ∙ ap₂ ends_commit heads is)

-- the frame begins a commit that counts, as the log has it
begins : (log head octets : List ℕ) (frames : ℕ) (here : Bool) → head ≡ header log
    → octets ≡ frame_in log frames → (IsTrue here ↔ BeginsCounted head octets)
    → IsTrue here ↔ BeginsCounted (header log) (frame_in log frames)
begins log head octets frames here heads is said =
    subst (λ (h : List ℕ). IsTrue here ↔ BeginsCounted h (frame_in log frames)) heads
    (subst (λ (f : List ℕ). IsTrue here ↔ BeginsCounted head f) is said)

pub returns-in-Some-clause-broken : goal.returns-in-Some-clause-broken
returns-in-Some-clause-broken c log frames taken is synced =
    let known = subst (IsBreakIn log frames) c.in-Some.is taken.broken in
    let some = known.0 in
    let low = known.1 in
    let more = one log _ _ frames _ _ taken.head is c.ends_commit-ends.ensures
    c.one_if.ensures.count in
    let here = begins log _ _ frames _ taken.head is c.begins_counted-follows.ensures in (
      some,
      omega (arith, low),
      known.2,
      known.3,
      subst (λ (b : Bool). IsTrue b ↔ IsFollowed log (c.in-Some.found.link - 1) (frames + 1))
          (sym c.either.ensures)
          (followed_more log (c.in-Some.found.link - 1) frames _ _ (omega (arith, some, low))
          known.4 here),
      ap (λ (m : ℕ). c.in-Some.found.commits + m) more
          ∙ one_more log c.in-Some.found.link frames c.in-Some.found.commits (omega (arith, low))
          known.5,
    )

pub returns-in-None-2-clause-broken : goal.returns-in-None-2-clause-broken
returns-in-None-2-clause-broken c log frames taken is synced =
    let whole = subst (IsBreakIn log frames) c.in-None-2.is taken.broken in
    let number = taken.taken in
    let here : c.args.self.now.taken + 1 ≡ suc frames = ap (λ (n : ℕ). n + 1) number
    ∙ add-one frames in
    let back : frames ≡ c.args.self.now.taken + 1 - 1 = omega (arith, number) in
    let more = one log _ _ frames _ _ taken.head is c.ends_commit-ends.ensures
    c.one_if-in-None-2.ensures.count in (
      omega arith,
      omega (arith, number),
      subst (BreaksAt log) (sym here) (record {
        before = λ earlier low. whole earlier (omega arith);
        breaks = λ holds. false≢true (sym c.if-is_frame.false
            ∙ c.is_frame.ensures.1 (same_frame _ _ _ _ _ _ taken.head taken.sum is holds));
      }),
      subst (λ (n : ℕ). IsTrue c.args.is_synced ↔ IsSynced log n) back synced,
      subst (λ (n : ℕ). IsTrue false ↔ IsFollowed log n (frames + 1)) back
          (followed_by_none log frames),
      more ∙ sym (zero-add _)
          ∙ one_more log (c.args.self.now.taken + 1) frames 0 (omega (arith, number))
          (sym (commits_before log (c.args.self.now.taken + 1) frames (omega (arith, number)))),
    )
