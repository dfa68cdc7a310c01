-- How commits are counted frame by frame, and which were answered.
use Rattle.std.proofs.Common.{◌≡◌, ◌+◌, ◌-◌, ◌≤◌, ◌<◌, ◌↔◌, inl, inr, ℕ, zero, suc, Bool, true, false, List}
use Rattle.std.proofs.Common.{if◌then◌else◌, refl, arith, add-one, sym, ◌∙◌, ap, ap₂, ◌&&◌, ◌||◌}
use Rattle.std.proofs.Common.{subst, nat_le, IsTrue, Option, Some, None}
use Rattle.std.proofs.lemmas.Bool.{cases_order, false≢true}
use Rattle.std.proofs.lemmas.Bool.Decides.{nat_tests}
use Rattle.sqlite_wal.specs.Format.{IsFrame, commit_size}
use Rattle.sqlite_wal.specs.Recovery.{header}
use Rattle.acct_sql_log.specs.Answered.{BeginsCounted, IsSealedLast, BeginsAt, IsSynced}
use Rattle.acct_sql_log.specs.Answered.{IsFollowed, IsUnderWay}
use Rattle.acct_sql_log.specs.Chain.{frame_in, ends_commit, commits_from}

-- none ends behind a link among the frames before it
pub commits_before : (log : List ℕ) (link frames : ℕ) → frames < link
    → commits_from log link frames ≡ 0
commits_before log link zero low = refl
commits_before log link (suc i) low =
    let no : nat_le link (suc i) ≡ false = grind (arith, nat_tests) in
    let none : commits_from log link i ≡ 0 = commits_before log link i (omega arith) in
    ap₂ (λ (m : ℕ) (b : Bool). m + (if b && ends_commit (header log) (frame_in log i) then 1 else 0))
    none no

-- one frame more
pub one_more : (log : List ℕ) (link frames commits : ℕ) → link ≤ frames + 1
    → commits ≡ commits_from log link frames
    → commits + (if ends_commit (header log) (frame_in log frames) then 1 else 0)
    ≡ commits_from log link (frames + 1)
one_more log link frames commits within counted =
    let yes : nat_le link (suc frames) ≡ true = grind (arith, nat_tests) in
    ap₂ (λ (m : ℕ) (b : Bool). m + (if b && ends_commit (header log) (frame_in log frames) then 1 else 0))
    counted (sym yes)
    ∙ ap (commits_from log link) (sym (add-one frames))

-- a frame is of one commit
module _ (log : List ℕ) (first other i : ℕ) where
  no_earlier : BeginsAt log first i → BeginsAt log other i → first < other → ⊥
  no_earlier one two low =
      let within = two.low in
      two.behind (other - 1) (omega arith) (one.alone (other - 1) (omega arith) (omega arith))

pub same_first : (log : List ℕ) (first other i : ℕ) → BeginsAt log first i → BeginsAt log other i
    → first ≡ other
same_first log first other i one two = elim (cases_order first other) [
  | inl same ↦ same
  | inr order ↦ elim order [
    | inl less ↦ absurd (no_earlier log first other i one two less)
    | inr more ↦ absurd (no_earlier log other first i two one more)
  ]
]

-- the commit that is under way is the frame's
pub under_way_synced : (log : List ℕ) (frames : ℕ) (way : Option Bool) (is_sealed : Bool)
    → IsUnderWay log frames way → way ≡ Some is_sealed → IsTrue is_sealed ↔ IsSynced log frames
under_way_synced log frames way is_sealed under is =
    let known = subst (IsUnderWay log frames) is under in
    let first = known.0 in (
      λ yes'. (first, known.2, known.3.0 yes'),
      λ synced. known.3.1 (subst (λ (n : ℕ). IsSealedLast (header log) (frame_in log n))
          (same_first log synced.0 first frames synced.1 known.2) synced.2),
    )

-- the same with the next frame, which does not end it
pub goes_on : (log : List ℕ) (first frames : ℕ) → first ≤ frames → BeginsAt log first frames
    → commit_size (frame_in log frames) ≡ 0 → BeginsAt log first (frames + 1)
goes_on log first frames low begins unended = record {
  low = omega arith;
  behind = begins.behind;
  alone =
      λ j from to. elim (cases_order j frames) [
        | inl same ↦ ap (λ (n : ℕ). commit_size (frame_in log n)) same ∙ unended
        | inr order ↦ elim order [
          | inl less ↦ begins.alone j from less
          | inr more ↦ absurd (omega (arith, more, to))
        ]
      ];
}

stays_open : (log : List ℕ) (first frames : ℕ) (is_sealed : Bool) → first ≤ frames
    → BeginsAt log first frames → commit_size (frame_in log frames) ≡ 0
    → (IsTrue is_sealed ↔ IsSynced log frames) → IsUnderWay log (frames + 1) (Some is_sealed)
stays_open log first frames is_sealed low begins unended synced = (
  first,
  omega (arith, low),
  goes_on log first frames low begins unended,
  (
    λ yes'.
        let is = synced.0 yes' in
        subst (λ (n : ℕ). IsSealedLast (header log) (frame_in log n))
        (same_first log is.0 first frames is.1 begins) is.2,
    λ sealed. synced.1 (first, begins, sealed),
  ),
)

pub is_still_open : (log : List ℕ) (frames : ℕ) (before : Option Bool) (is_sealed : Bool)
    → IsUnderWay log frames before → (IsTrue is_sealed ↔ IsSynced log frames)
    → commit_size (frame_in log frames) ≡ 0 → IsUnderWay log (frames + 1) (Some is_sealed)
is_still_open log frames None is_sealed begins synced unended =
    stays_open log frames frames is_sealed (omega arith) begins unended synced
is_still_open log frames (Some way) is_sealed known synced unended =
    let low = known.1 in
    stays_open log known.0 frames is_sealed (omega (arith, low)) known.2 unended synced

-- a commit that counts was begun among the frames, with one more
pub followed_more : (log : List ℕ) (i frames : ℕ) (some here : Bool) → i < frames
    → (IsTrue some ↔ IsFollowed log i frames)
    → (IsTrue here ↔ BeginsCounted (header log) (frame_in log frames))
    → IsTrue (some || here) ↔ IsFollowed log i (frames + 1)
followed_more log i frames true here low known more = (
  λ yes'.
      let found = known.0 refl in
      let within = found.2 in
      (found.0, found.1, omega (arith, within), found.3),
  λ found. refl,
)
followed_more log i frames false here low known more = (
  λ yes'. (frames, low, omega arith, more.0 yes'),
  λ found. elim (cases_order found.0 frames) [
    | inl same ↦ more.1 (subst (λ (n : ℕ). BeginsCounted (header log) (frame_in log n)) same found.3)
    | inr order ↦ elim order [
      | inl less ↦ absurd (false≢true (known.1 (found.0, found.1, less, found.3)))
      | inr bigger ↦
          let within = found.2 in
          absurd (omega (arith, bigger, within))
    ]
  ],
)

-- none was behind the last frame
pub followed_by_none : (log : List ℕ) (frames : ℕ) → IsTrue false ↔ IsFollowed log frames (frames + 1)
followed_by_none log frames = (
  λ no'. absurd (false≢true no'),
  λ found.
      let after = found.1 in
      let within = found.2 in
      absurd (omega (arith, after, within)),
)

-- the test of a frame, of values that are the same
pub same_frame : (head head' frame frame' : List ℕ) (sum sum' : ℕ × ℕ) → head ≡ head' → sum ≡ sum'
    → frame ≡ frame' → IsFrame head' sum' frame' → IsFrame head sum frame
same_frame head head' frame frame' sum sum' heads sums frames test =
    subst (λ (h : List ℕ). IsFrame h sum frame) (sym heads)
    (subst (λ (s : ℕ × ℕ). IsFrame head' s frame) (sym sums)
    (subst (λ (f : List ℕ). IsFrame head' sum' f) (sym frames) test))
