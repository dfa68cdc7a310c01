-- A life keeps what was accepted and what was acknowledged, entry for entry.
use Rattle.std.proofs.Common.{◌≡◌, ◌⊎◌, inl, inr, true, false, ℕ, Bool, List, [], ◌∷◌, ◌++◌, refl}
use Rattle.std.proofs.Common.{sym, ◌∙◌, ap, subst, append_assoc, Result, Ok, Err}
use Rattle.std.proofs.lemmas.List.Elements.{Contains-append_left, Contains-append_right}
use Rattle.std.proofs.lemmas.List.Elements.{Contains-append_cases, filter_map-append}
use Rattle.std.specs.Prelude.{Contains}
use Rattle.std.specs.List.{flat_map}
use Rattle.acct_model.specs.declared.plan.Plan.{Plan}
use Rattle.acct_model.specs.declared.entry.Entry.{Entry}
use Rattle.acct_model.specs.declared.entry.Entry.TheVariants as entry
use Rattle.acct_model.specs.Vouchers.{TopUpFacts}
use Rattle.acct_model.specs.Plans.{plans_added}
use Rattle.acct_model.specs.History.{Accepted, PlansAdded, History, topup_in, all_topups}
use Rattle.acct_model.specs.Claims.{OfTopUp, topup_claim, claim_in, claims}
use Rattle.acct_model.proofs.Claimed.{claim_of_topup, topup_of_claim}
use Rattle.acct_model.proofs.Lists.{here, nowhere, front_or_behind}
use Rattle.acct_book.specs.Effect.{Effect, added, repeated, differs, limited, failed, looked}
use Rattle.acct_book.specs.Effect.{passed, unasked, after_effect, Holds}
use Rattle.acct_book_forward.proofs.CarriedOn.{moves_nothing}
use Rattle.acct_files.specs.declared.import_report.Cause.{Cause}
use Rattle.acct_files.specs.declared.import_report.Outcome.{Outcome}
use Rattle.acct_files.specs.declared.import_report.Outcome.TheVariants as outcome
use Rattle.acct_files.specs.Vouchers.{Fields, asked_by}
use Rattle.acct_files.specs.Importing.{Becomes, Imported}
use Rattle.acct_service.specs.Machine.{Visit, Step, Run}
use Rattle.acct_service.specs.Serving.{is_replied}
use Rattle.acct_service.specs.Life.{Span, served, imported, extended, carried, Past, Goes}
use Rattle.acct_service.specs.Life.{StopLeaves, LivesOn, Chain, Life}
use Rattle.acct_service.specs.Life.{listed, acknowledged_by, acknowledged_at, acknowledged_line}
use Rattle.acct_service.specs.Life.{acknowledged_lines, acknowledged_in, acknowledged}
use Rattle.acct_service.specs.Settling.{HasKept, HasSameTopUps}
use Rattle.acct_service.proofs.Lives.{repeated_claimed}
use Rattle.acct_service.proofs.Spans.{CarriesNothing, Grown, moved, same_growth}

-- ---- what was received is kept

-- the entry is a top-up whose number, account and sum were accepted
abbrev pub IsClaimed : History → Entry → Type 0
IsClaimed history asked = (topup : TopUpFacts) × (asked ≡ entry.TopUp topup)
    × Contains (claims history) (OfTopUp (topup_claim topup))

-- a history grew, and each acknowledged entry was accepted in between or is a claimed top-up
pub record Grows (old : History) (told : List Entry) (new : History) : Type 0 where
  pub newer : History
  pub is : new ≡ newer ++ old
  pub came : (asked : Entry) → Contains told asked
      → Contains newer (Accepted asked) ⊎ IsClaimed new asked

claimed_longer : (newer old last : History) (asked : Entry) → last ≡ newer ++ old
    → IsClaimed old asked → IsClaimed last asked
claimed_longer newer old last asked is (topup, same, claimed) = (
  topup,
  same,
  subst (λ cs. Contains cs (OfTopUp (topup_claim topup)))
      (sym (filter_map-append claim_in newer old) ∙ ap claims (sym is))
      (Contains-append_right (claims newer) (claims old) (OfTopUp (topup_claim topup)) claimed),
)

grows_none : (old last : History) → last ≡ old → Grows old [] last
grows_none old last is = record {
  newer = [];
  is = is;
  came = λ asked none. absurd (nowhere asked none);
}

grows_both : (old mid last : History) (confirmed later : List Entry)
    → Grows old confirmed mid → Grows mid later last
    → Grows old (confirmed ++ later) last
grows_both old mid last confirmed later first second =
    let newer = first.newer in
    let newest = second.newer in
    record {
      newer = newest ++ newer;
      is = second.is ∙ ap (λ es. newest ++ es) first.is ∙ sym (append_assoc newest newer old);
      came = λ asked at. elim (Contains-append_cases confirmed later asked at) [
        | inl one ↦ elim (first.came asked one) [
          | inl there ↦ inl (Contains-append_right newest newer (Accepted asked) there)
          | inr claimed ↦ inr (claimed_longer newest mid last asked second.is claimed)
        ]
        | inr other ↦ elim (second.came asked other) [
          | inl there ↦ inl (Contains-append_left newest newer (Accepted asked) there)
          | inr claimed ↦ inr claimed
        ]
      ];
    }

has_kept : (old last : History) (confirmed : List Entry) → Grows old confirmed last
    → HasKept old confirmed last
has_kept old last confirmed grows = record {
  accepted = (grows.newer, grows.is);
  acknowledged = λ asked at. elim (grows.came asked at) [
    | inl there ↦ inl (subst (λ es. Contains es (Accepted asked)) (sym grows.is)
        (Contains-append_left grows.newer old (Accepted asked) there))
    | inr claimed ↦ inr claimed
  ];
}

only_one : (one asked : Entry) → Contains (one ∷ []) asked → one ≡ asked
only_one one asked at =
    elim (front_or_behind one asked [] at) [
      | inl is ↦ is
      | inr none ↦ absurd (nowhere asked none)
    ]

module _ {X S : Type 0} (Step : X → S → X → Type 0) (history_in : X → History)
    (told : S → List Entry) where
  abbrev pub Keeps : Type 0
  Keeps = (old new : X) (step : S) → Step old step new
      → Grows (history_in old) (told step) (history_in new)

  pub chain_kept : Keeps → (old new : X) (steps : List S) → Chain Step old steps new
      → Grows (history_in old) (flat_map told steps) (history_in new)
  chain_kept keeps old new [] is = grows_none (history_in old) (history_in new) (ap history_in is)
  chain_kept keeps old new (step ∷ steps) (mid, first, rest) =
      grows_both (history_in old) (history_in mid) (history_in new) (told step)
      (flat_map told steps) (keeps old mid step first) (chain_kept keeps mid new steps rest)

-- ---- effects

-- what an effect keeps, and what it acknowledges, whether or not the reply was taken
abbrev EffectKept : History → Effect → Bool → Type 0
EffectKept old effect is_taken =
    Grows old (listed (acknowledged_by effect is_taken)) (after_effect old effect)

same_kept : (old : History) → Grows old [] old
same_kept old = grows_none old old refl

repeated_kept : (plans : List Plan) (old : History) (e : Entry)
    → Holds plans old (repeated e) → IsClaimed old e
repeated_kept plans old (entry.Report r) h = absurd h
repeated_kept plans old (entry.Restart r) h = absurd h
repeated_kept plans old (entry.TopUp t) (kept, first, account, amount) =
    (t, refl, repeated_claimed old t kept first account amount)

effect_kept : (plans : List Plan) (old : History) (effect : Effect) (is_taken : Bool)
    → Holds plans old effect → EffectKept old effect is_taken
effect_kept plans old (added e) true h = record {
  newer = Accepted e ∷ [];
  is = refl;
  came = λ asked at. inl (subst (λ x. Contains (Accepted e ∷ []) (Accepted x))
      (only_one e asked at) (here (Accepted e) []));
}
effect_kept plans old (added e) false h = record {
  newer = Accepted e ∷ [];
  is = refl;
  came = λ asked none. absurd (nowhere asked none);
}
effect_kept plans old (repeated e) true h = record {
  newer = [];
  is = refl;
  came = λ asked at. inr (subst (IsClaimed old) (only_one e asked at)
      (repeated_kept plans old e h));
}
effect_kept plans old (repeated e) false h = same_kept old
effect_kept plans old (differs e kept) is_taken h = same_kept old
effect_kept plans old (limited e balance) is_taken h = same_kept old
effect_kept plans old (failed e) is_taken h = same_kept old
effect_kept plans old looked is_taken h = same_kept old
effect_kept plans old passed is_taken h = same_kept old
effect_kept plans old unasked is_taken h = same_kept old

-- ---- spans

visit_kept : (plans : List Plan)
    → Keeps (λ old visit new. Step plans old visit new) (λ history. history) acknowledged_at
visit_kept plans old new visit step =
    subst (λ es. Grows old (acknowledged_at visit) es) (sym step.leads)
    (effect_kept plans old visit.effect (is_replied visit) step.holds)

pub run_chain : (plans : List Plan) (old new : History) (visits : List Visit)
    → Run plans old visits new → Chain (λ old visit new. Step plans old visit new) old visits new
run_chain plans old new [] is = is
run_chain plans old new (visit ∷ visits) (mid, step, rest) =
    (mid, step, run_chain plans mid new visits rest)

line_kept : (plans : List Plan) (old : History) (asked : Result TopUpFacts Cause)
    (told : Outcome) (effect : Effect) → Becomes asked told effect → Holds plans old effect
    → Grows old (listed (acknowledged_line asked told)) (after_effect old effect)
line_kept plans old (Ok t) outcome.Added effect is holds =
    subst (λ x. Grows old (entry.TopUp t ∷ []) (after_effect old x)) (sym is)
    (effect_kept plans old (added (entry.TopUp t)) true (subst (λ x. Holds plans old x) is holds))
line_kept plans old (Ok t) outcome.Repeated effect is holds =
    subst (λ x. Grows old (entry.TopUp t ∷ []) (after_effect old x)) (sym is)
    (effect_kept plans old (repeated (entry.TopUp t)) true
    (subst (λ x. Holds plans old x) is holds))
line_kept plans old (Ok t) (outcome.Refused why) effect is holds =
    let grows = effect_kept plans old effect false holds in
    record {
      newer = grows.newer;
      is = grows.is;
      came = λ asked none. absurd (nowhere asked none);
    }
line_kept plans old (Err why) told effect is holds =
    let grows = effect_kept plans old effect false holds in
    record {
      newer = grows.newer;
      is = grows.is;
      came = λ asked none. absurd (nowhere asked none);
    }

lines_kept : (plans : List Plan) (moment : ℕ) (old new : History) (rows : List Fields)
    (outcomes : List Outcome) → Imported plans moment old rows outcomes new
    → Grows old (acknowledged_lines moment rows outcomes) new
lines_kept plans moment old new [] [] is = grows_none old new is
lines_kept plans moment old new [] (told ∷ outcomes) h = absurd h
lines_kept plans moment old new (fields ∷ rows) [] h = absurd h
lines_kept plans moment old new (fields ∷ rows) (told ∷ outcomes) (effect, becomes, holds, rest) =
    grows_both old (after_effect old effect) new
    (listed (acknowledged_line (asked_by moment fields) told))
    (acknowledged_lines moment rows outcomes)
    (line_kept plans old (asked_by moment fields) told effect becomes holds)
    (lines_kept plans moment (after_effect old effect) new rows outcomes rest)

stop_kept : (plans : List Plan) (span : Span) (history left : History)
    → StopLeaves plans span history left → (newer : History) × (left ≡ newer ++ history)
stop_kept plans span history left may =
    elim may [
      | inl is ↦ ([], is)
      | inr (e, tried, fine, is) ↦ (Accepted e ∷ [], is)
    ]

goes_kept : (plans : List Plan) (old new : History) (span : Span) → CarriesNothing span
    → Goes plans old span new → Grows old (acknowledged_in span) new
goes_kept plans old new (served those visits) nothing (alike, run) =
    chain_kept (λ old visit new. Step those old visit new) (λ history. history) acknowledged_at
    (visit_kept those) old new visits (run_chain those old new visits run)
goes_kept plans old new (imported config moment rows outcomes tried) nothing (alike, run) =
    lines_kept config.plans moment old new rows outcomes run
goes_kept plans old new (extended more) nothing (may, is) = record {
  newer = PlansAdded (plans_added plans more) ∷ [];
  is = is;
  came = λ asked none. absurd (nowhere asked none);
}
goes_kept plans old new (carried those selection batches) nothing goes = absurd nothing

-- the history of a past that a span let grow
span_kept : (old new : Past) (span : Span) → Grown old span new
    → Grows old.history (acknowledged_in span) new.history
span_kept old new span g =
    let gone = goes_kept old.plans old.history g.end span g.nothing g.goes in
    let (newer, is) = stop_kept new.plans span g.end new.history g.stop in
    record {
      newer = newer ++ gone.newer;
      is = is ∙ ap (λ es. newer ++ es) gone.is ∙ sym (append_assoc newer gone.newer old.history);
      came = λ asked at. elim (gone.came asked at) [
        | inl there ↦ inl (Contains-append_right newer gone.newer (Accepted asked) there)
        | inr claimed ↦ inr (claimed_longer newer g.end new.history asked is claimed)
      ];
    }

-- ---- the whole history

claimed_in_whole : (past : Past) (asked : Entry) → HasSameTopUps past
    → IsClaimed past.history asked → IsClaimed past.whole asked
claimed_in_whole past asked same (topup, is, claimed) =
    let u = topup_of_claim past.history (topup_claim topup) claimed in (
      topup,
      is,
      subst (λ c. Contains (claims past.whole) (OfTopUp c)) u.2
          (claim_of_topup past.whole u.0 (subst (λ ts. Contains ts u.0) (sym same) u.1)),
    )

-- the top-ups of a history that grew
more_topups : (newer old new : History) → new ≡ newer ++ old
    → all_topups new ≡ all_topups newer ++ all_topups old
more_topups newer old new is = ap all_topups is ∙ filter_map-append topup_in newer old

pub topups_same : (old new : Past) (span : Span) → LivesOn old span new → HasSameTopUps old
    → HasSameTopUps new
topups_same old new span lives same =
    elim (moved old new span lives) [
      | inl g ↦ more_topups g.newer old.whole new.whole g.was
          ∙ ap (λ ts. all_topups g.newer ++ ts) same
          ∙ sym (more_topups g.newer old.history new.history g.is)
      | inr c ↦ ap all_topups c.whole ∙ same
          ∙ sym (moves_nothing c.selection c.those old.history c.batches new.history
          c.chosen).topups
    ]

whole_kept : (old new : Past) (span : Span) → LivesOn old span new → HasSameTopUps new
    → Grows old.whole (acknowledged_in span) new.whole
whole_kept old new span lives same =
    elim (moved old new span lives) [
      | inl g ↦ let grows = span_kept old new span g in
          record {
            newer = grows.newer;
            is = same_growth grows.newer g.newer old.history new.history old.whole new.whole
                grows.is g.is g.was;
            came = λ asked at. elim (grows.came asked at) [
              | inl there ↦ inl there
              | inr claimed ↦ inr (claimed_in_whole new asked same claimed)
            ];
          }
      | inr c ↦ subst (λ x. Grows old.whole (acknowledged_in x) new.whole) (sym c.is)
          (grows_none old.whole new.whole c.whole)
    ]

life_kept : (old last : Past) (spans : List Span) → HasSameTopUps old → Life old spans last
    → Grows old.whole (acknowledged spans) last.whole
life_kept old last [] same is =
    grows_none old.whole last.whole (ap (λ (past : Past). past.whole) is)
life_kept old last (span ∷ spans) same (mid, first, rest) =
    let then = topups_same old mid span first same in
    grows_both old.whole mid.whole last.whole (acknowledged_in span) (acknowledged spans)
    (whole_kept old mid span first then) (life_kept mid last spans then rest)

pub life_has_kept : (old last : Past) (spans : List Span) → HasSameTopUps old
    → Life old spans last → HasKept old.whole (acknowledged spans) last.whole
life_has_kept old last spans same life =
    has_kept old.whole last.whole (acknowledged spans) (life_kept old last spans same life)
