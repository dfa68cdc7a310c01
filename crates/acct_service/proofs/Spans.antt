-- What a span does to a past: members are added to both histories, or sessions are carried forward.
use Rattle.std.proofs.Common.{◌≡◌, ◌⊎◌, inl, inr, ℕ, List, [], ◌∷◌, ◌++◌, refl, sym, ◌∙◌, ap}
use Rattle.std.proofs.Common.{subst, append_assoc}
use Rattle.std.proofs.lemmas.List.{append_cancel_right, map-append}
use Rattle.std.specs.List.{flat_map}
use Rattle.acct_model.specs.declared.plan.Plan.{Plan}
use Rattle.acct_model.specs.declared.entry.Entry.{Entry}
use Rattle.acct_model.specs.Plans.{plans_added}
use Rattle.acct_model.specs.History.{Accepted, PlansAdded, History}
use Rattle.acct_model.specs.Forward.{Batch}
use Rattle.acct_book_forward.specs.Carrying.{SelectionFacts, CarriesChosen}
use Rattle.acct_book.specs.Effect.{Effect, added, repeated, differs, limited, failed, looked}
use Rattle.acct_book.specs.Effect.{passed, unasked, after_effect}
use Rattle.acct_files.specs.declared.import_report.Outcome.{Outcome}
use Rattle.acct_files.specs.Vouchers.{Fields}
use Rattle.acct_files.specs.Importing.{Imported}
use Rattle.acct_service.specs.Machine.{Visit, Run}
use Rattle.acct_service.specs.Life.{Span, served, imported, extended, carried, Past, PriceAlike}
use Rattle.acct_service.specs.Life.{MayExtend}
use Rattle.acct_service.specs.Life.{plans_after, Goes, StopLeaves, set_aside, LivesOn, Chain}
use Rattle.acct_service.specs.Settling.{history_of}

-- ---- one span

abbrev pub CarriesNothing : Span → Type 0
CarriesNothing (carried those selection batches) = ⊥
CarriesNothing span = Unit {0}

-- the same members were added to both histories
pub record Grown (old : Past) (span : Span) (new : Past) : Type 0 where
  pub nothing : CarriesNothing span
  pub end : History
  pub goes : Goes old.plans old.history span end
  pub plans : new.plans ≡ plans_after old.plans span
  pub stop : StopLeaves new.plans span end new.history
  pub newer : History
  pub is : new.history ≡ newer ++ old.history
  pub was : new.whole ≡ newer ++ old.whole
  pub aside : new.aside ≡ old.aside

-- sessions were carried forward
pub record CarriedOver (old : Past) (span : Span) (new : Past) : Type 0 where
  pub selection : SelectionFacts
  pub batches : List Batch
  pub those : List Plan
  pub is : span ≡ carried those selection batches
  pub alike : PriceAlike those old.plans
  pub chosen : CarriesChosen selection those old.history batches new.history
  pub plans : new.plans ≡ old.plans
  pub whole : new.whole ≡ old.whole
  pub aside : new.aside ≡ flat_map set_aside batches ++ old.aside

pub moved : (old new : Past) (span : Span) → LivesOn old span new
    → Grown old span new ⊎ CarriedOver old span new
moved old new (served those visits) (end, goes, plans, stop, ((newer, is, was), aside)) =
    inl (record {
      nothing = tt;
      end = end;
      goes = goes;
      plans = plans;
      stop = stop;
      newer = newer;
      is = is;
      was = was;
      aside = aside;
    })
moved old new (imported config moment rows outcomes tried)
    (end, goes, plans, stop, ((newer, is, was), aside)) =
    inl (record {
      nothing = tt;
      end = end;
      goes = goes;
      plans = plans;
      stop = stop;
      newer = newer;
      is = is;
      was = was;
      aside = aside;
    })
moved old new (extended more) (end, goes, plans, stop, ((newer, is, was), aside)) =
    inl (record {
      nothing = tt;
      end = end;
      goes = goes;
      plans = plans;
      stop = stop;
      newer = newer;
      is = is;
      was = was;
      aside = aside;
    })
moved old new (carried those selection batches) (end, (alike, chosen), plans, stop, (whole, aside)) =
    inr (record {
      those = those;
      selection = selection;
      batches = batches;
      is = refl;
      alike = alike;
      chosen = elim stop [
        | inl left ↦ subst (CarriesChosen selection those old.history batches) (sym left) chosen
        | inr (asked, tried, fine, left) ↦ absurd tried
      ];
      plans = plans;
      whole = whole;
      aside = aside;
    })

-- ---- entries that were added

-- these entries were accepted in between, and no plans were added
abbrev pub Stays : History → History → Type 0
Stays old new = (entries : List Entry) × (new ≡ history_of entries ++ old)

stays : (old new : History) → new ≡ old → Stays old new
stays old new is = ([], is)

stays_both : (old mid new : History) → Stays old mid → Stays mid new → Stays old new
stays_both old mid new (older, is) (newer, was) = (
  newer ++ older,
  was ∙ ap (λ h. history_of newer ++ h) is
      ∙ sym (append_assoc (history_of newer) (history_of older) old)
      ∙ ap (λ h. h ++ old) (sym (map-append Accepted newer older)),
)

effect_stays : (old : History) (effect : Effect) → Stays old (after_effect old effect)
effect_stays old (added e) = (e ∷ [], refl)
effect_stays old (repeated e) = stays old old refl
effect_stays old (differs e kept) = stays old old refl
effect_stays old (limited e balance) = stays old old refl
effect_stays old (failed e) = stays old old refl
effect_stays old looked = stays old old refl
effect_stays old passed = stays old old refl
effect_stays old unasked = stays old old refl

pub run_stays : (plans : List Plan) (old new : History) (visits : List Visit)
    → Run plans old visits new → Stays old new
run_stays plans old new [] is = stays old new is
run_stays plans old new (visit ∷ visits) (mid, step, rest) =
    stays_both old mid new (subst (Stays old) (sym step.leads) (effect_stays old visit.effect))
    (run_stays plans mid new visits rest)

pub lines_stay : (plans : List Plan) (moment : ℕ) (old new : History) (rows : List Fields)
    (outcomes : List Outcome) → Imported plans moment old rows outcomes new → Stays old new
lines_stay plans moment old new [] [] is = stays old new is
lines_stay plans moment old new [] (told ∷ outcomes) run = absurd run
lines_stay plans moment old new (fields ∷ rows) [] run = absurd run
lines_stay plans moment old new (fields ∷ rows) (told ∷ outcomes)
    (effect, becomes, holds, rest) =
    stays_both old (after_effect old effect) new (effect_stays old effect)
    (lines_stay plans moment (after_effect old effect) new rows outcomes rest)

stop_stays : (plans : List Plan) (span : Span) (history left : History)
    → StopLeaves plans span history left → Stays history left
stop_stays plans span history left may =
    elim may [
      | inl is ↦ stays history left is
      | inr (e, tried, fine, is) ↦ (e ∷ [], is)
    ]

-- ---- what was added to both histories

-- entries were accepted
pub record Accepts (old new : Past) : Type 0 where
  pub entries : List Entry
  pub plans : new.plans ≡ old.plans
  pub is : new.history ≡ history_of entries ++ old.history
  pub was : new.whole ≡ history_of entries ++ old.whole
  pub aside : new.aside ≡ old.aside

-- plans were added
pub record AddsPlans (old new : Past) : Type 0 where
  pub more : List Plan
  pub may : MayExtend old.plans more
  pub plans : new.plans ≡ more
  pub is : new.history ≡ PlansAdded (plans_added old.plans more) ∷ old.history
  pub was : new.whole ≡ PlansAdded (plans_added old.plans more) ∷ old.whole
  pub aside : new.aside ≡ old.aside

-- one history grew by these members, so the other did
pub same_growth : (these those old new whole after : History) → new ≡ these ++ old
    → new ≡ those ++ old → after ≡ those ++ whole → after ≡ these ++ whole
same_growth these those old new whole after is other was =
    was ∙ ap (λ h. h ++ whole) (append_cancel_right those these old (sym other ∙ is))

entries_came : (old new : Past) (span : Span) → (g : Grown old span new)
    → plans_after old.plans span ≡ old.plans → Stays old.history g.end → Accepts old new
entries_came old new span g same came =
    let (entries, is) = stays_both old.history g.end new.history came
    (stop_stays new.plans span g.end new.history g.stop) in
    record {
      entries = entries;
      plans = g.plans ∙ same;
      is = is;
      was = same_growth (history_of entries) g.newer old.history new.history old.whole new.whole
          is g.is g.was;
      aside = g.aside;
    }

plans_came : (old new : Past) (more : List Plan) → Grown old (extended more) new
    → AddsPlans old new
plans_came old new more g =
    let (may, end_is) = g.goes in
    let here : History = PlansAdded (plans_added old.plans more) ∷ [] in
    let is : new.history ≡ here ++ old.history = elim g.stop [
      | inl left ↦ left ∙ end_is
      | inr (asked, tried, fine, left) ↦ absurd tried
    ] in
    record {
      more = more;
      may = may;
      plans = g.plans;
      is = is;
      was = same_growth here g.newer old.history new.history old.whole new.whole is g.is g.was;
      aside = g.aside;
    }

pub grown : (old new : Past) (span : Span) → Grown old span new → Accepts old new ⊎ AddsPlans old new
grown old new (served those visits) g =
    inl (entries_came old new (served those visits) g refl
    (run_stays those old.history g.end visits g.goes.1))
grown old new (imported config moment rows outcomes tried) g =
    inl (entries_came old new (imported config moment rows outcomes tried) g refl
    (lines_stay config.plans moment old.history g.end rows outcomes g.goes.1))
grown old new (extended more) g = inr (plans_came old new more g)
grown old new (carried those selection batches) g = absurd g.nothing

-- ---- chains

-- what each step keeps, a chain of them keeps
pub chain_invariant : {X S : Type 0} (Step : X → S → X → Type 0) (P : X → Type 0)
    → ((old new : X) (step : S) → Step old step new → P old → P new)
    → (old new : X) (steps : List S) → Chain Step old steps new → P old → P new
chain_invariant Step P each old new [] is h = subst P (sym is) h
chain_invariant Step P each old new (step ∷ steps) (mid, first, rest) h =
    chain_invariant Step P each mid new steps rest (each old mid step first h)

-- steps of one kind are steps of the other
pub chain_of : {X S : Type 0} (Step Other : X → S → X → Type 0)
    → ((old new : X) (step : S) → Step old step new → Other old step new)
    → (old new : X) (steps : List S) → Chain Step old steps new → Chain Other old steps new
chain_of Step Other each old new [] is = is
chain_of Step Other each old new (step ∷ steps) (mid, first, rest) =
    (mid, each old mid step first, chain_of Step Other each mid new steps rest)
