-- What a crash leaves of a run or of an import is what a stop leaves of a span.
use Rattle.std.proofs.Common.{◌≡◌, ◌⊎◌, inl, inr, ℕ, List, [], ◌∷◌, ◌++◌, Option, Some, None, refl}
use Rattle.std.proofs.Common.{sym, ap, subst, Result}
use Rattle.std.specs.List.{flat_map}
use Rattle.acct_model.specs.declared.entry.Entry.TheVariants as entry
use Rattle.acct_model.specs.declared.plan.Plan.{Plan}
use Rattle.acct_model.specs.Plans.{plan_for, plans_added}
use Rattle.acct_model.specs.Vouchers.{TopUpFacts}
use Rattle.acct_model.specs.History.{Accepted, PlansAdded, History}
use Rattle.acct_book.specs.declared.book.Book.{Ghosts}
use Rattle.acct_book.specs.Content.{Content, keeping}
use Rattle.acct_book.specs.Stands.{Stands}
use Rattle.acct_book.specs.Step.{StoodFor}
use Rattle.acct_book.specs.Addition.{AddsAtMost}
use Rattle.acct_book_forward.specs.Carrying.{SelectionFacts, IsCarriedOn, CarriesOn}
use Rattle.acct_book.proofs.Additions.{additions_stand, same-stands}
use Rattle.acct_site.specs.declared.config.Config.{Config}
use Rattle.acct_files.specs.declared.import_report.Stopped.{Stopped}
use Rattle.acct_files.specs.declared.import_report.ImportReport.{ImportReport}
use Rattle.acct_files.specs.declared.import_report.Outcome.{Outcome}
use Rattle.acct_files.specs.Vouchers.{Fields}
use Rattle.acct_files.specs.Importing.{Imports}
use Rattle.acct_files.specs.Importing as importing
use Rattle.acct_service.specs.Machine.{Visit}
use Rattle.acct_service.specs.Serving.{Leads, MayLeave}
use Rattle.acct_service.specs.Life.{Span, served, imported, extended, carried, Past, MayExtend}
use Rattle.acct_service.specs.Life.{plans_after, Goes, HasTried, set_aside, GoesBeside}
use Rattle.acct_service.specs.Settling.{history_of}
use Rattle.acct_service.specs.Stops.{IsLivedOn, IsCarriedAlong, LeavesOnly, LivesOnBy}
use Rattle.acct_service.specs.Stops.{StopsAreLived}
use Rattle.acct_service.proofs.AlikePlans.{same_plans}
use Rattle.acct_service.proofs.Spans.{CarriesNothing, Stays, run_stays, lines_stay}

-- the past after members were added to both histories
abbrev grown_to : Past → List Plan → History → Past
grown_to past plans newer = record {
  plans = plans;
  history = newer ++ past.history;
  whole = newer ++ past.whole;
  aside = past.aside;
}

-- such a past, if only members were added
lived : (past : Past) (newer : History) (span : Span) (c : Content) → CarriesNothing span
    → Goes past.plans past.history span (newer ++ past.history)
    → MayLeave (plans_after past.plans span) (newer ++ past.history) (HasTried span) c
    → IsLivedOn past span c
lived past newer span c nothing goes may =
    let then = plans_after past.plans span in
    elim may [
      | inl stands ↦ (
        grown_to past then newer,
        (
          newer ++ past.history,
          goes,
          refl,
          inl refl,
          beside past (grown_to past then newer) span nothing newer refl refl refl,
        ),
        stands,
      )
      | inr (asked, tried, (fine, stands)) ↦ (
        grown_to past then (Accepted asked ∷ newer),
        (
          newer ++ past.history,
          goes,
          refl,
          inr (asked, tried, fine, refl),
          beside past (grown_to past then (Accepted asked ∷ newer)) span nothing
              (Accepted asked ∷ newer) refl refl refl,
        ),
        stands,
      )
    ]
  where
    beside : (old new : Past) (span : Span) → CarriesNothing span → (newer : History)
        → new.history ≡ newer ++ old.history → new.whole ≡ newer ++ old.whole
        → new.aside ≡ old.aside → GoesBeside old span new
    beside old new (served those visits) nothing newer is was aside = ((newer, is, was), aside)
    beside old new (imported config moment rows outcomes tried) nothing newer is was aside =
        ((newer, is, was), aside)
    beside old new (extended more) nothing newer is was aside = ((newer, is, was), aside)
    beside old new (carried those selection batches) nothing newer is was aside = absurd nothing

-- the same if entries were accepted
lived_on : (past : Past) (after : History) (span : Span) (c : Content) → CarriesNothing span
    → Stays past.history after → Goes past.plans past.history span after
    → MayLeave (plans_after past.plans span) after (HasTried span) c
    → IsLivedOn past span c
lived_on past after span c nothing (entries, is) goes may =
    lived past (history_of entries) span c nothing
    (subst (Goes past.plans past.history span) is goes)
    (subst (λ h. MayLeave (plans_after past.plans span) h (HasTried span) c) is may)

-- what an import may leave, as a span states it
may_leave : (config : Config) (moment : ℕ) (rows : List Fields) (outcomes : List Outcome)
    (tried : Option TopUpFacts) (after : History) (c : Content)
    → importing.ImportLeaves config.plans after tried c
    → MayLeave config.plans after (HasTried (imported config moment rows outcomes tried)) c
may_leave config moment rows outcomes None after c stands = inl stands
may_leave config moment rows outcomes (Some topup) after c may =
    elim may [
      | inl stands ↦ inl stands
      | inr adds ↦ inr (entry.TopUp topup, (topup, refl, refl), adds)
    ]

-- the content of before with the new plans
extended_lives : (past : Past) (more : List Plan) (content : Content)
    → MayExtend past.plans more → Stands past.plans content past.history
    → IsLivedOn past (extended more) (keeping more content)
extended_lives past more content may stood =
    lived past (PlansAdded (plans_added past.plans more) ∷ []) (extended more)
    (keeping more content) tt (may, refl)
    (inl (additions_stand past.plans more content past.history may.old_are_good may.new_are_good
    may.extends stood))

-- a content that sessions were carried forward to
carried_lives : (past : Past) (selection : SelectionFacts) (c : Content)
    → IsCarriedOn selection past.plans past.history c
    → IsCarriedAlong past selection c
carried_lives past selection c (batches, after, chosen, stands) = (
  batches,
  (
    record past { history = after; aside = flat_map set_aside batches ++ past.aside },
    (after, (λ class. refl, chosen), refl, inl refl, (refl, refl)),
    stands,
  ),
)

module _ {B : Type 0} (b : Ghosts B) where
  served_lives : (past : Past) (visits : List Visit) (old new : B)
      → LeavesOnly b past old → Leads b past.plans visits old new past.history
      → LivesOnBy b past (served past.plans visits) new
  served_lives past visits old new only leads c may =
      lived_on past leads.after (served past.plans visits) c tt
      (run_stays past.plans past.history leads.after visits leads.run)
      (λ class. refl, leads.run)
      (elim (leads.leaves c may) [
        | inl left ↦ left
        | inr (same, was) ↦ inl (subst (Stands past.plans c) (sym same) (only c was))
      ])

  imported_lives : (config : Config) (moment : ℕ) (text : Option (List ℕ)) (past : Past)
      (stopped : Option Stopped) (report : ImportReport) (old new : B)
      → past.plans ≡ config.plans → LeavesOnly b past old
      → (run : Imports b config.plans moment text past.history stopped report old new)
      → LivesOnBy b past (imported config moment run.rows run.outcomes run.tried) new
  imported_lives config moment text past stopped report old new same only run c may =
      let span : Span = imported config moment run.rows run.outcomes run.tried in
      lived_on past run.after span c tt
      (lines_stay config.plans moment past.history run.after run.rows run.outcomes run.run)
      (λ class. ap (λ plans. plan_for plans class) (sym same), run.run)
      (subst (λ plans. MayLeave plans run.after (HasTried span) c) (sym same)
      (may_leave config moment run.rows run.outcomes run.tried run.after c
      (run.moves.leaves
      (λ x left. subst (λ plans. Stands plans x past.history) same (only x left)) c may)))

  extended_or_not : (past : Past) (more : List Plan) (old new : B)
      → MayExtend past.plans more → Stands past.plans (b.content old) past.history
      → LeavesOnly b past old → AddsAtMost b more old new → b.is_sound new
      → (c : Content) → b.left new c
      → Stands past.plans c past.history ⊎ IsLivedOn past (extended more) c
  extended_or_not past more old new may stood only adds sound c left =
      elim (adds.leaves sound c left) [
        | inl before ↦ inl (only c before)
        | inr is ↦ inr (subst (IsLivedOn past (extended more)) (sym is)
            (extended_lives past more (b.content old) may stood))
      ]

  carried_or_not : {T E : Type 0} (past : Past) (selection : SelectionFacts) (old new : B)
      (result : Result T E) → StoodFor b past.plans old past.history → LeavesOnly b past old
      → CarriesOn b selection past.plans old new result → b.is_sound new
      → (c : Content) → b.left new c → IsCarriedAlong past selection c
  carried_or_not past selection old new result stood only carries sound c left =
      carried_lives past selection c (elim (carries.leaves sound c left) [
        | inl before ↦ ([], past.history, refl, only c before)
        | inr (was_open, after) ↦ after past.history (stood was_open)
      ])

  carried_open : {T E : Type 0} (past : Past) (selection : SelectionFacts) (old new : B)
      (result : Result T E) → StoodFor b past.plans old past.history
      → CarriesOn b selection past.plans old new result → b.is_open new
      → IsCarriedAlong past selection (b.content new)
  carried_open past selection old new result stood carries still =
      carried_lives past selection (b.content new)
      (carries.stands still past.history (stood (carries.was_open still)))

  pub stops_lived : {T E : Type 0} → StopsAreLived b T E
  stops_lived = record {
    served_so_far = served_lives;
    imported_so_far = imported_lives;
    extended_at_once = extended_lives;
    extended_so_far = extended_or_not;
    carried_at_once = carried_open;
    carried_so_far = carried_or_not;
    started = λ these those content history alike. same-stands these those content history
        (same_plans these those alike);
  }
