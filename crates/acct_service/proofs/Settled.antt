-- A life in which all is acknowledged is possible; and the law.
use Rattle.std.proofs.Common.{◌≡◌, ◌⊎◌, inl, inr, true, List, [], ◌∷◌, ◌++◌, refl, sym, ap}
use Rattle.std.proofs.Common.{subst, ◌∙◌, None}
use Rattle.std.proofs.lemmas.Grind.{flat_map-append}
use Rattle.std.proofs.lemmas.List.Elements.{Contains-append_left, Contains-append_right}
use Rattle.std.specs.Prelude.{Contains}
use Rattle.acct_model.specs.declared.plan.Plan.{Plan}
use Rattle.acct_model.specs.declared.entry.Entry.{Entry}
use Rattle.acct_model.specs.declared.entry.Entry.TheVariants as entry
use Rattle.acct_model.specs.Plans.{plans_added}
use Rattle.acct_model.specs.History.{Accepted, PlansAdded, History}
use Rattle.acct_model.specs.Claims.{OfTopUp, topup_claim, IsConsistent, ClaimsNoMore}
use Rattle.acct_model.specs.Agreement.{AddsForNone, BalancesAreEqual}
use Rattle.acct_model.proofs.Lists.{here, nowhere, front_or_behind, from_map, to_map}
use Rattle.acct_model.proofs.Claimed.{claim_of_topup}
use Rattle.acct_model.proofs.Agree.{covers-claimed}
use Rattle.acct_book.specs.Effect.{added, Holds}
use Rattle.acct_site.specs.declared.config.Config.{Config}
use Rattle.acct_files.specs.declared.import_report.Outcome.TheVariants as outcome
use Rattle.acct_files.specs.Importing.{Becomes}
use Rattle.acct_service.specs.Machine.{Visit, replied}
use Rattle.acct_service.specs.Life.{Span, served, imported, extended, Past, made_with, MayExtend}
use Rattle.acct_service.specs.Life.{LivesOn, Chain, Life, NoneIsLate, LifeInTime, listed}
use Rattle.acct_service.specs.Life.{acknowledged_line, acknowledged_in, acknowledged}
use Rattle.acct_service.specs.Settling.{IsDelivered, CanBeServed, CanBeImported, CanBeSent}
use Rattle.acct_service.specs.Settling.{uncarried, HasSameTopUps, MayComeAgain}
use Rattle.acct_service.specs.Settling.{LifeSettles, IsKept, history_of}
use Rattle.acct_service.proofs.Aside.{stays_plain, HaveSameReports, reports_same, life_alike}
use Rattle.acct_service.proofs.InForce.{plans_are_told}
use Rattle.acct_service.proofs.Kept.{topups_same, life_has_kept}
use Rattle.acct_service.proofs.Lives.{settles, kept_claims}
use Rattle.acct_service.proofs.Names.{none_late}
use Rattle.acct_service.proofs.Resent.{IsOrderly, orderly_none, span_orderly, comes_again}
use Rattle.acct_service.proofs.Spans.{chain_invariant, chain_of}

-- a history under the plans of a configuration
abbrev past : Config → History → Past
past config history = uncarried config.plans history

-- a span in which the entry is added and acknowledged
record AddsIn (config : Config) (older : History) (e : Entry) : Type 0 where
  span : Span
  lives : LivesOn (past config older) span (past config (Accepted e ∷ older))
  acknowledges : Contains (acknowledged_in span) e

served_in : (config : Config) (older : History) (e : Entry)
    → Holds config.plans older (added e) → CanBeServed config e → AddsIn config older e
served_in config older e holds (event, octets, answers) =
    let visit : Visit = record {
      site = config;
      oldest = None;
      event = event;
      answer = replied octets;
      effect = added e;
      is_taken = true;
    } in
    record {
      span = served config.plans (visit ∷ []);
      lives = (
        Accepted e ∷ older,
        (
          λ class. refl,
          (
            Accepted e ∷ older,
            record {
              under = refl;
              answers = answers;
              holds = holds;
              tells = λ is. cc;
              leads = refl;
            },
            refl,
          ),
        ),
        refl,
        inl refl,
        ((Accepted e ∷ [], refl, refl), refl),
      );
      acknowledges = here e [];
    }

imported_in : (config : Config) (older : History) (e : Entry)
    → Holds config.plans older (added e) → CanBeImported e → AddsIn config older e
imported_in config older e holds (moment, fields, topup, asks, is) = record {
  span = imported config moment (fields ∷ []) (outcome.Added ∷ []) None;
  lives = (
    Accepted e ∷ older,
    (
      λ class. refl,
      (
        added e,
        subst (λ asked. Becomes asked outcome.Added (added e)) (sym asks) (ap added is),
        holds,
        refl,
      ),
    ),
    refl,
    inl refl,
    ((Accepted e ∷ [], refl, refl), refl),
  );
  acknowledges =
      subst (λ asked. Contains (listed (acknowledged_line asked outcome.Added) ++ []) e)
      (sym asks) (subst (λ x. Contains (entry.TopUp topup ∷ []) x) (sym is)
      (here (entry.TopUp topup) []));
}

added_in : (config : Config) (older : History) (e : Entry)
    → Holds config.plans older (added e) → CanBeServed config e ⊎ CanBeImported e
    → AddsIn config older e
added_in config older e holds way =
    elim way [
      | inl by ↦ served_in config older e holds by
      | inr by ↦ imported_in config older e holds by
    ]

-- a chain continues by one step
chain_more : {X S : Type 0} (Step : X → S → X → Type 0) (old mid new : X)
    (steps : List S) (step : S) → Chain Step old steps mid
    → Step mid step new → Chain Step old (steps ++ step ∷ []) new
chain_more Step old mid new [] step is last =
    (new, subst (λ x. Step x step new) is last, refl)
chain_more Step old mid new (first ∷ steps) step (next, one, rest) last =
    (next, one, chain_more Step next mid new steps step rest last)

-- a life that ends with what was sent, all of which it acknowledges
record Delivers (config : Config) (sent : History) : Type 0 where
  plans : List Plan
  spans : List Span
  life : Life (made_with plans) spans (past config sent)
  all : (e : Entry) → Contains sent (Accepted e) → Contains (acknowledged spans) e

delivers_more : (config : Config) (older : History) (e : Entry) → Delivers config older
    → AddsIn config older e → Delivers config (Accepted e ∷ older)
delivers_more config older e before adds = record {
  plans = before.plans;
  spans = before.spans ++ adds.span ∷ [];
  life = chain_more LivesOn (made_with before.plans) (past config older)
      (past config (Accepted e ∷ older)) before.spans adds.span before.life adds.lives;
  all = λ x at. subst (λ es. Contains es x)
      (sym (flat_map-append acknowledged_in before.spans (adds.span ∷ [])))
      (elim (front_or_behind (Accepted e) (Accepted x) older at) [
        | inl same ↦ let is : e ≡ x = cc in
            Contains-append_right (acknowledged before.spans)
            (acknowledged_in adds.span ++ []) x
            (Contains-append_left (acknowledged_in adds.span) [] x
            (subst (λ v. Contains (acknowledged_in adds.span) v) is adds.acknowledges))
        | inr behind ↦ Contains-append_left (acknowledged before.spans)
            (acknowledged_in adds.span ++ []) x (before.all x behind)
      ]);
}

-- the same after an addition of plans
delivers_under : (config : Config) (older : History) (plans more : List Plan)
    → MayExtend plans config.plans → more ≡ plans_added plans config.plans
    → Delivers (record config { plans = plans }) older
    → Delivers config (PlansAdded more ∷ older)
delivers_under config older plans more may is before = record {
  plans = before.plans;
  spans = before.spans ++ extended config.plans ∷ [];
  life = chain_more LivesOn (made_with before.plans)
      (uncarried plans older) (past config (PlansAdded more ∷ older))
      before.spans (extended config.plans) before.life (
        PlansAdded more ∷ older,
        (may, ap (λ added. PlansAdded added ∷ older) is),
        refl,
        inl refl,
        ((PlansAdded more ∷ [], refl, refl), refl),
      );
  all = λ x at. subst (λ es. Contains es x)
      (sym (flat_map-append acknowledged_in before.spans (extended config.plans ∷ [])))
      (elim (front_or_behind (PlansAdded more) (Accepted x) older at) [
        | inl same ↦ absurd (cc same)
        | inr behind ↦ Contains-append_left (acknowledged before.spans) [] x
            (before.all x behind)
      ]);
}

delivers : (config : Config) (sent : History) → CanBeSent config sent → Delivers config sent
delivers config [] fine = record {
  plans = config.plans;
  spans = [];
  life = refl;
  all = λ e none. absurd (nowhere (Accepted e) none);
}
delivers config (Accepted e ∷ older) (holds, way, before) =
    delivers_more config older e (delivers config older before)
    (added_in config older e holds way)
delivers config (PlansAdded more ∷ older) (plans, may, is, before) =
    delivers_under config older plans more may is
    (delivers (record config { plans = plans }) older before)

possible : (config : Config) (sent : History) → IsConsistent sent → CanBeSent config sent
    → (plans : List Plan) × (spans : List Span)
    × Life (made_with plans) spans (past config sent)
    × IsDelivered config.plans sent (acknowledged spans) sent
possible config sent consistent fine =
    let d = delivers config sent fine in
    let told : ClaimsNoMore sent (history_of (acknowledged d.spans)) =
    kept_claims sent (history_of (acknowledged d.spans))
    (λ e at. inl (to_map Accepted (acknowledged d.spans) e (d.all e at))) in (
      d.plans,
      d.spans,
      d.life,
      (
        λ claim h. h,
        record {
          consistent = consistent;
          topups = λ t h. told (OfTopUp (topup_claim t)) (claim_of_topup sent t h);
          reports = covers-claimed config.plans sent (history_of (acknowledged d.spans)) told;
        },
      ),
    )

-- if acknowledged entries are kept, so is each of their claims
acknowledged_claims : (told : List Entry) (last : History)
    → ((e : Entry) → Contains told e → IsKept last e) → ClaimsNoMore (history_of told) last
acknowledged_claims told last kept = kept_claims (history_of told) last (λ e at.
    let (x, there, same) = from_map Accepted told (Accepted e) at in
    let is : x ≡ e = cc in
    subst (IsKept last) is (kept x there))

-- what holds of each past of a life
record IsSound (at : Past) : Type 0 where
  orderly : IsOrderly at.plans at.history
  topups : HasSameTopUps at
  reports : HaveSameReports at

span_sound : (old new : Past) (span : Span) → LivesOn old span new → IsSound old → IsSound new
span_sound old new span lives sound = record {
  orderly = span_orderly old new span lives sound.orderly;
  topups = topups_same old new span lives sound.topups;
  reports = reports_same old new span lives sound.reports;
}

begun_sound : (plans : List Plan) → IsSound (made_with plans)
begun_sound plans = record {
  orderly = orderly_none plans;
  topups = refl;
  reports = λ name apart. refl;
}

life_resent : (plans : List Plan) (last : Past) (spans : List Span)
    → Life (made_with plans) spans last → MayComeAgain last
life_resent plans last spans life =
    let sound = chain_invariant LivesOn IsSound span_sound (made_with plans) last spans life
    (begun_sound plans) in
    comes_again last sound.orderly sound.topups sound.reports

in_time : (old last : Past) (spans : List Span) → LifeInTime old spans last → Life old spans last
in_time old last spans life =
    chain_of (λ old span new. LivesOn old span new × NoneIsLate old new) LivesOn
    (λ old new span lives. lives.0) old last spans life

settled : (plans : List Plan) (sent : History) (last : Past) (spans : List Span)
    → LifeInTime (made_with plans) spans last → AddsForNone last.whole → AddsForNone sent
    → IsDelivered last.plans sent (acknowledged spans) last.whole
    → BalancesAreEqual last.plans last.history sent
settled plans sent last spans life fresh new delivered account =
    let kept = life_has_kept (made_with plans) last spans refl
    (in_time (made_with plans) last spans life) in
    sym ((life_alike plans last spans life).balances account)
    ∙ settles last.plans sent (acknowledged spans) last.whole fresh new
    (acknowledged_claims (acknowledged spans) last.whole kept.acknowledged) delivered account

pub life_settled : LifeSettles
life_settled = record {
  kept = life_has_kept;
  in_force = plans_are_told;
  settled = settled;
  unmoved = λ plans last spans life account.
      sym ((life_alike plans last spans life).balances account);
  resent = life_resent;
  possible = possible;
  plain = stays_plain;
  late = none_late;
}
