-- The promise of `serve`, by that of the visits of its run.
use Rattle.std.proofs.Common.{◌≡◌, ℕ, List, [], sym, subst, refl, inl, inr, arith}
use Rattle.std.specs.Prelude.{Option, None, Contains}
use Rattle.acct_model.specs.declared.plan.Plan.{Plan}
use Rattle.acct_model.specs.History.{History}
use Rattle.acct_book.specs.declared.book.Book as book
use Rattle.acct_book.specs.Stands.{Stands}
use Rattle.acct_book.specs.Step.{OnlyLooks}
use Rattle.acct_site.specs.declared.config.Config.{Config}
use Rattle.acct_service.specs.declared.exchange.Exchange as exchange
use Rattle.acct_service.specs.declared.exchange.Call.{Call}
use Rattle.acct_service.specs.Machine.{Visit}
use Rattle.acct_service.specs.Promise.{BeganWith, EveryBalanceIsRight, BalancesAreRight}
use Rattle.acct_service.specs.Promise.{OpenBooksBegin}
use Rattle.acct_service.specs.Serving.{Attends}
use Rattle.acct_service.specs.Slices.{visits_in}
use Rattle.acct_program_args.specs.declared.job.Listening.{Listening}
use Rattle.acct_program_args.specs.declared.job.Serving.{Serving}
use Rattle.acct_program_commands.specs.Names.{NamesSeen}
use Rattle.acct_program_commands.specs.Sights.{Poll}
use Rattle.acct_program_serving.specs.Promise.{visits_at, ServesRightly}
use Rattle.acct_program_serving.specs.Serving.{EndsAfresh}
use Rattle.acct_program_serving.specs.declared.ended.Ended.{Ended}
use Rattle.acct_program_serving.specs.declared.ended.Ended.TheVariants as how

nowhere : (visit : Visit) → Contains [] visit → ⊥
nowhere visit (place, within, is) = omega (arith, within)

module _ {B X : Type 0} (b : book.Ghosts B) (x : exchange.Ghosts X)
    (right : BalancesAreRight b) where
  -- no event was received
  attends_none : (plans : List Plan) (book : B) → Attends b plans [] book book None None
  attends_none plans book = record {
    answered = λ visit at. absurd (nowhere visit at);
    leads = λ sound history stood. record {
      after = history;
      run = refl;
      stands = stood;
      leaves = λ c may. inr (refl, may);
    };
    keeps = record {
      was_sound = λ sound. sound;
      was_open = λ still. still;
      keeps_steady = λ steady. steady;
    };
    steady = λ steady visit at. absurd (nowhere visit at);
    told = tt;
  }

  none_right : (plans : List Plan) (before : History) (book : B) → BeganWith b plans before book
      → b.is_sound book → EveryBalanceIsRight b plans before [] book
  none_right plans before book began sound =
      right plans before [] book book None None (attends_none plans book) began sound

  -- a book that was only read began with the same history
  looked_began : (plans : List Plan) (before : History) (old begun : B) → OnlyLooks b old begun
      → BeganWith b plans before old → b.is_sound begun → BeganWith b plans before begun
  looked_began plans before old begun looked (stood, left_so) sound = (
    λ still. subst (λ c. Stands plans c before) (sym (looked.same still))
        (stood (looked.was_open still)),
    λ left may. left_so left (looked.adds_none sound left may),
  )

  -- visits over a book that was read before
  after_look : (plans : List Plan) (before : History) (visits : List Visit) (old begun new : B)
      (told later : Option (List Call)) → OnlyLooks b old begun
      → Attends b plans visits begun new told later → BeganWith b plans before old
      → b.is_sound new → EveryBalanceIsRight b plans before visits new
  after_look plans before visits old begun new told later looked attends began sound =
      right plans before visits begun new told later attends
      (looked_began plans before old begun looked began (attends.keeps.was_sound sound)) sound

  module _ (Put : List ℕ → List ℕ → Type 0) (IsBound : X → Type 0)
      (text : Option (List ℕ)) (polls : Option (List Poll)) (moments : Option (List ℕ))
      (serving : Serving) (config : Config) (printed after : Option (List ℕ)) (old new : B) where
    ended_right : (names : NamesSeen) (last : X) (ended : Ended) (before : History)
        (it : EndsAfresh b x Put IsBound text polls moments names serving config old new last
        printed after ended) → BeganWith b config.plans before old → b.is_sound new
        → EveryBalanceIsRight b config.plans before (visits_at b x Put IsBound text polls moments
        serving config printed after old new names last ended it) new
    ended_right names last (how.Told served why) before it began sound =
        let run = it.ends.0.run in
        after_look config.plans before (visits_in run.slices) old it.begun new _ _ it.looked
        run.attends began sound
    ended_right names last (how.Untold served why) before it began sound =
        let run = it.ends.run in
        after_look config.plans before (visits_in run.slices) old it.begun new _ _ it.looked
        run.attends began sound
    ended_right names last how.NotBegun before it began sound =
        let same : new ≡ it.begun = it.ends.0 in
        let was : b.is_sound it.begun = subst (λ (one : B). b.is_sound one) same sound in
        subst (λ (one : B). EveryBalanceIsRight b config.plans before [] one) (sym same)
        (none_right config.plans before it.begun
        (looked_began config.plans before old it.begun it.looked began was) was)

  module _ (begins : OpenBooksBegin b) where
    pub serves_rightly : (Put : List ℕ → List ℕ → Type 0)
        (IsBound : Listening → X → Type 0) → ServesRightly b x Put IsBound
    serves_rightly Put IsBound text polls moments seen serving config printed after result old new
        before (inl (told, is, why, same, unprinted)) opened stood sound =
        subst (λ (one : B). EveryBalanceIsRight b config.plans before [] one) (sym same)
        (none_right config.plans before old (begins config.plans before old opened stood)
        (subst (λ (one : B). b.is_sound one) same sound))
    serves_rightly Put IsBound text polls moments seen serving config printed after result old new
        before (inr (inl (names, was, moved, is, looked, unprinted))) opened stood sound =
        none_right config.plans before new (looked_began config.plans before old new looked
        (begins config.plans before old opened stood) sound) sound
    serves_rightly Put IsBound text polls moments seen serving config printed after result old new
        before (inr (inr (ended, is, (names, was, (last, it))))) opened stood sound =
        ended_right Put (IsBound serving.listening) text polls moments serving config printed after
        old new names last ended before it (begins config.plans before old opened stood) sound
