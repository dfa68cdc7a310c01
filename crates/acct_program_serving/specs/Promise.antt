-- The promise of `serve` in one statement: however it ran and ended, every balance is right.
use Rattle.std.specs.Prelude.{ℕ, List, [], Option, Result}
use Rattle.std.proofs.Common.{inl, inr}
use Rattle.acct_model.specs.History.{History}
use Rattle.acct_book.specs.declared.book.Book as book
use Rattle.acct_book.specs.Stands.{Stands}
use Rattle.acct_site.specs.declared.config.Config.{Config}
use Rattle.acct_service.specs.declared.exchange.Exchange as exchange
use Rattle.acct_service.specs.Machine.{Visit}
use Rattle.acct_service.specs.Promise.{EveryBalanceIsRight}
use Rattle.acct_service.specs.Slices.{visits_in}
use Rattle.acct_program.specs.declared.status.Status.{Status}
use Rattle.acct_program_args.specs.declared.job.Listening.{Listening}
use Rattle.acct_program_args.specs.declared.job.Serving.{Serving}
use Rattle.acct_program_commands.specs.Names.{NamesSeen}
use Rattle.acct_program_commands.specs.Sights.{Poll}
use Rattle.acct_program_commands.specs.declared.fault.Fault.{Fault}
use Rattle.acct_program_serving.specs.Serving.{EndsAfresh, RunsServer}
use Rattle.acct_program_serving.specs.declared.ended.Ended.{Ended}
use Rattle.acct_program_serving.specs.declared.ended.Ended.TheVariants as how

module _ {B X : Type 0} (b : book.Ghosts B) (x : exchange.Ghosts X)
    (Put : List ℕ → List ℕ → Type 0) (IsBound : X → Type 0)
    (text : Option (List ℕ)) (polls : Option (List Poll)) (moments : Option (List ℕ))
    (serving : Serving) (config : Config) (printed after : Option (List ℕ)) (old new : B) where
  -- the visits of a server that ended this way: none before its first turn
  abbrev pub visits_at : (names : NamesSeen) (last : X) (ended : Ended)
      → EndsAfresh b x Put IsBound text polls moments names serving config old new last printed
      after ended → List Visit
  visits_at names last (how.Told served why) afresh = visits_in afresh.ends.0.run.slices
  visits_at names last (how.Untold served why) afresh = visits_in afresh.ends.run.slices
  visits_at names last how.NotBegun afresh = []

  -- the visits of the command: none if its sockets could not be bound, or its book was moved
  abbrev pub visits_of : (seen : Option NamesSeen) (result : Result Status Fault)
      → RunsServer b x Put IsBound text polls moments seen serving config printed after result old
      new
      → List Visit
  visits_of seen result (inl unbound) = []
  visits_of seen result (inr (inl moved)) = []
  visits_of seen result (inr (inr (ended, is, (names, was, (last, afresh))))) =
      visits_at names last ended afresh

-- However it ran and ended, over an open book whose content stood for a history, if at the end the
-- store is as it promises.
abbrev pub ServesRightly : {B X : Type 0} → book.Ghosts B → exchange.Ghosts X
    → (List ℕ → List ℕ → Type 0) → (Listening → X → Type 0) → Type 0
ServesRightly {B} b x Put IsBound = (text : Option (List ℕ)) (polls : Option (List Poll))
    (moments : Option (List ℕ)) (seen : Option NamesSeen) (serving : Serving) (config : Config)
    (printed after : Option (List ℕ))
    (result : Result Status Fault) (old new : B) (before : History)
    (run : RunsServer b x Put (IsBound serving.listening) text polls moments seen serving config
    printed after result old new)
    → b.is_open old → Stands config.plans (b.content old) before → b.is_sound new
    → EveryBalanceIsRight b config.plans before (visits_of b x Put (IsBound serving.listening)
    text polls moments serving config printed after old new seen result run) new
