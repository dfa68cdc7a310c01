-- A run over an exchange is one over any other that counts and records the same.
use Rattle.std.specs.Prelude.{◌≡◌, ◌-◌, ⊤, ℕ, Bool, List, [], ◌∷◌, Option, Some, None}
use Rattle.std.proofs.Common.{◌∙◌, subst, sym, ap}
use Rattle.acct_book.specs.declared.book.Book as book
use Rattle.acct_book.specs.Content.{Content}
use Rattle.acct_book.specs.Step.{OnlyLooks}
use Rattle.acct_site.specs.declared.config.Config.{Config}
use Rattle.acct_service.specs.declared.exchange.Exchange as exchange
use Rattle.acct_service.specs.declared.rounds.Rounds as rounds
use Rattle.acct_service.specs.Slices.{Slice, GoRounds, ServesInSlices}
use Rattle.acct_service.specs.declared.exchange.Call.{Call}
use Rattle.acct_service.specs.declared.server.Served.{Served}
use Rattle.acct_service.specs.declared.slices.Until.{Until}
use Rattle.acct_program_commands.specs.Sights.{Poll}
use Rattle.acct_program_args.specs.declared.job.BalancesFile.{BalancesFile}
use Rattle.acct_program_args.specs.declared.job.Serving.{Serving}
use Rattle.acct_program_args.specs.Orders.{seconds_of}
use Rattle.acct_program_commands.specs.Fresh.{IsDue}
use Rattle.acct_program_commands.specs.Names.{NamesSeen}
use Rattle.acct_program_commands.specs.Placed.{IsPut, PutsBalances}
use Rattle.acct_program_commands.specs.Rounds.{GoesRound, KeepsAt, RoundState, are_away, file_of}
use Rattle.acct_program_commands.specs.Unwritten.{Rewrites}
use Rattle.acct_program_commands.specs.declared.balances_file.KeptBalances.{KeptBalances}
use Rattle.acct_program_serving.specs.Files.{Begins, IsKept, HasKept}
use Rattle.acct_program_serving.specs.declared.ended.Ended.{Ended}
use Rattle.acct_program_serving.specs.declared.ended.Ended.TheVariants as how
use Rattle.acct_program_serving.specs.Runs.{Ran}
use Rattle.acct_program_serving.specs.Serving.{EndsOver, EndsAfresh, RoundsAfter}

-- two exchanges count and record the same
pub record Agrees {X Y : Type 0} (x : exchange.Ghosts X) (y : exchange.Ghosts Y) (one : X)
    (other : Y) : Type 0 where
  pub turns : y.turn_count other ≡ x.turn_count one
  pub failures : y.failure_count other ≡ x.failure_count one
  pub told : y.told other ≡ x.told one

module _ {B X Y : Type 0} (b : book.Ghosts B) (x : exchange.Ghosts X) (y : exchange.Ghosts Y)
    (oldest : Option ℕ) (config : Config) (turns : ℕ) (Went : List Slice → Type 0) (old new : B)
    (first last : X)
    (given back : Y) (starts : Agrees x y first given) (stops : Agrees x y last back) where
  pub ran_so : (served : Served) (why : Until)
      → Ran b x oldest config turns Went old new first last served why
      → Ran b y oldest config turns Went old new given back served why
  ran_so served why ran = record {
    turns_made = rw (starts.turns, stops.turns) ran.turns_made;
    shut = ran.shut;
    stuck = ran.stuck;
    open_is = ran.open_is;
    faults = rw (starts.failures, stops.failures) ran.faults;
    run = rw (starts.told, stops.told, starts.turns, stops.turns) ran.run;
  }

-- an end over an exchange is one over any other that counts and records the same
module _ {B X Y : Type 0} (b : book.Ghosts B) (x : exchange.Ghosts X) (y : exchange.Ghosts Y)
    (oldest : Option ℕ) (config : Config) (turns : ℕ) (Went : List Slice → Type 0) (old new : B)
    (first last : X)
    (given back : Y) (starts : Agrees x y first given) (stops : Agrees x y last back) where
  pub ends_so : (before after : Option (List ℕ)) (ended : Ended)
      → EndsOver b x oldest config turns Went old new first last before after ended
      → EndsOver b y oldest config turns Went old new given back before after ended
  ends_so before after (how.Told served why) (ran, printed) = (
    ran_so b x y oldest config turns Went old new first last given back starts stops served why
        ran,
    printed,
  )
  ends_so before after (how.Untold served why) ran =
      ran_so b x y oldest config turns Went old new first last given back starts stops served why ran
  ends_so before after how.NotBegun (same_book, unasked) = (
    same_book,
    record {
      turns = stops.turns ∙ unasked.turns ∙ sym starts.turns;
      failures = stops.failures ∙ unasked.failures ∙ sym starts.failures;
      told = stops.told ∙ unasked.told ∙ sym starts.told;
    },
  )

-- rounds whose state goes on so go on so
pub rounds_after : {R : Type 0} (r : rounds.Ghosts R) (Put : List ℕ → List ℕ → Type 0)
    (is_open : Type 0) (known : R → RoundState)
    (each : (old : R) (config : Config) (gave : Option Config) (new : R)
    → r.goes old config gave new
    → GoesRound (λ name. IsPut (Put name)) config.plans (known old) gave (known new))
    (shown : (old : R) (config : Config) (content : Content) (gave : Option Config) (new : R)
    → r.shows old config content gave new
    → GoesRound (λ name. PutsBalances (Put name) content ⊤) config.plans (known old)
    gave (known new))
    (quiet : (x : R) → r.is_silent x ≡ are_away (known x).names)
    (first : R) (slices : List Slice) (last : R) → GoRounds r is_open first slices last
    → RoundsAfter Put is_open (known first) slices (known last)
rounds_after r Put is_open known each shown quiet first [] last same = ap known same
rounds_after r Put is_open known each shown quiet first (slice ∷ later) last
    (silent, next, goes, shows, on, rest) = (
      λ away. silent (quiet first ∙ away),
      known next,
      each first slice.site slice.given next goes,
      λ opened. shown first slice.site slice.content slice.given next (shows opened),
      rounds_after r Put is_open known each shown quiet next later last rest,
    )

-- a run of slices, whose rounds went another way, too
however : {B : Type 0} (b : book.Ghosts B) (oldest : Option ℕ) (config : Config) (old new : B)
    (told later : Option (List Call)) (Went Goes : List Slice → Type 0)
    (so : (slices : List Slice) → Went slices → Goes slices) (limit made : ℕ) (served : Served) (why : Until)
    → ServesInSlices b oldest config limit old new told later Went made served why
    → ServesInSlices b oldest config limit old new told later Goes made served why
however b oldest config old new told later Went Goes so limit made served why run = record {
  slices = run.slices;
  full = run.full;
  made = run.made;
  ends = run.ends;
  follow = run.follow;
  same_plans = run.same_plans;
  went = so run.slices run.went;
  attends = run.attends;
  one_by_one = run.one_by_one;
  counts = run.counts;
}

module _ {B X : Type 0} (b : book.Ghosts B) (x : exchange.Ghosts X)
    (Put : List ℕ → List ℕ → Type 0) (IsBound : X → Type 0)
    (file : Option (List ℕ)) (polls : Option (List Poll)) (moments : Option (List ℕ))
    (names : NamesSeen) (serving : Serving) (known then : RoundState) (config : Config)
    (before_all old new : B)
    (begins : Begins (λ name. PutsBalances (Put name) (b.content before_all)
    (b.is_open old)) serving.telling.balances file polls moments names known)
    (Went : List Slice → Type 0)
    (so : (slices : List Slice) → Went slices → RoundsAfter Put (b.is_open new) known slices then)
    (looked : OnlyLooks b before_all old) (first last : X)
    (bound : IsBound first) (fresh : x.turn_count first ≡ 0)
    (faultless : x.failure_count first ≡ 0) where
  ran_however : (served : Served) (why : Until)
      → Ran b x (seconds_of serving.oldest_report) config serving.turns Went old new first last
      served why
      → Ran b x (seconds_of serving.oldest_report) config serving.turns
      (λ slices. RoundsAfter Put (b.is_open new) known slices then) old new first last served why
  ran_however served why ran = record {
    turns_made = ran.turns_made;
    shut = ran.shut;
    stuck = ran.stuck;
    open_is = ran.open_is;
    faults = ran.faults;
    run = however b (seconds_of serving.oldest_report) config old new (x.told first) (x.told last)
        Went (λ slices. RoundsAfter Put (b.is_open new) known slices then) so serving.turns
        (x.turn_count last - x.turn_count first) served why ran.run;
  }

  ends_however : (before after : Option (List ℕ)) (ended : Ended)
      → EndsOver b x (seconds_of serving.oldest_report) config serving.turns Went old new first last
      before after ended
      → EndsOver b x (seconds_of serving.oldest_report) config serving.turns
      (λ slices. RoundsAfter Put (b.is_open new) known slices then) old new first last before after
      ended
  ends_however before after (how.Told served why) (ran, printed) =
      (ran_however served why ran, printed)
  ends_however before after (how.Untold served why) ran = ran_however served why ran
  ends_however before after how.NotBegun same = same

  -- a server ended so over an exchange that had made no turn and no fault
  pub ends_afresh : (before after : Option (List ℕ)) (ended : Ended)
      → EndsOver b x (seconds_of serving.oldest_report) config serving.turns Went old new first last
      before after ended
      → EndsAfresh b x Put IsBound file polls moments names serving config before_all new last
      before after ended
  ends_afresh before after ended ends = record {
    begun = old;
    looked = looked;
    first = first;
    bound = bound;
    fresh = fresh;
    faultless = faultless;
    known = known;
    begins = begins;
    then = then;
    ends = ends_however before after ended ends;
  }

-- a file of balances that was first due at a moment, and was written then
pub kept_first : {R : Type 0} (IsPut : List ℕ → Type 0) (named : Option BalancesFile)
    (old new : Option (KeptBalances R)) (moment : ℕ) → IsKept named old
    → KeepsAt IsPut moment (file_of old) (file_of new) → HasKept IsPut named moment (file_of new)
kept_first IsPut None None None moment same keeps = tt
kept_first IsPut None None (Some new) moment same keeps = absurd (cc)
kept_first IsPut None (Some old) new moment same keeps = elim same [ ]
kept_first IsPut (Some file) None new moment same keeps = elim same [ ]
kept_first IsPut (Some file) (Some old) None moment same keeps = elim keeps [ ]
kept_first IsPut (Some file) (Some old) (Some new) moment same (due, idle) =
    subst (λ was. (is_long : Bool) × Rewrites is_long IsPut moment was new.file) same
    (due (subst (λ was. IsDue was.pause was.begun_at moment) (sym same) tt))
