-- Slices of turns, one after another.
use Rattle.std.proofs.Common.{◌≡◌, ℕ, List, [], ◌∷◌, ◌++◌, refl, sym, ◌∙◌, ap, subst, arith}
use Rattle.std.proofs.Common.{inl, inr, Bor, Bool, true, false, ◌≢◌, ◌-◌, min}
use Rattle.std.specs.Prelude.{◌+◌, ◌≤◌, ◌<◌, ◌||◌, length, Option, Some, None, Contains, IfSome, unwrap_or}
use Rattle.std.specs.Prelude.{⊤}
use Rattle.std.specs.Option.{option_or, option_copied}
use Rattle.std.proofs.lemmas.List.{map-append, append-nil}
use Rattle.std.proofs.lemmas.List.Elements.{Contains-push_cases}
use Rattle.std.proofs.lemmas.Grind.{flat_map-append}
use Rattle.acct_model.specs.declared.plan.Plan.{Plan}
use Rattle.acct_model.specs.History.{History}
use Rattle.acct_book.specs.declared.book.Book as book
use Rattle.acct_book.specs.Stands.{Stands}
use Rattle.acct_book.specs.Step.{OnlyLooks}
use Rattle.acct_site.specs.declared.config.Config.{Config}
use Rattle.acct_service.specs.declared.exchange.Call.{Call}
use Rattle.acct_service.specs.declared.rounds.Rounds as rounds
use Rattle.acct_service.specs.declared.server.Served.{Served}
use Rattle.acct_service.specs.declared.slices.Until.{Until}
use Rattle.acct_service.specs.declared.slices.Until.TheVariants as until
use Rattle.acct_service.specs.Machine.{Visit, Run}
use Rattle.acct_service.specs.Serving.{Attends, AreUnder, Counts, CountsMore, TakesTurns}
use Rattle.acct_service.specs.Serving.{is_answered}
use Rattle.acct_wire.specs.Reasons.{count_for}
use Rattle.acct_wire.specs.declared.reason.Reason.TheVariants.{Unavailable}
use Rattle.acct_service.specs.Slices.{Slice, site_then, Follow, visits_in, given_in}
use Rattle.acct_service.specs.Slices.{GoRounds, ServesInSlices, AreFull, AreStuck, NoneStuck}
use Rattle.acct_service.specs.Slices.{EndsSo, EachStandsAfter, GoOneByOne, SlicesStand}
use Rattle.std.specs.List.{list_any, sum_by}
use Rattle.std.proofs.lemmas.List.Sums.{sum_by-append}
use Rattle.acct_service.proofs.Visits.{attends_none, attends_join, attends_looked, counts_join}
use Rattle.acct_service.proofs.Visits.{grows_none, run_join}

-- the configuration after the last of the rounds
abbrev pub site_after : Config → List Slice → Config
site_after site [] = site
site_after site (slice ∷ later) = site_after (site_then slice.site slice.given) later

follow_more : (oldest : Option ℕ) (site : Config) (slices : List Slice) (slice : Slice)
    → Follow oldest site slices
    → slice.site ≡ site_after site slices → AreUnder oldest slice.site slice.visits
    → Follow oldest site (slices ++ slice ∷ [])
follow_more oldest site [] slice follow is under =
    (is, subst (λ c. AreUnder oldest c slice.visits) is under, tt)
follow_more oldest site (first ∷ later) slice (same, all, rest) is under =
    let here : site_then first.site first.given ≡ site_then site first.given =
    ap (λ c. site_then c first.given) same in (
      same,
      all,
      follow_more oldest (site_then site first.given) later slice rest
          (is ∙ ap (λ c. site_after c later) here) under,
    )

after_more : (site : Config) (slices : List Slice) (slice : Slice)
    → site_after site (slices ++ slice ∷ []) ≡ site_then slice.site slice.given
after_more site [] slice = refl
after_more site (first ∷ later) slice = after_more (site_then first.site first.given) later slice

-- the configuration that a slice has, as it is looked up
pub site_found : (config : Bor Config) (changed : Option Config) (found : Option (Bor Config))
    → option_copied found ≡ changed
    → (unwrap_or found config).now ≡ unwrap_or changed config.now
site_found config changed None is = ap (λ o. unwrap_or o config.now) is
site_found config changed (Some site) is = ap (λ o. unwrap_or o config.now) is

-- what the loop keeps is the configuration after the round
pub site_kept : (config : Config) (changed gave : Option Config)
    → unwrap_or (option_or gave changed) config ≡ site_then (unwrap_or changed config) gave
site_kept config changed None = refl
site_kept config changed (Some other) = refl

same_then : (plans : List Plan) (site : Config) (given : Option Config) → site.plans ≡ plans
    → IfSome given (λ other. other.plans ≡ site.plans) → (site_then site given).plans ≡ plans
same_then plans site None is all = is
same_then plans site (Some other) is all = all ∙ is

given_same : (plans : List Plan) (site : Config) (given : Option Config) (other : Config)
    → site.plans ≡ plans → IfSome given (λ other. other.plans ≡ site.plans)
    → given ≡ Some other → other.plans ≡ plans
given_same plans site None other is all same = cc
given_same plans site (Some this) other is all same =
    let it : this ≡ other = cc in subst (λ (c : Config). c.plans ≡ plans) it (all ∙ is)

full_more : (limit made : ℕ) (slices : List Slice) (slice : Slice)
    → sum_by (λ (s : Slice). s.turns) slices ≡ made → AreFull limit slices
    → slice.turns ≡ min (limit - made) 256 → length slice.visits ≤ slice.turns
    → AreFull limit (slices ++ slice ∷ [])
full_more limit made [] slice sum all is visits = (omega (arith, sum, is), visits, tt)
full_more limit made (first ∷ later) slice sum (whole, seen, rest) is visits =
    let all = sum_by-append (λ (s : Slice). s.turns) (first ∷ []) later in (
      whole,
      seen,
      full_more (limit - first.turns) (made - first.turns) later slice (omega (arith, sum, all))
          rest (omega (arith, sum, all, is)) visits,
    )

made_more : (slices : List Slice) (slice : Slice)
    → sum_by (λ (s : Slice). s.turns) (slices ++ slice ∷ [])
    ≡ sum_by (λ (s : Slice). s.turns) slices + slice.turns
made_more slices slice =
    omega (arith, sum_by-append (λ (s : Slice). s.turns) slices (slice ∷ []))

-- how a run ends, or goes on, after turns with these visits
abbrev pub EndsAfter : Until → List Visit → Type 0
EndsAfter until.AllMade visits = AreStuck visits → ⊥
EndsAfter until.Shut visits = ⊤
EndsAfter until.Stuck visits = AreStuck visits
EndsAfter until.Over visits = ⊤

none_stuck_more : (slices : List Slice) (slice : Slice) → NoneStuck slices
    → (AreStuck slice.visits → ⊥) → NoneStuck (slices ++ slice ∷ [])
none_stuck_more [] slice none not = (not, tt)
none_stuck_more (first ∷ later) slice (not, none) is =
    (not, none_stuck_more later slice none is)

ends_more : (why : Until) (slices : List Slice) (slice : Slice) → NoneStuck slices
    → EndsAfter why slice.visits → EndsSo why (slices ++ slice ∷ [])
ends_more until.AllMade slices slice none ends = none_stuck_more slices slice none ends
ends_more until.Shut slices slice none ends = (slices, slice, refl, none)
ends_more until.Stuck slices slice none ends = (slices, slice, refl, none, ends)
ends_more until.Over slices slice none ends = (slices, slice, refl, none)

or_false : (a : Bool) → (a || false) ≡ false → a ≡ false
or_false true is = is
or_false false is = refl

or_left : (a : Bool) → a ≡ false → (a || false) ≡ false
or_left true is = is
or_left false is = refl

-- turns are stuck as the counts and the outbox have it
pub stuck_so : (visits : List Visit) (was is : Served) (answered : Bool)
    → CountsMore visits was is → answered ≡ (list_any is_answered visits || false)
    → answered ≡ false → count_for was.dropped Unavailable < count_for is.dropped Unavailable
    → AreStuck visits
stuck_so visits was is answered counts marks none more = (
  omega (arith, counts.dropped Unavailable, more),
  or_false (list_any is_answered visits) (sym marks ∙ none),
)

pub not_stuck_so : (visits : List Visit) (was is : Served) (answered : Bool)
    → CountsMore visits was is → answered ≡ (list_any is_answered visits || false)
    → (answered ≡ false → count_for is.dropped Unavailable ≤ count_for was.dropped Unavailable)
    → AreStuck visits → ⊥
not_stuck_so visits was is answered counts marks few (some, none) =
    omega (
      arith,
      counts.dropped Unavailable,
      some,
      few (marks ∙ or_left (list_any is_answered visits) none),
    )

-- why a run ends, if it ends after a slice
pub ends_early : (why : Until) (found : Option Until) (visits : List Visit) → found ≡ Some why
    → found ≢ Some until.AllMade → (found ≡ Some until.Stuck → AreStuck visits)
    → EndsAfter why visits
ends_early until.AllMade found visits is early stuck = absurd (early is)
ends_early until.Shut found visits is early stuck = tt
ends_early until.Stuck found visits is early stuck = stuck is
ends_early until.Over found visits is early stuck = tt

-- turns in which no event was counted have no visit
none_heard : (visits : List Visit) (was is : Served) → CountsMore visits was is
    → is.events ≡ was.events → visits ≡ []
none_heard [] was is counts same = refl
none_heard (one ∷ more) was is counts same = absurd (omega (arith, counts.events, same))

-- one round more
rounds_more : {R : Type 0} (r : rounds.Ghosts R) (is_open : Type 0) (first then last : R)
    (slices : List Slice) (slice : Slice) → GoRounds r is_open first slices then
    → (slices ≢ [] → r.is_over then ≡ false) → (r.is_silent then ≡ true → slice.visits ≡ [])
    → r.goes then slice.site slice.given last
    → (is_open → r.shows then slice.site slice.content slice.given last)
    → GoRounds r is_open first (slices ++ slice ∷ []) last
rounds_more r is_open first then last [] slice same goes_on silent goes shows = (
  λ is. silent (subst (λ it. r.is_silent it ≡ true) same is),
  last,
  subst (λ it. r.goes it slice.site slice.given last) (sym same) goes,
  λ opened. subst (λ it. r.shows it slice.site slice.content slice.given last) (sym same) (shows opened),
  λ none. absurd (none refl),
  refl,
)
rounds_more r is_open first then last (one ∷ []) slice (quiet, next, went, shown, only, same)
    goes_on silent goes shows = (
      quiet,
      next,
      went,
      shown,
      λ more. subst (λ it. r.is_over it ≡ false) (sym same) (goes_on (λ is. cc)),
      rounds_more r is_open next then last [] slice same (λ none. absurd (none refl)) silent goes
          shows,
    )
rounds_more r is_open first then last (one ∷ second ∷ later) slice
    (quiet, next, went, shown, on, rest) goes_on silent goes shows = (
      quiet,
      next,
      went,
      shown,
      λ more. on (λ is. cc),
      rounds_more r is_open next then last (second ∷ later) slice rest
          (λ more. goes_on (λ is. cc)) silent goes shows,
    )

-- a book that is open later was open before
rounds_later : {R : Type 0} (r : rounds.Ghosts R) (is_open later_open : Type 0)
    (was_open : later_open → is_open) (first : R) (slices : List Slice) (last : R)
    → GoRounds r is_open first slices last → GoRounds r later_open first slices last
rounds_later r is_open later_open was_open first [] last same = same
rounds_later r is_open later_open was_open first (one ∷ later) last
    (quiet, next, went, shown, on, rest) = (
      quiet,
      next,
      went,
      λ opened. shown (was_open opened),
      on,
      rounds_later r is_open later_open was_open next later last rest,
    )

module _ {B : Type 0} (b : book.Ghosts B) (plans : List Plan) where
  -- one slice more
  one_more : (slices : List Slice) (slice : Slice) (old mid turned new : B)
      (told later last : Option (List Call)) → GoOneByOne b plans slices old mid told later
      → (slices ≢ [] → b.is_sound mid → b.is_open mid)
      → Attends b plans slice.visits mid turned later last → slice.content ≡ b.content turned
      → OnlyLooks b turned new → GoOneByOne b plans (slices ++ slice ∷ []) old new told last
  one_more [] slice old mid turned new told later last (same, told_same) opened attends content looks = (
    turned,
    new,
    last,
    subst (λ it. Attends b plans slice.visits it turned told last) same
        (subst (λ it. Attends b plans slice.visits mid turned it last) told_same attends),
    content,
    looks,
    λ none. absurd (none refl),
    (refl, refl),
  )
  one_more (one ∷ []) slice old mid turned new told later last
      (turned₁, next, mid₁, attends₁, content₁, looks₁, opened₁, (same, told_same)) opened attends content
      looks = (
        turned₁,
        next,
        mid₁,
        attends₁,
        content₁,
        looks₁,
        λ more. subst (λ it. b.is_sound it → b.is_open it) same (opened (λ is. cc)),
        one_more [] slice next mid turned new mid₁ later last (same, told_same)
            (λ none. absurd (none refl)) attends content looks,
      )
  one_more (one ∷ second ∷ others) slice old mid turned new told later last
      (turned₁, next, mid₁, attends₁, content₁, looks₁, opened₁, rest) opened attends content looks = (
        turned₁,
        next,
        mid₁,
        attends₁,
        content₁,
        looks₁,
        λ more. opened₁ (λ is. cc),
        one_more (second ∷ others) slice next mid turned new mid₁ later last rest
            (λ more. opened (λ is. cc)) attends content looks,
      )

  -- a book that is open in the end was open before
  was_open : (slices : List Slice) (old new : B) (told later : Option (List Call))
      → GoOneByOne b plans slices old new told later → b.is_open new → b.is_open old
  was_open [] old new told later (same, told_same) opened = subst (λ it. b.is_open it) same opened
  was_open (one ∷ others) old new told later
      (turned, next, mid, attends, content, looks, more, rest) opened =
      attends.keeps.was_open (looks.was_open (was_open others next new mid later rest opened))

  each_stands : (open_sound : (book : B) → b.is_open book → b.is_sound book) (slices : List Slice)
      (seen : List Visit) (old new : B) (told later : Option (List Call)) (history so_far : History)
      → GoOneByOne b plans slices old new told later → b.is_open new
      → Run plans history seen so_far → Stands plans (b.content old) so_far
      → EachStandsAfter plans history seen slices
  each_stands open_sound [] seen old new told later history so_far same opened run stood = tt
  each_stands open_sound (one ∷ others) seen old new told later history so_far
      (turned, next, mid, attends, content, looks, more, rest) opened run stood =
      let next_open = was_open others next new mid later rest opened in
      let still = looks.was_open next_open in
      let it = attends.leads (open_sound turned still) so_far (λ _. stood) in
      let joined = run_join plans history so_far it.after seen one.visits run it.run in (
        (
          it.after,
          joined,
          subst (λ c. Stands plans c it.after) (sym content) (it.stands still),
        ),
        each_stands open_sound others (seen ++ one.visits) next new mid later history it.after rest opened joined
            (subst (λ c. Stands plans c it.after) (sym (looks.same next_open)) (it.stands still)),
      )

-- the law on slices
pub slices_stand : {B : Type 0} (b : book.Ghosts B)
    (open_sound : (book : B) → b.is_open book → b.is_sound book) → SlicesStand b
slices_stand b open_sound plans slices old new told later go opened history stood =
    each_stands b plans open_sound slices [] old new told later history history go opened refl stood

-- two reads of the book
looks_twice : {B : Type 0} (b : book.Ghosts B) (old mid new : B) → OnlyLooks b old mid
    → OnlyLooks b mid new → OnlyLooks b old new
looks_twice b old mid new first second = record {
  was_sound = λ sound. first.was_sound (second.was_sound sound);
  was_open = λ opened. first.was_open (second.was_open opened);
  keeps_steady = λ steady. second.keeps_steady (first.keeps_steady steady);
  same = λ opened. second.same opened ∙ first.same (second.was_open opened);
  adds_none = λ sound c left. first.adds_none (second.was_sound sound) c
      (second.adds_none sound c left);
}

module _ {B R : Type 0} (b : book.Ghosts B) (r : rounds.Ghosts R) (oldest : Option ℕ)
    (config : Config) (limit : ℕ) where
  -- how far the slices got: the run so far, and the configuration for the turns that follow
  pub record Reached (old new : B) (old_told new_told : Option (List Call)) (first last : R)
      (site : Config) (made : ℕ) (served : Served) (why : Until) : Type 0 where
    pub so_far : ServesInSlices b oldest config limit old new old_told new_told
        (λ slices. GoRounds r (b.is_open new) first slices last) made served why
    pub site_is : site ≡ site_after config so_far.slices
    -- no round so far has ended the run
    pub goes_on : why ≡ until.AllMade → so_far.slices ≢ [] → r.is_over last ≡ false
    -- nor was a sound book found shut
    pub open_is : why ≡ until.AllMade → so_far.slices ≢ [] → b.is_sound new → b.is_open new
    pub plans_are : site.plans ≡ config.plans

  -- before the first slice
  pub reached_none : (book : B) (told : Option (List Call)) (first : R) (served : Served)
      → Counts [] served → Reached book book told told first first config 0 served until.AllMade
  reached_none book told first served counts = record {
    so_far = record {
      slices = [];
      full = tt;
      made = refl;
      ends = tt;
      follow = tt;
      same_plans = λ site (place, within, is). absurd (omega (arith, within));
      went = refl;
      attends = attends_none b config.plans book told told (grows_none told);
      one_by_one = (refl, refl);
      counts = counts;
    };
    site_is = refl;
    goes_on = λ is none. absurd (none refl);
    open_is = λ is none. absurd (none refl);
    plans_are = refl;
  }

  -- one slice more, and the round after it
  reached_more : (old mid looked new : B) (told later last : Option (List Call))
      (first before after : R) (site : Config) (made turns_made : ℕ) (was is : Served)
      (had has : Bool) (gave : Option Config) (why : Until)
      → turns_made ≡ min (limit - made) 256 → is.events ≤ was.events + turns_made
      → Reached old mid told later first before site made was until.AllMade
      → (turns : TakesTurns b oldest site mid looked later last was is had has)
      → (r.is_silent before ≡ true → is.events ≡ was.events)
      → EndsAfter why turns.visits → (why ≡ until.AllMade → r.is_over after ≡ false)
      → (why ≡ until.AllMade → b.is_sound new → b.is_open new) → OnlyLooks b looked new
      → IfSome gave (λ other. other.plans ≡ site.plans) → r.goes before site gave after
      → (b.is_open new → r.shows before site (b.content looked) gave after)
      → Reached old new told last first after (site_then site gave) (made + turns_made) is why
  reached_more old mid looked new told later last first before after site made turns_made was is had
      has gave why few events reached turns silent ends on opened looks plans goes shows =
      let so_far = reached.so_far in
      let slice : Slice = record {
        site = site;
        turns = turns_made;
        visits = turns.visits;
        content = b.content looked;
        given = gave;
      } in
      let these = subst (λ ps. Attends b ps turns.visits mid looked later last) reached.plans_are
      turns.attends in
      let visits_are : visits_in so_far.slices ++ turns.visits
      ≡ visits_in (so_far.slices ++ slice ∷ []) =
      ap (λ vs. visits_in so_far.slices ++ vs) (sym (append-nil turns.visits))
      ∙ sym (flat_map-append (λ (s : Slice). s.visits) so_far.slices (slice ∷ [])) in
      let given_are : given_in so_far.slices ++ gave ∷ []
      ≡ given_in (so_far.slices ++ slice ∷ []) =
      sym (map-append (λ (s : Slice). s.given) so_far.slices (slice ∷ [])) in
      record {
        so_far = record {
          slices = so_far.slices ++ slice ∷ [];
          full = full_more limit made so_far.slices slice so_far.made so_far.full few
              (omega (arith, turns.counts.events, events));
          made = omega (arith, made_more so_far.slices slice, so_far.made);
          ends = ends_more why so_far.slices slice so_far.ends ends;
          follow = follow_more oldest config so_far.slices slice so_far.follow reached.site_is
              turns.under;
          same_plans = λ other at. elim (Contains-push_cases (given_in so_far.slices) gave
              (Some other) (subst (λ gs. Contains gs (Some other)) (sym given_are) at)) [
                | inl earlier ↦ so_far.same_plans other earlier
                | inr same ↦ given_same config.plans site gave other reached.plans_are plans same
              ];
          went = rounds_more r (b.is_open new) first before after so_far.slices slice
              (rounds_later r (b.is_open mid) (b.is_open new)
              (λ still. turns.attends.keeps.was_open (looks.was_open still)) first so_far.slices
              before so_far.went) (reached.goes_on refl)
              (λ is_so. none_heard turns.visits was is turns.counts (silent is_so)) goes shows;
          attends = subst (λ vs. Attends b config.plans vs old new told last) visits_are
              (attends_looked b config.plans (visits_in so_far.slices ++ turns.visits) old looked
              new told last
              (attends_join b config.plans (visits_in so_far.slices) turns.visits old mid looked
              told later last so_far.attends these) looks);
          one_by_one = one_more b config.plans so_far.slices slice old mid looked new told later last
              so_far.one_by_one (reached.open_is refl) these refl looks;
          counts = subst (λ vs. Counts vs is) visits_are
              (counts_join (visits_in so_far.slices) turns.visits was is so_far.counts
              turns.counts);
        };
        site_is = sym (after_more config so_far.slices slice);
        goes_on = λ is some. on is;
        open_is = λ is some. opened is;
        plans_are = same_then config.plans site gave reached.plans_are plans;
      }

  -- a slice, the round after it, and a read of the book after that
  pub reached_slice : (old mid turned looked new : B) (told later last : Option (List Call))
      (first before after : R) (changed gave : Option Config)
      (site : Config) (made turns_made all : ℕ) (was is : Served) (had has : Bool) (why : Until)
      → all ≡ made + turns_made → site ≡ unwrap_or changed config
      → turns_made ≡ min (limit - made) 256 → is.events ≤ was.events + turns_made
      → Reached old mid told later first before (unwrap_or changed config) made was until.AllMade
      → (turns : TakesTurns b oldest site mid turned later last was is had has)
      → (r.is_silent before ≡ true → is.events ≡ was.events)
      → EndsAfter why turns.visits → (why ≡ until.AllMade → r.is_over after ≡ false)
      → (why ≡ until.AllMade → b.is_sound new → b.is_open new) → OnlyLooks b turned looked
      → IfSome gave (λ other. other.plans ≡ site.plans) → r.goes before site gave after
      → (b.is_open looked → r.shows before site (b.content turned) gave after)
      → OnlyLooks b looked new
      → Reached old new told last first after (unwrap_or (option_or gave changed) config) all is why
  reached_slice old mid turned looked new told later last first before after changed gave site made
      turns_made all was is had has why all_is found few events reached turns silent ends on opened
      looks plans goes shows again =
      let now = unwrap_or changed config in
      let then = site_then now gave in
      let (taken, ended) = subst
      (λ c. (t : TakesTurns b oldest c mid turned later last was is had has)
      × EndsAfter why t.visits) found (turns, ends) in
      subst (λ c. Reached old new told last first after c all is why)
      (sym (site_kept config changed gave))
      (subst (λ m. Reached old new told last first after then m is why) (sym all_is)
      (reached_more old mid turned new told later last first before after now made turns_made was is
      had has gave why few events reached taken silent ended on opened
      (looks_twice b turned looked new looks again)
      (subst (λ (c : Config). IfSome gave (λ other. other.plans ≡ c.plans)) found plans)
      (subst (λ c. r.goes before c gave after) found goes)
      (λ still. subst (λ c. r.shows before c (b.content turned) gave after) found
      (shows (again.was_open still)))))
