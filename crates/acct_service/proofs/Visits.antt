-- A server's turns, one after another.
use Rattle.std.proofs.Common.{◌≡◌, ◌≢◌, ◌⊎◌, ◌+◌, ◌≤◌, ℕ, inl, inr, Bool, List, [], ◌∷◌, ◌++◌, refl}
use Rattle.std.proofs.Common.{true, false}
use Rattle.std.proofs.Common.{sym}
use Rattle.std.proofs.Common.{◌∙◌, ap, subst, arith, map, length-append, append_assoc}
use Rattle.std.specs.Prelude.{count_by, cond, Option, Some, None, Contains, ◌||◌}
use Rattle.std.specs.List.{flat_map, list_any}
use Rattle.std.proofs.lemmas.List.Folds.{list_any-append}
use Rattle.std.proofs.lemmas.List.{map-append, append-nil}
use Rattle.std.proofs.lemmas.List.Elements.{Contains-append_left, Contains-append_right}
use Rattle.std.proofs.lemmas.List.Elements.{Contains-append_cases, Contains-push}
use Rattle.std.proofs.lemmas.List.Elements.{Contains-push_cases}
use Rattle.std.proofs.lemmas.List.Sums.{sum_by-append}
use Rattle.std.proofs.lemmas.Grind.{flat_map-append}
use Rattle.acct_model.specs.declared.plan.Plan.{Plan}
use Rattle.acct_model.specs.declared.entry.Entry.{Entry}
use Rattle.acct_model.specs.History.{History}
use Rattle.acct_book.specs.declared.book.Book.{Ghosts}
use Rattle.acct_book.specs.Content.{Content}
use Rattle.acct_book.specs.Effect.{after_effect, failed}
use Rattle.acct_book.specs.Stands.{Stands}
use Rattle.acct_book.specs.Step.{OnlyLooks}
use Rattle.acct_book.proofs.Crashes.{Leaves, left_by}
use Rattle.acct_desk_pages.specs.Responses.{unavailable_response}
use Rattle.acct_site.specs.declared.config.Config.{Config}
use Rattle.acct_service.specs.declared.event.Event.{Event}
use Rattle.acct_service.specs.declared.exchange.Call.{Call}
use Rattle.acct_service.specs.declared.server.Served.{Served}
use Rattle.acct_service.specs.Machine.{Answer, replied, Visit, Run, TakesStep, IsAnswered}
use Rattle.acct_service.specs.Machine.{AsksBalance, answers_datagram}
use Rattle.acct_service.specs.Told.{Grows}
use Rattle.acct_service.specs.Serving.{calls_of, is_replied, is_dropped_for, is_mute, is_answered}
use Rattle.acct_service.specs.Serving.{Counts, CountsMore, HasFailed, MayLeave, Leads, Attends}
use Rattle.acct_service.specs.Serving.{TakesTurn, TakesTurns, Serves, Keeps, AtMost, IsUnder}
use Rattle.acct_service.specs.Serving.{AreUnder}

-- two runs are one
pub run_join : (plans : List Plan) (history mid after : History) (visits more : List Visit)
    → Run plans history visits mid → Run plans mid more after
    → Run plans history (visits ++ more) after
run_join plans history mid after [] more is run =
    subst (λ h. Run plans h more after) is run
run_join plans history mid after (visit ∷ visits) more (next, step, rest) run =
    (next, step, run_join plans next mid after visits more rest run)

-- what is recorded grows twice
pub grows_twice : {C : Type 0} (a b c : Option (List C)) (calls later : List C) → Grows a calls b
    → Grows b later c → Grows a (calls ++ later) c
grows_twice a b None calls later g h = tt
grows_twice a None (Some c) calls later g h = absurd h
grows_twice None (Some b) (Some c) calls later g h = absurd g
grows_twice (Some a) (Some b) (Some c) calls later g h =
    h ∙ ap (λ cs. cs ++ later) g ∙ append_assoc a calls later

-- a turn may record no call
pub grows_none : {C : Type 0} (a : Option (List C)) → Grows a [] a
grows_none None = tt
grows_none (Some a) = sym (append-nil a)

-- what is kept is kept from the first to the last
pub keeps_then : {B : Type 0} (b : Ghosts B) (old mid new : B) → Keeps b old mid
    → Keeps b mid new → Keeps b old new
keeps_then b old mid new first second = record {
  was_sound = λ sound. first.was_sound (second.was_sound sound);
  was_open = λ still. first.was_open (second.was_open still);
  keeps_steady = λ steady. second.keeps_steady (first.keeps_steady steady);
}

count_by-append : {X : Type 0} (p : X → Bool) (xs ys : List X)
    → count_by p (xs ++ ys) ≡ count_by p xs + count_by p ys
count_by-append p xs ys = sum_by-append (λ y. cond (p y) 1 0) xs ys

or_join : (later first before : Bool) → (later || (first || before)) ≡ ((first || later) || before)
or_join true true before = refl
or_join true false before = refl
or_join false true before = refl
or_join false false before = refl

-- a datagram of either list was answered, or one before
answered_join : (visits more : List Visit) (before mid after : Bool)
    → mid ≡ (list_any is_answered visits || before)
    → after ≡ (list_any is_answered more || mid)
    → after ≡ (list_any is_answered (visits ++ more) || before)
answered_join visits more before mid after first second =
    second ∙ ap (λ x. list_any is_answered more || x) first
    ∙ or_join (list_any is_answered more) (list_any is_answered visits) before
    ∙ ap (λ x. x || before) (sym (list_any-append is_answered visits more))

or_none : (a b : Bool) → (a || b) ≡ ((a || false) || b)
or_none true b = refl
or_none false b = refl

-- counts rise by those of more visits
pub counts_join : (visits more : List Visit) (old new : Served) → Counts visits old
    → CountsMore more old new → Counts (visits ++ more) new
counts_join visits more old new counts one = record {
  events = omega (arith, counts.events, one.events, length-append visits more);
  replies = omega (arith, counts.replies, one.replies, count_by-append is_replied visits more);
  dropped =
      λ reason. omega (
        arith,
        counts.dropped reason,
        one.dropped reason,
        count_by-append (is_dropped_for reason) visits more,
      );
  mute = omega (arith, counts.mute, one.mute, count_by-append is_mute visits more);
}

counts_more : (visits more : List Visit) (was now is : Served) → CountsMore visits was now
    → CountsMore more now is → CountsMore (visits ++ more) was is
counts_more visits more was now is first second = record {
  events = omega (arith, first.events, second.events, length-append visits more);
  replies =
      omega (arith, first.replies, second.replies, count_by-append is_replied visits more);
  dropped =
      λ reason. omega (
        arith,
        first.dropped reason,
        second.dropped reason,
        count_by-append (is_dropped_for reason) visits more,
      );
  mute = omega (arith, first.mute, second.mute, count_by-append is_mute visits more);
}

failed_before : (visits more : List Visit) (asked : Entry) → HasFailed visits asked
    → HasFailed (visits ++ more) asked
failed_before visits more asked has =
    subst (λ es. Contains es (failed asked))
    (sym (map-append (λ (v : Visit). v.effect) visits more))
    (Contains-append_left (map (λ (v : Visit). v.effect) visits)
    (map (λ (v : Visit). v.effect) more) (failed asked) has)

failed_after : (visits more : List Visit) (asked : Entry) → HasFailed more asked
    → HasFailed (visits ++ more) asked
failed_after visits more asked has =
    subst (λ es. Contains es (failed asked))
    (sym (map-append (λ (v : Visit). v.effect) visits more))
    (Contains-append_right (map (λ (v : Visit). v.effect) visits)
    (map (λ (v : Visit). v.effect) more) (failed asked) has)

may_leave : (plans : List Plan) (history : History) (tried all : Entry → Type 0) (c : Content)
    → ((asked : Entry) → tried asked → all asked) → MayLeave plans history tried c
    → MayLeave plans history all c
may_leave plans history tried all c each may =
    elim may [
      | inl stands ↦ inl stands
      | inr (asked, was, adds) ↦ inr (asked, each asked was, adds)
    ]

-- what counts nothing is at most 0
pub none_at_most : (served : Served) → Counts [] served → served.faults ≡ 0 → AtMost 0 served
none_at_most served counts none = record {
  events = omega (arith, counts.events);
  replies = omega (arith, counts.replies);
  dropped = λ reason. omega (arith, counts.dropped reason);
  mute = omega (arith, counts.mute);
  faults = omega (arith, none);
}

-- what is at most a number is at most a greater one
pub at_most_greater : (n m : ℕ) (served : Served) → n ≤ m → AtMost n served → AtMost m served
at_most_greater n m served le most = record {
  events = omega (arith, most.events, le);
  replies = omega (arith, most.replies, le);
  dropped = λ reason. omega (arith, most.dropped reason, le);
  mute = omega (arith, most.mute, le);
  faults = omega (arith, most.faults, le);
}

-- what holds of the visits of two lists
of_both : (P : Visit → Type 0) (visits more : List Visit)
    → ((visit : Visit) → Contains visits visit → P visit)
    → ((visit : Visit) → Contains more visit → P visit)
    → (visit : Visit) → Contains (visits ++ more) visit → P visit
of_both P visits more one other visit at =
    elim (Contains-append_cases visits more visit at) [
      | inl before ↦ one visit before
      | inr after ↦ other visit after
    ]

nowhere : (visit : Visit) → Contains [] visit → ⊥
nowhere visit (place, within, is) = omega (arith, within)

of_one : (P : Visit → Type 0) (only visit : Visit) → P only → Contains (only ∷ []) visit → P visit
of_one P only visit holds at =
    elim (Contains-push_cases [] only visit at) [
      | inl none ↦ absurd (nowhere visit none)
      | inr is ↦ subst P is holds
    ]

-- no visit, one, and those of two lists are under one configuration
pub under_none : (oldest : Option ℕ) (config : Config) → AreUnder oldest config []
under_none oldest config visit at = absurd (nowhere visit at)

under_one : (oldest : Option ℕ) (config : Config) (only : Visit) → IsUnder oldest config only
    → AreUnder oldest config (only ∷ [])
under_one oldest config only is visit = of_one (IsUnder oldest config) only visit is

under_both : (oldest : Option ℕ) (config : Config) (visits more : List Visit)
    → AreUnder oldest config visits → AreUnder oldest config more
    → AreUnder oldest config (visits ++ more)
under_both oldest config visits more = of_both (IsUnder oldest config) visits more

module _ {B : Type 0} (b : Ghosts B) (plans : List Plan) where
  -- no visit
  pub attends_none : (book : B) (old_told new_told : Option (List Call))
      → Grows old_told [] new_told → Attends b plans [] book book old_told new_told
  attends_none book old_told new_told grows = record {
    answered = λ visit at. absurd (nowhere visit at);
    leads = λ sound history stood. record {
      after = history;
      run = refl;
      stands = stood;
      leaves = λ c may. inr (refl, may);
    };
    keeps = record {
      was_sound = λ sound. sound;
      was_open = λ still. still;
      keeps_steady = λ steady. steady;
    };
    steady = λ steady visit at. absurd (nowhere visit at);
    told = grows;
  }

  -- what a crash leaves after one visit
  left_by_one : (old new : B) (history : History) (visit : Visit)
      → Leaves b plans old new history visit.effect → (c : Content) → b.left new c
      → MayLeave plans (after_effect history visit.effect) (HasFailed (visit ∷ [])) c
      ⊎ ((after_effect history visit.effect ≡ history) × b.left old c)
  left_by_one old new history visit step c may = elim (step c may) [
    | inl stands ↦ inl (inl stands)
    | inr (same, inl was) ↦ inr (same, was)
    | inr (same, inr (asked, is, adds)) ↦ inl (subst
        (λ h. MayLeave plans h (HasFailed (visit ∷ [])) c) (sym same)
        (inr (
          asked,
          subst (λ e. Contains (visit.effect ∷ []) e) is (Contains-push [] visit.effect),
          adds,
        )))
  ]

  leads_join : (visits more : List Visit) (old mid new : B) (history : History)
      (first : Leads b plans visits old mid history)
      → Leads b plans more mid new first.after
      → Leads b plans (visits ++ more) old new history
  leads_join visits more old mid new history first second = record {
    after = second.after;
    run = run_join plans history first.after second.after visits more first.run second.run;
    stands = second.stands;
    leaves = λ c may. elim (second.leaves c may) [
      | inl left ↦ inl (may_leave plans second.after (HasFailed more)
          (HasFailed (visits ++ more)) c (failed_after visits more) left)
      | inr (same, was) ↦ elim (first.leaves c was) [
        | inl left ↦ inl (subst
            (λ h. MayLeave plans h (HasFailed (visits ++ more)) c) (sym same)
            (may_leave plans first.after (HasFailed visits) (HasFailed (visits ++ more)) c
            (failed_before visits more) left))
        | inr (none, start) ↦ inr (same ∙ none, start)
      ]
    ];
  }

  -- the visits of two runs, one after the other, are those of one
  pub attends_join : (visits more : List Visit) (old mid new : B)
      (told later last : Option (List Call)) → Attends b plans visits old mid told later
      → Attends b plans more mid new later last
      → Attends b plans (visits ++ more) old new told last
  attends_join visits more old mid new told later last first second = record {
    answered = of_both IsAnswered visits more first.answered second.answered;
    leads = λ sound history stood.
        let one = first.leads (second.keeps.was_sound sound) history stood in
        leads_join visits more old mid new history one (second.leads sound one.after one.stands);
    keeps = keeps_then b old mid new first.keeps second.keeps;
    steady = λ steady. of_both
        (λ v. AsksBalance v.site v.event.moment v.event.what
        → v.answer ≢ replied unavailable_response) visits more (first.steady steady)
        (second.steady (first.keeps.keeps_steady steady));
    told =
        subst (λ cs. Grows told cs last) (sym (flat_map-append calls_of visits more))
        (grows_twice told later last (flat_map calls_of visits) (flat_map calls_of more) first.told
        second.told);
  }

  -- after a read of the book
  pub attends_looked : (visits : List Visit) (old mid new : B) (told later : Option (List Call))
      → Attends b plans visits old mid told later → OnlyLooks b mid new
      → Attends b plans visits old new told later
  attends_looked visits old mid new told later a looks = record {
    answered = a.answered;
    leads = λ sound history stood.
        let it = a.leads (looks.was_sound sound) history stood in
        record {
          after = it.after;
          run = it.run;
          stands = λ still. subst (λ c. Stands plans c it.after) (sym (looks.same still))
              (it.stands (looks.was_open still));
          leaves = λ c may. it.leaves c (looks.adds_none sound c may);
        };
    keeps = record {
      was_sound = λ sound. a.keeps.was_sound (looks.was_sound sound);
      was_open = λ still. a.keeps.was_open (looks.was_open still);
      keeps_steady = λ steady. looks.keeps_steady (a.keeps.keeps_steady steady);
    };
    steady = a.steady;
    told = a.told;
  }

module _ {B : Type 0} (b : Ghosts B) (oldest : Option ℕ) (config : Config) where
  -- one visit, whose event was answered so
  pub attends_one : (old new : B) (old_told new_told : Option (List Call)) (event : Event)
      (answer : Answer) (is_taken : Bool)
      (t : TakesStep b oldest config event.moment event.what old new answer)
      → (let visit : Visit = record {
        site = config;
        oldest = oldest;
        event = event;
        answer = answer;
        effect = t.effect;
        is_taken = is_taken;
      } in
      Grows old_told (calls_of visit) new_told
      → Attends b config.plans (visit ∷ []) old new old_told new_told)
  attends_one old new old_told new_told event answer is_taken t grows =
      let visit : Visit = record {
        site = config;
        oldest = oldest;
        event = event;
        answer = answer;
        effect = t.effect;
        is_taken = is_taken;
      } in
      record {
        answered = λ v. of_one IsAnswered visit v t.answers;
        leads = λ sound history stood. record {
          after = after_effect history t.effect;
          run = (
            after_effect history t.effect,
            record {
              under = refl;
              answers = t.answers;
              holds = t.does.holds sound history stood;
              tells = t.tells sound history stood;
              leads = refl;
            },
            refl,
          );
          stands = t.does.stands sound history stood;
          leaves = left_by_one b config.plans old new history visit
              (left_by b config.plans old new t.effect t.does sound history stood);
        };
        keeps = record {
          was_sound = t.does.was_sound;
          was_open = t.does.was_open;
          keeps_steady = t.does.keeps_steady;
        };
        steady = λ steady v. of_one
            (λ v. AsksBalance v.site v.event.moment v.event.what
            → v.answer ≢ replied unavailable_response) visit v (t.steady steady);
        told = subst (λ cs. Grows old_told cs new_told) (sym (append-nil (calls_of visit))) grows;
      }

  -- no turn
  pub turns_none : (book : B) (told : Option (List Call)) (served : Served) (answered : Bool)
      → TakesTurns b oldest config book book told told served served answered answered
  turns_none book told served answered = record {
    visits = [];
    under = under_none oldest config;
    attends = attends_none b config.plans book told told (grows_none told);
    counts = record {
      events = omega arith;
      replies = omega arith;
      dropped = λ reason. omega arith;
      mute = omega arith;
    };
    answered = refl;
  }

  -- one turn more
  pub turns_more : (old mid new : B) (told later last : Option (List Call)) (was now is : Served)
      (before between after : Bool)
      → TakesTurns b oldest config old mid told later was now before between
      → TakesTurn b oldest config mid new later last now is between after
      → TakesTurns b oldest config old new told last was is before after
  turns_more old mid new told later last was now is before between after turns turn = record {
    visits = turns.visits ++ turn.visits;
    under = under_both oldest config turns.visits turn.visits turns.under turn.under;
    attends = attends_join b config.plans turns.visits turn.visits old mid new told later last turns.attends
        turn.attends;
    counts = counts_more turns.visits turn.visits was now is turns.counts turn.counts;
    answered = answered_join turns.visits turn.visits before between after turns.answered
        turn.answered;
  }

  -- a turn in which nothing was received
  pub turn_none : (book : B) (told later : Option (List Call)) (was is : Served) (answered : Bool)
      → Grows told [] later → CountsMore [] was is
      → TakesTurn b oldest config book book told later was is answered answered
  turn_none book told later was is answered grows counts = record {
    visits = [];
    at_most_one = omega arith;
    under = under_none oldest config;
    attends = attends_none b config.plans book told later grows;
    counts = counts;
    answered = refl;
  }

  -- a turn in which an event was received and answered
  pub turn_one : (old new : B) (told later : Option (List Call)) (was is : Served)
      (before after : Bool) (event : Event) (answer : Answer) (is_taken : Bool)
      (t : TakesStep b oldest config event.moment event.what old new answer)
      → (let visit : Visit = record {
        site = config;
        oldest = oldest;
        event = event;
        answer = answer;
        effect = t.effect;
        is_taken = is_taken;
      } in
      Grows told (calls_of visit) later × CountsMore (visit ∷ []) was is
      × (after ≡ (answers_datagram event.what answer || before)))
      → TakesTurn b oldest config old new told later was is before after
  turn_one old new told later was is before after event answer is_taken t (grows, counts, marks) =
      let visit : Visit = record {
        site = config;
        oldest = oldest;
        event = event;
        answer = answer;
        effect = t.effect;
        is_taken = is_taken;
      } in
      record {
        visits = visit ∷ [];
        at_most_one = omega arith;
        under = under_one oldest config visit (refl, refl);
        attends = attends_one old new told later event answer is_taken t grows;
        counts = counts;
        answered = marks ∙ or_none (answers_datagram event.what answer) before;
      }

module _ {B : Type 0} (b : Ghosts B) (config : Config) where
  -- before the first turn
  pub serves_first : (book : B) (told : Option (List Call)) (served : Served) → Counts [] served
      → Serves b config book book told told served
  serves_first book told served counts = record {
    visits = [];
    under = under_none None config;
    attends = attends_none b config.plans book told told (grows_none told);
    counts = counts;
  }

  -- after more turns
  pub serves_more : (old mid new : B) (told later last : Option (List Call)) (was is : Served)
      (before after : Bool) → Serves b config old mid told later was
      → TakesTurns b None config mid new later last was is before after
      → Serves b config old new told last is
  serves_more old mid new told later last was is before after s turns = record {
    visits = s.visits ++ turns.visits;
    under = under_both None config s.visits turns.visits s.under turns.under;
    attends = attends_join b config.plans s.visits turns.visits old mid new told later last s.attends
        turns.attends;
    counts = counts_join s.visits turns.visits was is s.counts turns.counts;
  }
