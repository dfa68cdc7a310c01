-- What a run of `forward` did to its book.
use Rattle.std.proofs.Common.{◌≡◌, ◌⊎◌, Bool, true, false, List, [], refl, sym, ap, ◌∙◌, subst, inl}
use Rattle.std.proofs.Common.{inr, true≢false}
use Rattle.std.specs.Prelude.{Result, Ok, Err, OnOk, is_some}
use Rattle.acct_model.specs.declared.plan.Plan.{Plan}
use Rattle.acct_book.specs.declared.book.Book.{Ghosts}
use Rattle.std.specs.Io.KnownBytes.{Appends}
use Rattle.std.proofs.KnownBytes.{Appends-trans}
use Rattle.acct_book_forward.specs.Carrying.{SelectionFacts, CarriesOn, CountsOn, CountsUpTo}
use Rattle.acct_book.specs.Content.{Content, HasOwnKeys}
use Rattle.acct_book.specs.Row.{RowFacts}
use Rattle.acct_book.specs.declared.key.Key.{Key}
use Rattle.acct_book.specs.Stands.{Stands}
use Rattle.acct_book.specs.Step.{OnlyLooks}
use Rattle.acct_book_forward.proofs.CarriedOn.{counts_since, counts_up, joined_on, told_on}
use Rattle.acct_program_args.specs.declared.job.Carrying.{Carrying}
use Rattle.acct_program_commands.specs.Forwarding.{selected, Forwards, LiesFarBack, IsTimely}
use Rattle.acct_program_commands.specs.Forwarding.{IsHeardOf, IsHeardIn, MayCarry}
use Rattle.acct_program_commands.specs.Survey.{CountsAll, Lists, TellsForward, totals_text}
use Rattle.acct_program_commands.specs.declared.forward_command.Totals.{Totals}
use Rattle.std.proofs.Common.{ℕ, Option, Some, ◌≢◌, arith}

-- calls that only read carry nothing
only_on : {B T E : Type 0} (b : Ghosts B) (selection : SelectionFacts) (plans : List Plan)
    (old new : B) (result : Result T E) → OnlyLooks b old new
    → (b.is_sound new → OnOk result (b.is_open new))
    → CarriesOn b selection plans old new result
only_on b selection plans old new result looks answers = record {
  was_sound = looks.was_sound;
  was_open = looks.was_open;
  keeps_steady = looks.keeps_steady;
  answers = answers;
  stands = λ still history stands.
      ([], history, refl, subst (λ c. Stands plans c history) (sym (looks.same still)) stands);
  leaves = λ sound c may. inl (looks.adds_none sound c may);
}

-- one more session was looked for
pub heard_more : (selection : SelectionFacts) (content : Content) (key : Key)
    (found : Option RowFacts) (moment : ℕ) → HasOwnKeys content → found ≡ content.rows key
    → IsHeardOf selection found moment → IsHeardIn selection content moment
heard_more selection content key found moment own is (row, there, at) =
    let kept : content.rows key ≡ Some row = sym is ∙ there in
    (row, ap content.rows (own.rows key row kept) ∙ kept, at)

-- an answer that says nothing
abbrev nothing : {B : Type 0} → Ghosts B → Result (Unit {0}) (Unit {0})
nothing b = Err tt

-- the book was only read
pub forwards_looked : {B T E : Type 0} (b : Ghosts B) (plans : List Plan) (carrying : Carrying)
    (moment written_at : ℕ) (old new : B) (ended : Result T E) → OnlyLooks b old new
    → (b.is_sound new → OnOk ended (b.is_open new))
    → Forwards b plans carrying moment written_at old new ended
forwards_looked b plans carrying moment written_at old new ended looks answers = record {
  carries = only_on b (selected carrying moment) plans old new ended looks answers;
  dry = λ is. looks;
  far = inl looks;
  timely = inl looks;
}

-- where some would be carried, the clock was confirmed or is timely
pub may_timely : {B : Type 0} (b : Ghosts B) (selection : SelectionFacts) (book : B)
    (is_sure : Bool) (moment written_at carried : ℕ) → carried ≢ 0
    → MayCarry b selection book is_sure moment written_at carried
    → (is_sure ≡ true)
    ⊎ (b.is_sound book → IsTimely selection (b.content book) moment written_at)
may_timely b selection book is_sure moment written_at carried some (inl none) = absurd (some none)
may_timely b selection book is_sure moment written_at carried some (inr timely) = timely

-- sessions were carried
pub forwards_carried : {B T E : Type 0} (b : Ghosts B) (plans : List Plan)
    (carrying : Carrying) (moment written_at : ℕ) (selection : SelectionFacts) (old new : B)
    (ended : Result T E) → carrying.is_dry ≡ false → selection ≡ selected carrying moment
    → LiesFarBack carrying moment
    → (carrying.is_sure ≡ true)
    ⊎ (b.is_sound old → IsTimely selection (b.content old) moment written_at)
    → CarriesOn b selection plans old new ended
    → Forwards b plans carrying moment written_at old new ended
forwards_carried b plans carrying moment written_at selection old new ended wet is lies timely carries =
    record {
      carries = subst (λ s. CarriesOn b s plans old new ended) is carries;
      dry = λ dry. absurd (true≢false (sym dry ∙ wet));
      far = inr lies;
      timely = inr (elim timely [
        | inl sure ↦ inl sure
        | inr is_timely ↦ inr (λ sound. subst (λ s. IsTimely s (b.content old) moment written_at) is
            (is_timely (carries.was_sound sound)))
      ]);
    }

-- it was read twice
looks_both : {B : Type 0} (b : Ghosts B) (old mid new : B) → OnlyLooks b old mid
    → OnlyLooks b mid new → OnlyLooks b old new
looks_both b old mid new looks more = record {
  was_sound = λ sound. looks.was_sound (more.was_sound sound);
  was_open = λ still. looks.was_open (more.was_open still);
  keeps_steady = λ steady. more.keeps_steady (looks.keeps_steady steady);
  same = λ still. more.same still ∙ looks.same (more.was_open still);
  adds_none = λ sound c left. looks.adds_none (more.was_sound sound) c
      (more.adds_none sound c left);
}

-- it was read, and then sessions were carried or not
pub forwards_then : {B T U E F : Type 0} (b : Ghosts B) (plans : List Plan)
    (carrying : Carrying) (moment written_at : ℕ) (old mid new : B) (r : Result U F)
    (ended : Result T E) → OnlyLooks b old mid → (b.is_sound mid → b.is_open mid)
    → Forwards b plans carrying moment written_at mid new r
    → (b.is_sound new → OnOk ended (b.is_open new))
    → Forwards b plans carrying moment written_at old new ended
forwards_then b plans carrying moment written_at old mid new r ended looks still f answers = record {
  carries = told_on b (selected carrying moment) plans old new r ended
      (joined_on b (selected carrying moment) plans old mid new (nothing b) r
      (only_on b (selected carrying moment) plans old mid (nothing b) looks (λ sound. tt))
      f.carries) answers;
  dry = λ is. looks_both b old mid new looks (f.dry is);
  far = elim f.far [
    | inl more ↦ inl (looks_both b old mid new looks more)
    | inr lies ↦ inr lies
  ];
  timely = elim f.timely [
    | inl more ↦ inl (looks_both b old mid new looks more)
    | inr (inl sure) ↦ inr (inl sure)
    | inr (inr is_timely) ↦ inr (inr (λ sound.
        subst (λ c. IsTimely (selected carrying moment) c moment written_at)
        (looks.same (still (f.carries.was_sound sound))) (is_timely sound)))
  ];
}

-- calls that only read carried no session
pub looked_on : {B : Type 0} (b : Ghosts B) (selection : SelectionFacts) (plans : List Plan)
    (old new : B) → OnlyLooks b old new → CountsOn b selection plans old new 0
looked_on b selection plans old new looks still history stands =
    ([], history, refl, subst (λ c. Stands plans c history) (sym (looks.same still)) stands, refl)

-- first the book was read, and then so many sessions were carried
pub looked_then : {B : Type 0} (b : Ghosts B) (selection : SelectionFacts) (plans : List Plan)
    (old mid new : B) (count : ℕ) → OnlyLooks b old mid → (b.is_open new → b.is_open mid)
    → CountsUpTo b selection plans mid new count → CountsUpTo b selection plans old new count
looked_then b selection plans old mid new count looks was counts =
    counts_since b selection plans old mid new count was
    (looked_on b selection plans old mid looks) counts

-- so many sessions were carried, and then the book was only read
pub counts_still : {B : Type 0} (b : Ghosts B) (selection : SelectionFacts) (plans : List Plan)
    (old mid new : B) (count : ℕ) → (b.is_open new → b.is_open mid)
    → CountsUpTo b selection plans old mid count → CountsUpTo b selection plans mid new 0
    → CountsUpTo b selection plans old new count
counts_still b selection plans old mid new count was first second still history stands =
    let (these, later, chosen, there, few) = first (was still) history stands in
    counts_up b selection plans old mid new count 0 count was (omega (arith, few)) first second
    still history stands

-- an answer is one
pub ok_same : {E : Type 0} (one other : Totals) (is : Result Totals E) → is ≡ Ok one
    → is ≡ Ok other → one ≡ other
ok_same one other is same also = cc

module _ {B : Type 0} (b : Ghosts B) (plans : List Plan) (carrying : Carrying) (moment : ℕ)
    (old mid new : B) (first second third : Option (List ℕ)) (found totals : Totals) where
  abbrev wanted : SelectionFacts
  wanted = selected carrying moment

  -- what was listed, and then the totals
  pub tells_forward : OnlyLooks b old mid → (b.is_open new → b.is_open mid)
      → (b.is_open mid → CountsAll wanted (b.content old) found)
      → (b.is_open mid → (text : List ℕ) × Lists (is_some carrying.silent) wanted (b.content old) text
      × Appends first second text)
      → (carrying.is_dry ≡ true → totals ≡ found)
      → (found.sessions.carried ≡ 0 → totals ≡ found)
      → (carrying.is_dry ≡ false → CountsUpTo b wanted plans mid new totals.sessions.carried)
      → Appends second third (totals_text carrying.is_dry totals)
      → b.is_open new → TellsForward b plans carrying moment first third old new
  tells_forward looks was counts lists dry none carried printed still =
      let (text, listed, appends) = lists (was still) in
      record {
        listed = text;
        lists = listed;
        found = found;
        counts = counts (was still);
        totals = totals;
        printed = Appends-trans first second third text (totals_text carrying.is_dry totals)
            appends printed;
        dry = dry;
        none = none;
        carried = λ wet. looked_then b wanted plans old mid new totals.sessions.carried looks was
            (carried wet);
      }
