-- What a call does to a book that carries sessions forward.
use Rattle.std.proofs.Common.{◌≡◌, inl, inr, ⊎_elim, ℕ, ◌+◌, ◌*◌, List, [], ◌∷◌, map, refl}
use Rattle.std.proofs.Common.{◌≢◌, Bool, true, ◌<◌, length, arith, sym, ap, ◌∙◌, subst}
use Rattle.std.proofs.lemmas.List.Sums.{sum_by-cons}
use Rattle.std.specs.Prelude.{Option, Some, None}
use Rattle.std.specs.List.{sum_by}
use Rattle.std.specs.Map.{update}
use Rattle.acct_model.specs.Plans.{plan_for}
use Rattle.std.specs.Prelude.{Result, Ok, Err, OnOk, IsErrAnd}
use Rattle.acct_model.specs.declared.plan.Plan.{Plan}
use Rattle.acct_model.specs.Report.{ReportFacts}
use Rattle.acct_model.specs.History.{History}
use Rattle.acct_model.specs.Forward.{forwarded}
use Rattle.acct_book.specs.declared.book.Book.{Ghosts}
use Rattle.acct_book.specs.declared.key.Key.{Key}
use Rattle.acct_book.specs.Row.{RowFacts}
use Rattle.acct_book.specs.Content.{Content, HasOwnKeys, same_key, key_of}
use Rattle.acct_book.specs.Next.{report_key, next_row}
use Rattle.acct_book.specs.Rows.{name_of}
use Rattle.acct_book.specs.Stands.{Stands}
use Rattle.acct_book.specs.Step.{Looks}
use Rattle.acct_book.specs.Book.{Writes}
use Rattle.acct_book.specs.Content.{with_forward, IsNone}
use Rattle.acct_book_forward.specs.Carrying.{is_line}
use Rattle.acct_book_forward.specs.inner.Forwarding.{names_of, blocks_at, blocks_in, IsInto}
use Rattle.acct_book_forward.specs.inner.Forwarding.{HaveRows}
use Rattle.acct_book_forward.specs.inner.Forwarding.{IsCarriedBy, AreCarriedInto, AreIn, AreAllOf}
use Rattle.acct_book_forward.specs.inner.Forwarding.{IsForward, IsAfter, CarriesInto, AreNoLines}
use Rattle.acct_book_forward.specs.Carrying.{IsBare}
use Rattle.acct_book.specs.Step.{OnlyLooks}
use Rattle.acct_model.proofs.Lists.{from_map, nowhere, front_or_behind}
use Rattle.std.proofs.Common.{true≢false, false, cond, Contains}
use Rattle.acct_book_forward.proofs.Forwards.{carried_all, forwards_stand}

-- ---- rows that are in the content

have_rows : (owner class : List ℕ) (at : Key → Option RowFacts) (rows : List RowFacts)
    → AreIn at rows → AreAllOf owner class rows → HaveRows owner class at (map key_of rows)
have_rows owner class at [] are of = tt
have_rows owner class at (row ∷ others) (one, are) (is, of) = (
  (row, one, is.0, is.1),
  have_rows owner class (update same_key at (key_of row) None) others are of,
)

sums_in : (plan : Plan) (at : Key → Option RowFacts) (rows : List RowFacts) → AreIn at rows
    → sum_by (λ row. blocks_at plan (Some row)) rows ≡ blocks_in plan at (map key_of rows)
sums_in plan at [] are = refl
sums_in plan at (row ∷ others) (one, are) =
    sum_by-cons (λ r. blocks_at plan (Some r)) row others
    ∙ (λ i. blocks_at plan (sym one i)
    + sums_in plan (update same_key at (key_of row) None) others are i)

-- A report that carries rows of a content forward does so in that content.
forwards_carry : (plans : List Plan) (content : Content) (plan : Plan) (row : RowFacts)
    (others : List RowFacts) (report : ReportFacts)
    → plan_for plans plan.class ≡ Some plan → 0 < plan.block
    → is_line report.client ≡ true
    → AreIn content.rows (row ∷ others) → AreAllOf report.user plan.class (row ∷ others)
    → IsNone (key_of row ∷ map key_of others) (report_key report)
    → IsForward plan report.user (row ∷ others) (content.rows (report_key report))
    (report_key report) report
    → IsCarriedBy plans content (key_of row ∷ map key_of others)
    (next_row plans (content.rows (report_key report)) report) report
forwards_carry plans content plan row others report planned some line are of apart f = record {
  line = line;
  key = key_of row;
  keys = map key_of others;
  are = refl;
  carries = record {
    apart = apart;
    have = have_rows report.user report.class content.rows (row ∷ others) are
        (subst (λ class. AreAllOf report.user class (row ∷ others)) (sym f.class) of);
    plan = plan;
    plan_is = ap (plan_for plans) f.class ∙ planned;
    some = some;
    blocks = f.blocks;
    into = subst (λ class. IsInto plan report.user class (content.rows (report_key report)) f.blocks)
        (sym f.class) f.holds;
    raised = f.raised
        ∙ ap (λ n. (f.blocks + n) * plan.block) (sums_in plan content.rows (row ∷ others) are);
  };
  bare = f.bare;
  into = refl;
}

-- what the report of `carried_row` does
pub carried_report : (plans : List Plan) (old mid : Content) (plan : Plan)
    (account class : List ℕ) (rows : List RowFacts) (found : Option RowFacts) (into : Key)
    (report : ReportFacts) (row : RowFacts) → mid ≡ old → found ≡ mid.rows into
    → 0 < length rows → AreIn old.rows rows → AreAllOf account class rows
    → is_line into.client ≡ true → IsNone (map key_of rows) into
    → plan_for plans class ≡ Some plan → plan.class ≡ class
    → 0 < plan.block → IsForward plan account rows found into report
    → row ≡ next_row plans found report
    → AreCarriedInto plans old (map key_of rows) row
carried_report plans old mid plan account class [] found into report row same is some stand alike
    line apart planned own block f next = absurd (omega (arith, some))
carried_report plans old mid plan account class (x ∷ others) found into report row same is some stand
    alike line apart planned own block f next =
    let at : found ≡ old.rows (report_key report) =
    is ∙ ap (λ (c : Content). c.rows into) same ∙ ap old.rows (sym f.key) in
    let user : account ≡ report.user = sym f.user in
    let forward : IsForward plan report.user (x ∷ others) (old.rows (report_key report))
    (report_key report) report = record {
      key = refl;
      user = refl;
      class = f.class;
      bare = f.bare;
      blocks = f.blocks;
      holds = subst (λ o. IsInto plan report.user plan.class o f.blocks) at
          (subst (λ a. IsInto plan a plan.class found f.blocks) user f.holds);
      raised = f.raised;
    } in
    let by = forwards_carry plans old plan x others report (ap (plan_for plans) own ∙ planned) block
    (ap (λ (k : Key). is_line k.client) f.key ∙ line)
    stand
    (subst (λ a. AreAllOf a plan.class (x ∷ others)) user
    (subst (λ k. AreAllOf account k (x ∷ others)) (sym own) alike))
    (λ gone there one. apart gone there (sym f.key ∙ one)) forward in (
      report,
      record {
        line = by.line;
        key = by.key;
        keys = by.keys;
        are = by.are;
        carries = by.carries;
        bare = by.bare;
        into = next ∙ ap (λ o. next_row plans o report) at;
      },
    )

-- ---- one call that carries

next_at : (plans : List Plan) (report : ReportFacts) (o : Option RowFacts)
    → ((row : RowFacts) → o ≡ Some row → key_of row ≡ report_key report)
    → key_of (next_row plans o report) ≡ report_key report
next_at plans report None own = refl
next_at plans report (Some row) own = own row refl

-- a key of these is none of them
none_is : (gone : List Key) (key : Key) (keys : List Key) (into : Key) → gone ≡ key ∷ keys
    → IsNone (key ∷ keys) into → IsNone gone into
none_is gone key keys into are apart = subst (λ ks. IsNone ks into) (sym are) apart

-- the row into which sessions are carried is under another key than theirs
pub into_apart : (plans : List Plan) (content : Content) (gone : List Key) (row : RowFacts)
    → HasOwnKeys content → AreCarriedInto plans content gone row → IsNone gone (key_of row)
into_apart plans content gone row own (report, by) =
    let at : key_of row ≡ report_key report =
    ap key_of by.into
    ∙ next_at plans report (content.rows (report_key report))
    (λ r is. own.rows (report_key report) r is) in
    subst (IsNone gone) (sym at) (none_is gone by.key by.keys (report_key report) by.are
    by.carries.apart)

some_plan : (o : Option Plan) (one other : Plan) → o ≡ Some one → o ≡ Some other → one ≡ other
some_plan o one other this that = let same : Some one ≡ Some other = sym this ∙ that in cc

-- the row of a key that is still there is not that of the key that was taken out
still_there : (at : Key → Option RowFacts) (key k : Key) (row : RowFacts) (b : Bool)
    → same_key key k ≡ b → cond b None (at k) ≡ Some row → at k ≡ Some row
still_there at key k row true same is = absurd (cc)
still_there at key k row false same is = is

-- each of the keys has a row of the account and the class
own_row : (owner class : List ℕ) (at : Key → Option RowFacts) (keys : List Key) (k : Key)
    → HaveRows owner class at keys → Contains keys k
    → (row : RowFacts) × (at k ≡ Some row) × (row.account ≡ owner) × (row.plan ≡ class)
own_row owner class at [] k have there = absurd (nowhere k there)
own_row owner class at (key ∷ keys) k ((row, is, of, planned), have) there =
    elim (front_or_behind key k keys there) [
      | inl same ↦ (row, ap at (sym same) ∙ is, of, planned)
      | inr behind ↦
          let (found, kept, owned, classed) =
          own_row owner class (update same_key at key None) keys k have behind in
          (found, still_there at key k found (same_key key k) refl kept, owned, classed)
    ]

pub after_put : (plans : List Plan) (content : Content) (gone : List Key) (row : RowFacts)
    (history : History) → AreCarriedInto plans content gone row
    → Stands plans content history
    → IsAfter plans history gone (with_forward content gone row)
after_put plans content gone row history (report, by) st = record {
  batch = record {
    name = name_of by.key;
    names = names_of by.keys;
    report = report;
  };
  line = by.line;
  bare = λ plan planned.
      subst (λ p. IsBare p report) (some_plan _ by.carries.plan plan by.carries.plan_is planned)
      by.bare;
  are = ap names_of by.are;
  own = λ key there.
      let (row, is, owned, classed) = own_row report.user report.class content.rows (by.key ∷ by.keys) key
      by.carries.have (subst (λ ks. Contains ks key) by.are there) in
      (row, sym (st.rows key) ∙ is, owned, classed);
  carries = carried_all plans content history by.key by.keys report st by.carries;
  stands = subst (λ keys. Stands plans (with_forward content keys row)
      (forwarded history (names_of (by.key ∷ by.keys)) report)) (sym by.are)
      (subst (λ r. Stands plans (with_forward content (by.key ∷ by.keys) r)
      (forwarded history (names_of (by.key ∷ by.keys)) report)) (sym by.into)
      (forwards_stand plans content history by.key by.keys report st by.carries));
}

-- nothing was written
pub only_looked : {B T E : Type 0} (b : Ghosts B) (plans : List Plan) (gone : List Key)
    (old new : B) (r : Result T E) (result : Result Bool E)
    → Looks b old new r → (b.is_sound new → OnOk result (b.is_open new)) → result ≢ Ok true
    → CarriesInto b plans gone old new result
only_looked b plans gone old new r result looks answers not = record {
  was_sound = looks.was_sound;
  was_open = looks.was_open;
  keeps_steady = looks.keeps_steady;
  answers = answers;
  carried = λ still is. absurd (not is);
  unchanged = λ still other. looks.same still;
  leaves = λ sound c may. inl (looks.adds_none sound c may);
}

-- it was, or that failed
pub now_carried : {B T E : Type 0} (b : Ghosts B) (plans : List Plan) (gone : List Key)
    (row : RowFacts) (old mid new : B) (r : Result T E) (put : Result (Unit {0}) E)
    (result : Result Bool E) → Looks b old mid r
    → (b.is_open mid → AreCarriedInto plans (b.content old) gone row)
    → Writes b.content b.is_sound b.is_open b.is_steady b.left mid new
    (with_forward (b.content mid) gone row) put
    → (b.is_sound new → OnOk result (b.is_open new))
    → (b.is_open new → result ≡ Ok true
    → b.content new ≡ with_forward (b.content mid) gone row)
    → (b.is_open new → result ≢ Ok true → b.content new ≡ b.content mid)
    → CarriesInto b plans gone old new result
now_carried b plans gone row old mid new r put result looks by writes answers ok err = record {
  was_sound = λ sound. looks.was_sound (writes.was_sound sound);
  was_open = λ still. looks.was_open (writes.was_open still);
  keeps_steady = λ steady. writes.keeps_steady (looks.keeps_steady steady);
  answers = answers;
  carried = λ still is history stands.
      let open_mid = writes.was_open still in
      let written : b.content new ≡ with_forward (b.content old) gone row =
      ok still is ∙ ap (λ c. with_forward c gone row) (looks.same open_mid) in
      subst (IsAfter plans history gone) (sym written)
      (after_put plans (b.content old) gone row history (by open_mid) stands);
  unchanged = λ still other. err still other ∙ looks.same (writes.was_open still);
  leaves = λ sound c may. ⊎_elim
      (λ before. inl (looks.adds_none (writes.was_sound sound) c before))
      (λ now.
      let written : c ≡ with_forward (b.content old) gone row =
      now.1 ∙ ap (λ x. with_forward x gone row) (looks.same now.0) in
      inr (
        looks.was_open now.0,
        λ history stands.
            subst (IsAfter plans history gone) (sym written)
            (after_put plans (b.content old) gone row history (by now.0) stands),
      ))
      (writes.adds_written sound c may);
}

-- an error answers nothing
pub not_ok : {T E : Type 0} (r : Result T E) (P : E → Type 0) (Q : Type 0) → IsErrAnd r P
    → OnOk r Q
not_ok (Ok x) P Q and = absurd and
not_ok (Err e) P Q and = tt

-- an error is not that it was carried
pub failed : {E : Type 0} (r : Result Bool E) (P : E → Type 0) (Q : Type 0) → IsErrAnd r P
    → (r ≢ Ok true) × OnOk r Q
failed (Ok x) P Q and = absurd and
failed (Err e) P Q and = (λ is. cc, tt)

-- ---- lines

-- a line's key is that of no row that is none
pub lines_apart : (rows : List RowFacts) (into : Key) → AreNoLines rows
    → is_line into.client ≡ true → IsNone (map key_of rows) into
lines_apart rows into none line other there same =
    let row = from_map key_of rows other there in
    true≢false (sym line ∙ ap (λ (k : Key). is_line k.client) (same ∙ sym row.2)
    ∙ none row.0 row.1)

-- calls that only read are one that does
pub as_looks : {B T E : Type 0} (b : Ghosts B) (old new : B) (result : Result T E)
    → OnlyLooks b old new → (b.is_sound new → OnOk result (b.is_open new))
    → Looks b old new result
as_looks b old new result looks answers = record {
  was_sound = looks.was_sound;
  was_open = looks.was_open;
  keeps_steady = looks.keeps_steady;
  answers = answers;
  same = looks.same;
  adds_none = looks.adds_none;
}
