-- Calls that carry sessions forward, one after another, and what stays as it was.
use Rattle.std.proofs.Common.{◌≡◌, ◌≢◌, inl, inr, ⊎_elim, Bool, true, false, List, [], ◌∷◌, ◌++◌}
use Rattle.std.proofs.Common.{map, refl, sym, ap, ap₂, ◌∙◌, subst, true≢false, ℕ, ◌+◌, ◌-◌, ◌^◌, ◌<◌}
use Rattle.std.proofs.Common.{length, min, arith}
use Rattle.std.proofs.lemmas.List.{length-map}
use Rattle.std.proofs.lemmas.List.Sums.{sum_by-append, sum_by-cons}
use Rattle.std.specs.Prelude.{Some, None, Contains, Result, Ok, Err, OnOk, IfOk}
use Rattle.acct_model.specs.declared.plan.Plan.{Plan}
use Rattle.acct_model.specs.Report.{ReportFacts}
use Rattle.acct_model.specs.History.{History, SessionName, all_topups, balance_of}
use Rattle.acct_model.specs.History.{is_known}
use Rattle.acct_model.specs.Forward.{without, without_all, forwarded, Batch, sessions_in}
use Rattle.acct_model.specs.Forward.{CarriesBatch}
use Rattle.acct_model.proofs.Lists.{here, deeper, from_map}
use Rattle.acct_model.proofs.Forward.{balance-forwarded, is_known-forwarded, topups-without_all}
use Rattle.acct_book.specs.declared.book.Book.{Ghosts}
use Rattle.acct_book.specs.declared.key.Key.{Key}
use Rattle.acct_book.specs.Row.{RowFacts}
use Rattle.acct_book.specs.Rows.{name_of, row_of}
use Rattle.acct_book.specs.Content.{Content, same_key, key_of}
use Rattle.acct_book.specs.Stands.{Stands}
use Rattle.acct_book.specs.Step.{Looks}
use Rattle.acct_book_forward.specs.Carrying.{SelectionFacts, is_line, stay_of, IsChosen}
use Rattle.acct_book_forward.specs.Carrying.{CarriesChosen, IsCarriedOn}
use Rattle.acct_book_forward.specs.Carrying.{CarriesOn, CarryingMovesNothing, CountsOn, CountsUpTo}
use Rattle.acct_book_forward.specs.Carrying.{carried_in}
use Rattle.acct_book_forward.specs.declared.forwarding.Tally.{Tally}
use Rattle.acct_book.specs.Next.{report_key}
use Rattle.acct_book_forward.specs.inner.Forwarding.{AreTaken, IsAfter, CarriesInto}
use Rattle.acct_book.proofs.Keys.{key_is}
use Rattle.acct_book.proofs.Rows.{row_of-other}
use Rattle.acct_book_forward.proofs.Forwards.{row-kept, name_key}

-- ---- calls

-- nothing was written
pub looked_on : {B T U E F : Type 0} (b : Ghosts B) (selection : SelectionFacts)
    (plans : List Plan) (old new : B) (r : Result T E) (result : Result U F) → Looks b old new r
    → (b.is_sound new → OnOk result (b.is_open new))
    → CarriesOn b selection plans old new result
looked_on b selection plans old new r result looks answers = record {
  was_sound = looks.was_sound;
  was_open = looks.was_open;
  keeps_steady = looks.keeps_steady;
  answers = answers;
  stands = λ still history stands.
      ([], history, refl, subst (λ c. Stands plans c history) (sym (looks.same still)) stands);
  leaves = λ sound c may. inl (looks.adds_none sound c may);
}

-- nothing was done yet
pub begun_on : {B U E : Type 0} (b : Ghosts B) (selection : SelectionFacts) (plans : List Plan)
    (book : B) (error : E) → CarriesOn {T = U} b selection plans book book (Err error)
begun_on b selection plans book error = record {
  was_sound = λ sound. sound;
  was_open = λ still. still;
  keeps_steady = λ steady. steady;
  answers = λ sound. tt;
  stands = λ still history stands. ([], history, refl, stands);
  leaves = λ sound c may. inl may;
}

-- a call that carries may return any result, if a success means that the book is open
pub told_on : {B T U E F : Type 0} (b : Ghosts B) (selection : SelectionFacts) (plans : List Plan)
    (old new : B) (r : Result T E) (result : Result U F)
    → CarriesOn b selection plans old new r
    → (b.is_sound new → OnOk result (b.is_open new))
    → CarriesOn b selection plans old new result
told_on b selection plans old new r result c answers = record {
  was_sound = c.was_sound;
  was_open = c.was_open;
  keeps_steady = c.keeps_steady;
  answers = answers;
  stands = c.stands;
  leaves = c.leaves;
}

chosen_append : (selection : SelectionFacts) (plans : List Plan) (old mid new : History)
    (these those : List Batch) → CarriesChosen selection plans old these mid
    → CarriesChosen selection plans mid those new
    → CarriesChosen selection plans old (these ++ those) new
chosen_append selection plans old mid new [] those one other =
    subst (λ h. CarriesChosen selection plans h those new) one other
chosen_append selection plans old mid new (batch ∷ these) those (next, chosen, first, rest) other =
    (next, chosen, first, chosen_append selection plans next mid new these those rest other)

carried_twice : (selection : SelectionFacts) (plans : List Plan) (history : History) (mid new : Content)
    → IsCarriedOn selection plans history mid
    → ((later : History) → Stands plans mid later → IsCarriedOn selection plans later new)
    → IsCarriedOn selection plans history new
carried_twice selection plans history mid new (these, later, one, stands) more =
    let rest = more later stands in (
      these ++ rest.0,
      rest.1,
      chosen_append selection plans history later rest.1 these rest.0 one rest.2,
      rest.3,
    )

-- one call and then another
pub joined_on : {B T U E F : Type 0} (b : Ghosts B) (selection : SelectionFacts)
    (plans : List Plan) (old mid new : B) (r : Result T E) (result : Result U F)
    → CarriesOn b selection plans old mid r → CarriesOn b selection plans mid new result
    → CarriesOn b selection plans old new result
joined_on b selection plans old mid new r result one other = record {
  was_sound = λ sound. one.was_sound (other.was_sound sound);
  was_open = λ still. one.was_open (other.was_open still);
  keeps_steady = λ steady. other.keeps_steady (one.keeps_steady steady);
  answers = other.answers;
  stands = λ still history stands.
      carried_twice selection plans history (b.content mid) (b.content new)
      (one.stands (other.was_open still) history stands) (other.stands still);
  leaves = λ sound c may. ⊎_elim
      (λ before. one.leaves (other.was_sound sound) c before)
      (λ after. inr (
        one.was_open after.0,
        λ history stands.
            carried_twice selection plans history (b.content mid) c
            (one.stands after.0 history stands) after.1,
      ))
      (other.leaves sound c may);
}

-- calls that carry, and one before and one after them that only read
pub carried_between : {B R S T U E F G H : Type 0} (b : Ghosts B) (selection : SelectionFacts)
    (plans : List Plan) (old before after new : B) (asked : Result R E) (carried : Result S F)
    (told : Result T G) (result : Result U H) → Looks b old before asked
    → CarriesOn b selection plans before after carried → Looks b after new told
    → (b.is_sound new → OnOk result (b.is_open new))
    → CarriesOn b selection plans old new result
carried_between b selection plans old before after new asked carried told result one c other answers =
    joined_on b selection plans old after new carried result
    (joined_on b selection plans old before after asked carried
    (looked_on b selection plans old before asked asked one one.answers) c)
    (looked_on b selection plans after new told result other answers)

-- ---- one batch

-- each of these rows is in the content
abbrev pub AreThere : Content → List RowFacts → Type 0
AreThere content rows = (row : RowFacts) → Contains rows row → content.rows (key_of row) ≡ Some row

same_row : (one other : RowFacts) → Some one ≡ Some other → one ≡ other
same_row one other e = cc

chosen_rows : (selection : SelectionFacts) (plans : List Plan) (history : History) (content : Content)
    (rows : List RowFacts) (c : Content) → Stands plans content history → AreThere content rows
    → AreTaken selection rows → (after : IsAfter plans history (map key_of rows) c)
    → IsChosen selection plans history after.batch
chosen_rows selection plans history content rows c stands there taken after = record {
  taken = λ key among.
      let named = subst (λ names. Contains names (name_of key)) (sym after.are) among in
      let one = from_map name_of (map key_of rows) (name_of key) named in
      let row = from_map key_of rows one.0 one.1 in
      let same_key = name_key one.0 key one.2 in
      let at : key_of row.0 ≡ key = row.2 ∙ same_key in
      let is = sym (stands.rows key) ∙ ap content.rows (sym at) ∙ there row.0 row.1 in
      let (own, own_is, owned, classed) = after.own key
      (subst (Contains (map key_of rows)) same_key one.1) in (
        row.0,
        is,
        taken row.0 row.1,
        ap (λ (r : RowFacts). r.account) (same_row row.0 own (sym is ∙ own_is)) ∙ owned,
        ap (λ (r : RowFacts). r.plan) (same_row row.0 own (sym is ∙ own_is)) ∙ classed,
      );
  line = after.line;
  bare = after.bare;
}

after_on : (selection : SelectionFacts) (plans : List Plan) (history : History) (content : Content)
    (rows : List RowFacts) (c : Content) → Stands plans content history → AreThere content rows
    → AreTaken selection rows → IsAfter plans history (map key_of rows) c
    → IsCarriedOn selection plans history c
after_on selection plans history content rows c stands there taken after =
    let batch = after.batch in
    let next = forwarded history (sessions_in batch) batch.report in (
      batch ∷ [],
      next,
      (
        next,
        chosen_rows selection plans history content rows c stands there taken after,
        (after.carries, refl),
        refl,
      ),
      after.stands,
    )

-- ---- how many

-- nothing was written, so none was carried
pub none_counted : {B T E : Type 0} (b : Ghosts B) (selection : SelectionFacts) (plans : List Plan)
    (old new : B) (r : Result T E) → Looks b old new r → CountsOn b selection plans old new 0
none_counted b selection plans old new r looks still history stands =
    ([], history, refl, subst (λ c. Stands plans c history) (sym (looks.same still)) stands, refl)

-- nothing was done yet
pub begun_counted : {B : Type 0} (b : Ghosts B) (selection : SelectionFacts) (plans : List Plan)
    (book : B) → CountsUpTo b selection plans book book 0
begun_counted b selection plans book still history stands = ([], history, refl, stands, refl)

-- one call and then another
pub counts_joined : {B : Type 0} (b : Ghosts B) (selection : SelectionFacts) (plans : List Plan)
    (old mid new : B) (one other : ℕ) → (b.is_open new → b.is_open mid)
    → CountsOn b selection plans old mid one → CountsOn b selection plans mid new other
    → CountsOn b selection plans old new (one + other)
counts_joined b selection plans old mid new one other was first second still history stands =
    let (these, later, chosen, there, few) = first (was still) history stands in
    let (those, after, more, end, rest) = second still later there in (
      these ++ those,
      after,
      chosen_append selection plans history later after these those chosen more,
      end,
      sum_by-append (λ batch. length (sessions_in batch)) these those
          ∙ ap₂ (λ n m. n + m) few rest,
    )

-- a call that carried none, and then another
pub counts_since : {B : Type 0} (b : Ghosts B) (selection : SelectionFacts) (plans : List Plan)
    (old mid new : B) (count : ℕ) → (b.is_open new → b.is_open mid)
    → CountsOn b selection plans old mid 0 → CountsUpTo b selection plans mid new count
    → CountsUpTo b selection plans old new count
counts_since b selection plans old mid new count was first second still history stands =
    let (these, later, chosen, there, few) = first (was still) history stands in
    let (those, after, more, end, rest) = second still later there in
    let sum = sum_by-append (λ (batch : Batch). length (sessions_in batch)) these those in (
      these ++ those,
      after,
      chosen_append selection plans history later after these those chosen more,
      end,
      omega (arith, few, rest, sum),
    )

-- a call, and then one that carried none
pub counts_kept : {B : Type 0} (b : Ghosts B) (selection : SelectionFacts) (plans : List Plan)
    (old mid new : B) (count : ℕ) → (b.is_open new → b.is_open mid)
    → CountsUpTo b selection plans old mid count → CountsOn b selection plans mid new 0
    → CountsUpTo b selection plans old new count
counts_kept b selection plans old mid new count was first second still history stands =
    let (these, later, chosen, there, few) = first (was still) history stands in
    let (those, after, more, end, rest) = second still later there in
    let sum = sum_by-append (λ (batch : Batch). length (sessions_in batch)) these those in (
      these ++ those,
      after,
      chosen_append selection plans history later after these those chosen more,
      end,
      omega (arith, few, rest, sum),
    )

-- a count that stays at the greatest number, and an exact one
pub counts_before : {B : Type 0} (b : Ghosts B) (selection : SelectionFacts) (plans : List Plan)
    (old mid new : B) (one other both : ℕ) → (b.is_open new → b.is_open mid)
    → both ≡ min (one + other) (2 ^ 64 - 1)
    → CountsUpTo b selection plans old mid one → CountsOn b selection plans mid new other
    → CountsUpTo b selection plans old new both
counts_before b selection plans old mid new one other both was is first second still history stands =
    let (these, later, chosen, there, few) = first (was still) history stands in
    let (those, after, more, end, rest) = second still later there in
    let sum = sum_by-append (λ (batch : Batch). length (sessions_in batch)) these those in (
      these ++ those,
      after,
      chosen_append selection plans history later after these those chosen more,
      end,
      omega (arith, is, few, rest, sum),
    )

-- both stay at the greatest number
pub counts_up : {B : Type 0} (b : Ghosts B) (selection : SelectionFacts) (plans : List Plan)
    (old mid new : B) (one other both : ℕ) → (b.is_open new → b.is_open mid)
    → both ≡ min (one + other) (2 ^ 64 - 1)
    → CountsUpTo b selection plans old mid one → CountsUpTo b selection plans mid new other
    → CountsUpTo b selection plans old new both
counts_up b selection plans old mid new one other both was is first second still history stands =
    let (these, later, chosen, there, few) = first (was still) history stands in
    let (those, after, more, end, rest) = second still later there in
    let sum = sum_by-append (λ (batch : Batch). length (sessions_in batch)) these those in (
      these ++ those,
      after,
      chosen_append selection plans history later after these those chosen more,
      end,
      omega (arith, is, few, rest, sum),
    )

-- what is so for a number is so for a tally that says it
pub told_counted : {E : Type 0} (P : ℕ → Type 0) (r : Result Tally E) (count : ℕ)
    → IfOk r (λ tally. tally.carried ≡ count) → P count → IfOk r (λ tally. P tally.carried)
told_counted P (Ok tally) count is so = subst P (sym is) so
told_counted P (Err error) count is so = tt

-- a batch of chosen rows was carried, all of them
pub rows_counted : {B E : Type 0} (b : Ghosts B) (selection : SelectionFacts) (plans : List Plan)
    (rows : List RowFacts) (old new : B) (r : Result Bool E)
    → (b.is_open old → AreThere (b.content old) rows) → AreTaken selection rows
    → CarriesInto b plans (map key_of rows) old new r → r ≡ Ok true
    → CountsOn b selection plans old new (length rows)
rows_counted b selection plans rows old new r there taken c is still history stands =
    let after = c.carried still is history stands in
    let batch = after.batch in
    let next = forwarded history (sessions_in batch) batch.report in
    let few : carried_in (batch ∷ []) ≡ length (sessions_in batch) =
    omega (arith, sum_by-cons (λ (one : Batch). length (sessions_in one)) batch []) in (
      batch ∷ [],
      next,
      (
        next,
        chosen_rows selection plans history (b.content old) rows (b.content new) stands
            (there (c.was_open still)) taken after,
        (after.carries, refl),
        refl,
      ),
      after.stands,
      few ∙ ap length (sym after.are) ∙ length-map (map key_of rows) name_of ∙ length-map rows key_of,
    )

-- it did not fit, so none was carried
pub unfit_counted : {B E : Type 0} (b : Ghosts B) (selection : SelectionFacts) (plans : List Plan)
    (gone : List Key) (old new : B) (r : Result Bool E) → CarriesInto b plans gone old new r
    → r ≢ Ok true → CountsOn b selection plans old new 0
unfit_counted b selection plans gone old new r c not still history stands =
    ([], history, refl, subst (λ x. Stands plans x history) (sym (c.unchanged still not)) stands, refl)

-- whether it was carried
carried_or_not : {E : Type 0} (r : Result Bool E) (P : Type 0) → (r ≡ Ok true → P)
    → (r ≢ Ok true → P) → P
carried_or_not (Ok true) P so otherwise = so refl
carried_or_not (Ok false) P so otherwise = otherwise (λ is. cc)
carried_or_not (Err e) P so otherwise = otherwise (λ is. cc)

-- a call that carries rows that are in the content and that the selection takes
pub batch_on : {B U E : Type 0} (b : Ghosts B) (selection : SelectionFacts) (plans : List Plan)
    (rows : List RowFacts) (old new : B) (r : Result Bool E) (result : Result U E)
    → (b.is_open old → AreThere (b.content old) rows) → AreTaken selection rows
    → CarriesInto b plans (map key_of rows) old new r
    → (b.is_sound new → OnOk result (b.is_open new))
    → CarriesOn b selection plans old new result
batch_on b selection plans rows old new r result there taken c answers = record {
  was_sound = c.was_sound;
  was_open = c.was_open;
  keeps_steady = c.keeps_steady;
  answers = answers;
  stands = λ still history stands.
      carried_or_not r (IsCarriedOn selection plans history (b.content new))
      (λ is. after_on selection plans history (b.content old) rows (b.content new) stands
      (there (c.was_open still)) taken (c.carried still is history stands))
      (λ not. (
        [],
        history,
        refl,
        subst (λ x. Stands plans x history) (sym (c.unchanged still not)) stands,
      ));
  leaves = λ sound x may. ⊎_elim (λ before. inl before)
      (λ after. inr (
        after.0,
        λ history stands.
            after_on selection plans history (b.content old) rows x stands (there after.0) taken
            (after.1 history stands),
      ))
      (c.leaves sound x may);
}

-- ---- what stays as it was

rows_stay : (plans : List Plan) (history : History) (names : List SessionName) (key : Key)
    → ((name : SessionName) → Contains names name → name_of key ≢ name)
    → row_of plans (without_all names history) key ≡ row_of plans history key
rows_stay plans history [] key apart = refl
rows_stay plans history (name ∷ names) key apart =
    rows_stay plans (without name history) names key
    (λ other there. apart other (deeper name other names there))
    ∙ row-kept plans history name key (apart name (here name names))

line_apart : (report : ReportFacts) (key : Key) → is_line report.client ≡ true
    → is_line key.client ≡ false → same_key (report_key report) key ≡ false
line_apart report key line none =
    elim (same_key (report_key report) key) as (λ b. same_key (report_key report) key ≡ b
    → b ≡ false) [
      | true ↦ λ e. absurd (true≢false (sym line
          ∙ ap (λ (k : Key). is_line k.client) (key_is (report_key report) key e) ∙ none))
      | false ↦ λ e. refl
    ] refl

row_stays : (selection : SelectionFacts) (plans : List Plan) (history mid : History) (batch : Batch)
    (key : Key) (row : RowFacts) → IsChosen selection plans history batch
    → CarriesBatch plans history batch mid → is_line key.client ≡ false
    → row_of plans history key ≡ Some row → stay_of selection row ≢ None
    → row_of plans mid key ≡ Some row
row_stays selection plans history mid batch key row chosen (carries, is) none there stays =
    let names = sessions_in batch in
    let apart : (name : SessionName) → Contains names name → name_of key ≢ name =
    λ name among same.
    let taken = chosen.taken key (subst (Contains names) (sym same) among) in
    stays (ap (stay_of selection) (same_row row taken.0 (sym there ∙ taken.1)) ∙ taken.2) in
    ap (λ h. row_of plans h key) is
    ∙ row_of-other plans batch.report (without_all names history) key
    (line_apart batch.report key chosen.line none)
    ∙ rows_stay plans history names key apart ∙ there

pub moves_nothing : (selection : SelectionFacts) (plans : List Plan) (history : History)
    (batches : List Batch) (after : History) → CarriesChosen selection plans history batches after
    → CarryingMovesNothing selection plans history batches after
moves_nothing selection plans history [] after is = record {
  balances = λ account. ap (λ h. balance_of plans h account) is;
  known = λ account. ap (λ h. is_known h account) is;
  topups = ap all_topups is;
  rows = λ key row none there stays. ap (λ h. row_of plans h key) is ∙ there;
}
moves_nothing selection plans history (batch ∷ batches) after (mid, chosen, (carries, is), rest) =
    let more = moves_nothing selection plans mid batches after rest in
    let names = batch.names in
    record {
      balances = λ account. more.balances account
          ∙ ap (λ h. balance_of plans h account) is
          ∙ balance-forwarded plans history batch.name names batch.report carries account;
      known = λ account. more.known account
          ∙ ap (λ h. is_known h account) is
          ∙ is_known-forwarded plans history batch.name names batch.report carries account;
      topups = more.topups ∙ ap all_topups is
          ∙ topups-without_all (sessions_in batch) history;
      rows = λ key row none there stays. more.rows key row none
          (row_stays selection plans history mid batch key row chosen (carries, is) none there stays)
          stays;
    }
