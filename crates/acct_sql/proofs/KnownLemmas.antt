-- What a book knows stays true of its tables.
use Rattle.std.proofs.Common.{◌≡◌, ◌≢◌, ℕ, ℤ, pos, List, Bool, true, false, cond, true≢false}
use Rattle.std.proofs.Common.{bytes_eq, Option, Some, None, IfSome, unwrap_or, Ok, Err}
use Rattle.std.proofs.Common.{Result, OnOk, is_ok}
use Rattle.std.proofs.Common.{refl, sym, ap, subst, ◌∙◌}
use Rattle.std.proofs.lemmas.Slice.Eq.{bytes_eq-Decides}
use Rattle.std.specs.Bool.{Decides, MatchBool}
use Rattle.std.specs.Map.{update}
use Rattle.sqlite.specs.Store.{Ghosts}
use Rattle.sqlite.specs.Held.{Held, state}
use Rattle.sqlite.specs.State.{State}
use Rattle.acct_model.specs.Vouchers.{TopUpFacts}
use Rattle.acct_book.specs.declared.key.Key.{Key}
use Rattle.acct_book.specs.Row.{RowFacts}
use Rattle.acct_book.specs.Content.{Content, kept_balance, same_key, key_of, with_session}
use Rattle.acct_book.specs.Content.{with_topup, with_closed, with_forward}
use Rattle.acct_book.proofs.Keys.{Decides-same_key, key_is, key_refl}
use Rattle.acct_sql.specs.declared.known.Known.{Known}
use Rattle.acct_sql_tables.specs.Book.{content_at, is_open_at, is_sound_at}
use Rattle.acct_sql_tables.specs.inner.AtRest.{IsAtRest, ReadsAtRest, WritesAtRest}
use Rattle.acct_sql_tables.proofs.ReadLemmas.{stays_read, stays_first}
use Rattle.acct_sql_tables.specs.Content.{content_without_plans, plans_in_tables, with_plan}
use Rattle.acct_sql_tables.specs.inner.Inside.{HasPlanOf}
use Rattle.acct_sql.specs.inner.Known.{known_balance, balance_among, Learns, IsTold, Knows, AllTold}
use Rattle.acct_sql.specs.inner.Known.{HasKept, HasRow, known_session, session_among, KnowsPlan}
use Rattle.acct_sql.specs.inner.Known.{KnowsNothing, KeepsOrForgets}
use Rattle.acct_sql.specs.inner.Remembered.{HasEnded}
use Rattle.acct_sql.proofs.ColumnLemmas.{was_found, plan_told}
use Rattle.acct_sql.proofs.RememberLemmas.{closes_none}

some_after : {V : Type 0} (o : Option V) (P Q : V → Type 0) → ((v : V) → P v → Q v)
    → IfSome o P → IfSome o Q
some_after None P Q step h = tt
some_after (Some v) P Q step h = step v h

none_told : {N V : Type 0} (s : State) (P : N → V → Content → Type 0) (known : N → Option V)
    → ((n : N) → known n ≡ None) → AllTold s P known
none_told s P known none n = subst (λ o. IfSome o (λ v. IsTold s (P n v))) (sym (none n)) tt

-- ---- what is known after a call

module _ {S T E : Type 0} (g : Ghosts S) (old new : Held S) (result : Result T E) (x : T)
    (is : result ≡ Ok x) (was_sound : is_sound_at g new → is_sound_at g old)
    (answers : is_sound_at g new → OnOk result (is_open_at g new)) where
  open_now : is_sound_at g new → is_open_at g new
  open_now clean = subst (λ r. OnOk r (is_open_at g new)) is (answers clean)

  -- what was known of the tables stays true
  told_after : (P Q : Content → Type 0)
      → (is_open_at g new → P (content_at g old) → Q (content_at g new))
      → IsTold (state g old) P → IsTold (state g new) Q
  told_after P Q step told clean = (
    open_now clean,
    step (open_now clean) (told (was_sound clean)).1,
  )

  module _ {N V : Type 0} (P : N → V → Content → Type 0) (before : N → Option V)
      (was : AllTold (state g old) P before) where
    -- the call changed nothing of it
    still_told : ((n : N) (v : V) → is_open_at g new → P n v (content_at g old)
        → P n v (content_at g new)) → AllTold (state g new) P before
    still_told same n = some_after (before n) (λ v. IsTold (state g old) (P n v))
        (λ v. IsTold (state g new) (P n v))
        (λ v. told_after (P n v) (P n v) (same n v)) (was n)

    -- the call returned or set one of these, and changed no other
    one_told : (same : N → N → Bool) (decides : (a b : N) → Decides (same a b) (a ≡ b))
        (after : N → Option V) (key : N) (value : V) → Learns key value before after
        → (is_open_at g new → P key value (content_at g new))
        → ((n : N) → key ≢ n → (v : V) → is_open_at g new → P n v (content_at g old)
        → P n v (content_at g new)) → AllTold (state g new) P after
    one_told same decides after key value learns here others n = go (same key n) refl
      where
        go : (b : Bool) → same key n ≡ b
            → IfSome (after n) (λ v. IsTold (state g new) (P n v))
        go true it = subst (λ m. IfSome (after m) (λ v. IsTold (state g new) (P m v)))
            ((decides key n).0 it) (some_after (after key) (λ v. v ≡ value)
            (λ v. IsTold (state g new) (P key v))
            (λ v is_it. λ clean. (
              open_now clean,
              subst (λ v. P key v (content_at g new))
                  (sym is_it) (here (open_now clean)),
            )) learns.here)
        go false differs =
            let other : key ≢ n = λ it. true≢false (sym ((decides key n).1 it) ∙ differs) in
            some_after (after n) (λ v. before n ≡ Some v) (λ v. IsTold (state g new) (P n v))
            (λ v knew. told_after (P n v) (P n v) (others n other v)
            (subst (λ o. IfSome o (λ v. IsTold (state g old) (P n v))) knew (was n)))
            (learns.others n other)

-- ---- balances

-- the balance of the account that is set, and of another one
set_here : (f : List ℕ → Option ℤ) (account : List ℕ) (balance : ℤ)
    → unwrap_or (update bytes_eq f account (Some balance) account) (pos 0) ≡ balance
set_here f account balance = ap (λ b. unwrap_or (cond b (Some balance) (f account)) (pos 0))
    ((bytes_eq-Decides account account).1 refl)

set_other : (f : List ℕ → Option ℤ) (account name : List ℕ) (balance : ℤ) → account ≢ name
    → unwrap_or (update bytes_eq f account (Some balance) name) (pos 0) ≡ unwrap_or (f name) (pos 0)
set_other f account name balance other = go (bytes_eq account name) refl
  where
    go : (b : Bool) → bytes_eq account name ≡ b
        → unwrap_or (cond b (Some balance) (f name)) (pos 0) ≡ unwrap_or (f name) (pos 0)
    go true same = absurd (other ((bytes_eq-Decides account name).0 same))
    go false differs = refl

-- ---- rows

row_here : (f : Key → Option RowFacts) (key : Key) (row : RowFacts)
    → update same_key f key (Some row) key ≡ Some row
row_here f key row = ap (λ b. cond b (Some row) (f key)) (key_refl key)

row_other : (f : Key → Option RowFacts) (key other : Key) (row : RowFacts) → key ≢ other
    → update same_key f key (Some row) other ≡ f other
row_other f key other row differs = go (same_key key other) refl
  where
    go : (b : Bool) → same_key key other ≡ b → cond b (Some row) (f other) ≡ f other
    go true same = absurd (differs (key_is key other same))
    go false is = refl

-- ---- what is known once the answer of a call was kept, or all forgotten

pub knows_nothing : {s : State} {known : Known} → KnowsNothing known → Knows s known
knows_nothing {s = s} {known = known} none = record {
  balances = none_told s HasKept (known_balance known) none.balances;
  sessions = none_told s HasRow (known_session known) none.sessions;
}

same_value : {T F : Type 0} (x value : T) (told : Result T F) → told ≡ Ok x → told ≡ Ok value
    → value ≡ x
same_value x value told one other = cc

pub was_ok : {T E F : Type 0} {r : Result T E} {before after : Known} {x : T}
    → KeepsOrForgets {F = F} r before after (Ok x) → r ≡ Ok x
was_ok {r = Ok value} {x = x} kept = ap Ok (same_value x value (Ok x) refl kept.answers)
was_ok {r = Err e} kept = let no : false ≡ true = kept.answers in cc

was_kept : {T E F : Type 0} {r : Result T E} {before after : Known} {x : T}
    → KeepsOrForgets {F = F} r before after (Ok x) → after ≡ before
was_kept {r = Ok value} kept = kept.keeps
was_kept {r = Err e} kept = let no : false ≡ true = kept.answers in absurd cc

known_as_kept : {T E F : Type 0} {s : State} {r : Result T E} {before after : Known} {x : T}
    → KeepsOrForgets {F = F} r before after (Ok x) → Knows s before → Knows s after
known_as_kept {s = s} kept was = subst (Knows s) (sym (was_kept kept)) was

-- the call failed
pub knows_no_more : {T E F : Type 0} {s : State} {r : Result T E} {before after : Known} {e : F}
    → KeepsOrForgets {F = F} r before after (Err e) → Knows s after
knows_no_more {r = Ok value} kept = let no : false ≡ true = ap is_ok kept.answers in absurd cc
knows_no_more {r = Err e} kept = knows_nothing kept.keeps

-- the call was answered
module _ {S T E F : Type 0} {g : Ghosts S} {old new : Held S} {r : Result T E} {x : T}
    {before kept : Known} (keeps : KeepsOrForgets {F = F} r before kept (Ok x))
    (was : Knows (state g old) before) where
  module _ (reads : ReadsAtRest g old new r) where
    same_balance : (name : List ℕ) (balance : ℤ) → is_open_at g new
        → HasKept name balance (content_at g old) → HasKept name balance (content_at g new)
    same_balance name balance o is = ap (λ c. kept_balance c name) (reads.read.same o) ∙ is

    same_row : (key : Key) (row : Option RowFacts) → is_open_at g new
        → HasRow key row (content_at g old) → HasRow key row (content_at g new)
    same_row key row o there = ap (λ (c : Content). c.rows key) (reads.read.same o) ∙ there

    same_balances : AllTold (state g new) HasKept (known_balance kept)
    same_balances = still_told g old new r x (was_ok keeps) reads.read.was_sound reads.read.answers
        HasKept (known_balance kept) (known_as_kept keeps was).balances same_balance

    same_rows : AllTold (state g new) HasRow (known_session kept)
    same_rows = still_told g old new r x (was_ok keeps) reads.read.was_sound reads.read.answers
        HasRow (known_session kept) (known_as_kept keeps was).sessions same_row

    -- nothing more was learned
    still_known : Knows (state g new) kept
    still_known = record { balances = same_balances; sessions = same_rows }

    -- a balance was read
    pub knows_balance : {after : Known} (account : List ℕ) (balance : ℤ)
        → Learns account balance (known_balance kept) (known_balance after)
        → after.sessions ≡ kept.sessions
        → (is_open_at g new → balance ≡ kept_balance (content_at g old) account)
        → Knows (state g new) after
    knows_balance {after = after} account balance learns same found = record {
      balances = one_told g old new r x (was_ok keeps) reads.read.was_sound reads.read.answers
          HasKept (known_balance kept) (known_as_kept keeps was).balances bytes_eq bytes_eq-Decides
          (known_balance after) account balance learns
          (λ o. same_balance account balance o (sym (found o))) (λ name other. same_balance name);
      sessions = subst (λ rows. AllTold (state g new) HasRow (session_among rows)) (sym same)
          same_rows;
    }

    -- a row was read
    pub knows_row : {after : Known} (key : Key) (row : Option RowFacts)
        → Learns key row (known_session kept) (known_session after)
        → after.balances ≡ kept.balances
        → (is_open_at g new → row ≡ (content_at g old).rows key) → Knows (state g new) after
    knows_row {after = after} key row learns same found = record {
      balances = subst (λ kept. AllTold (state g new) HasKept (balance_among kept)) (sym same)
          same_balances;
      sessions = one_told g old new r x (was_ok keeps) reads.read.was_sound reads.read.answers
          HasRow (known_session kept) (known_as_kept keeps was).sessions same_key Decides-same_key
          (known_session after) key row learns
          (λ o. same_row key row o (sym (found o))) (λ other differs. same_row other);
    }

  module _ (change : Content → Content) (w : WritesAtRest g old new change r) where
    now_is : is_open_at g new → content_at g new ≡ change (content_at g old)
    now_is o = subst (λ r. OnOk r (content_at g new ≡ change (content_at g old))) (was_ok keeps)
        (w.wrote.ok o)

    -- no balance was set
    kept_balances : (after : Known) → after.balances ≡ kept.balances
        → ((content : Content) → (change content).balances ≡ content.balances)
        → AllTold (state g new) HasKept (known_balance after)
    kept_balances after same stays =
        subst (λ known. AllTold (state g new) HasKept (balance_among known)) (sym same)
        (still_told g old new r x (was_ok keeps) w.wrote.was_sound w.wrote.answers
        HasKept (known_balance kept) (known_as_kept keeps was).balances
        (λ name b o is. ap (λ c. kept_balance c name) (now_is o)
        ∙ (ap (λ (f : List ℕ → Option ℤ). unwrap_or (f name) (pos 0)) (stays (content_at g old))
        ∙ is)))

    -- a balance was set
    set_balances : (mid after : Known) (account : List ℕ) (balance : ℤ)
        → mid.balances ≡ kept.balances
        → Learns account balance (known_balance mid) (known_balance after)
        → ((content : Content) → (change content).balances
        ≡ update bytes_eq content.balances account (Some balance))
        → AllTold (state g new) HasKept (known_balance after)
    set_balances mid after account balance same learns sets =
        one_told g old new r x (was_ok keeps) w.wrote.was_sound w.wrote.answers
        HasKept (known_balance kept) (known_as_kept keeps was).balances bytes_eq bytes_eq-Decides
        (known_balance after) account balance
        (subst (λ known. Learns account balance (balance_among known) (known_balance after)) same
        learns)
        (λ o. ap (λ c. kept_balance c account) (now_is o)
        ∙ (ap (λ (f : List ℕ → Option ℤ). unwrap_or (f account) (pos 0))
        (sets (content_at g old)) ∙ set_here (content_at g old).balances account balance))
        (λ name other b o is. ap (λ c. kept_balance c name) (now_is o)
        ∙ (ap (λ (f : List ℕ → Option ℤ). unwrap_or (f name) (pos 0)) (sets (content_at g old))
        ∙ (set_other (content_at g old).balances account name balance other ∙ is)))

    -- no row was set
    kept_rows : (after : Known) → after.sessions ≡ kept.sessions
        → (is_open_at g old → (change (content_at g old)).rows ≡ (content_at g old).rows)
        → AllTold (state g new) HasRow (known_session after)
    kept_rows after same stays =
        subst (λ rows. AllTold (state g new) HasRow (session_among rows)) (sym same)
        (still_told g old new r x (was_ok keeps) w.wrote.was_sound w.wrote.answers
        HasRow (known_session kept) (known_as_kept keeps was).sessions
        (λ key row o there. ap (λ (c : Content). c.rows key) (now_is o)
        ∙ (ap (λ (f : Key → Option RowFacts). f key) (stays (w.wrote.was_open o)) ∙ there)))

  -- a row was set with the balance of its account: first the session was kept, and then the balance
  pub knows_set : (mid : Known) {after : Known} (row : RowFacts) (balance : ℤ)
      → WritesAtRest g old new (λ content. with_session content row balance) r
      → Learns (key_of row) (Some row) (known_session kept) (known_session mid)
      → mid.balances ≡ kept.balances
      → Learns row.account balance (known_balance mid) (known_balance after)
      → after.sessions ≡ mid.sessions → Knows (state g new) after
  knows_set mid {after = after} row balance w session same_balances learns same = record {
    balances = set_balances (λ content. with_session content row balance) w mid after row.account
        balance same_balances learns (λ content. refl);
    sessions = one_told g old new r x (was_ok keeps) w.wrote.was_sound w.wrote.answers
        HasRow (known_session kept) (known_as_kept keeps was).sessions same_key Decides-same_key
        (known_session after) (key_of row) (Some row)
        (subst (λ rows. Learns (key_of row) (Some row) (known_session kept) (session_among rows))
        (sym same) session)
        (λ o. ap (λ (c : Content). c.rows (key_of row)) (now o)
        ∙ row_here (content_at g old).rows (key_of row) row)
        (λ other differs row' o there. ap (λ (c : Content). c.rows other) (now o)
        ∙ (row_other (content_at g old).rows (key_of row) other row differs ∙ there));
  }
    where
      now : is_open_at g new → content_at g new ≡ with_session (content_at g old) row balance
      now = now_is (λ content. with_session content row balance) w

  -- a top-up was set with the balance of its account
  pub knows_credit : {after : Known} (topup : TopUpFacts) (balance : ℤ)
      → WritesAtRest g old new (λ content. with_topup content topup balance) r
      → Learns topup.account balance (known_balance kept) (known_balance after)
      → after.sessions ≡ kept.sessions → Knows (state g new) after
  knows_credit {after = after} topup balance w learns same = record {
    balances = set_balances (λ content. with_topup content topup balance) w kept after
        topup.account balance refl learns (λ content. refl);
    sessions = kept_rows (λ content. with_topup content topup balance) w after same (λ o. refl);
  }

  -- sessions were removed and a row was set, and no session is known any more
  pub knows_no_row : {after : Known} (gone : List Key) (row : RowFacts)
      → WritesAtRest g old new (λ content. with_forward content gone row) r
      → after.balances ≡ kept.balances → ((key : Key) → known_session after key ≡ None)
      → Knows (state g new) after
  knows_no_row {after = after} gone row w same none = record {
    balances = kept_balances (λ content. with_forward content gone row) w after same
        (λ content. refl);
    sessions = none_told (state g new) HasRow (known_session after) none;
  }

  -- the live sessions of a client were closed, and no session is known any more if there were any
  pub knows_closed : {after : Known} (client : List ℕ) (has_ended : Bool)
      → WritesAtRest g old new (λ content. with_closed content client) r
      → after.balances ≡ kept.balances
      → (has_ended ≡ true → is_open_at g old → HasEnded (content_at g old) client)
      → MatchBool has_ended (after.sessions ≡ kept.sessions)
      ((key : Key) → known_session after key ≡ None) → Knows (state g new) after
  knows_closed {after = after} client has_ended w same ended rows = record {
    balances = kept_balances (λ content. with_closed content client) w after same
        (λ content. refl);
    sessions = left has_ended ended rows;
  }
    where
      left : (b : Bool) → (b ≡ true → is_open_at g old → HasEnded (content_at g old) client)
          → MatchBool b (after.sessions ≡ kept.sessions)
          ((key : Key) → known_session after key ≡ None)
          → AllTold (state g new) HasRow (known_session after)
      left false ended none = none_told (state g new) HasRow (known_session after) none
      left true ended same = kept_rows (λ content. with_closed content client) w after same
          (λ o. ap (λ (c : Content). c.rows) (closes_none (content_at g old) client (ended refl o)))

-- a read was answered or not, and nothing more was learned
pub knows_read : {S T E F : Type 0} {g : Ghosts S} {old new : Held S} {r : Result T E}
    {before after : Known} {told : Result T F} → ReadsAtRest g old new r
    → KeepsOrForgets r before after told → Knows (state g old) before → Knows (state g new) after
knows_read {told = Ok x} reads keeps was = still_known keeps was reads
knows_read {told = Err e} reads keeps was = knows_no_more keeps

-- ---- a call that is answered by what is known

told_of : {V : Type 0} (o : Option V) (v : V) (P : V → Type 0) → o ≡ Some v → IfSome o P → P v
told_of o v P is h = subst (λ o. IfSome o P) is h

module _ {S : Type 0} (g : Ghosts S) (book : Held S) (known : Known)
    (knows : Knows (state g book) known) (account : List ℕ) (balance : ℤ)
    (is : known_balance known account ≡ Some balance) where
  balance_told : IsTold (state g book) (HasKept account balance)
  balance_told = told_of (known_balance known account) balance
      (λ b. IsTold (state g book) (HasKept account b)) is (knows.balances account)

  pub balance_reads : {E : Type 0} → IsAtRest g book
      → ReadsAtRest g {T = ℤ} {E = E} book book (Ok balance)
  balance_reads rests = stays_read g book book (Ok balance) (stays_first g book rests)
      (λ clean. (balance_told clean).0)

  pub balance_found : is_open_at g book → balance ≡ kept_balance (content_at g book) account
  balance_found o = sym (balance_told o.0.0).1

module _ {S : Type 0} (g : Ghosts S) (book : Held S) (known : Known)
    (knows : Knows (state g book) known) (key : Key) (row : Option RowFacts)
    (is : known_session known key ≡ Some row) where
  row_told : IsTold (state g book) (HasRow key row)
  row_told = told_of (known_session known key) row
      (λ r. IsTold (state g book) (HasRow key r)) is (knows.sessions key)

  pub row_reads : {T E : Type 0} (told : T) → IsAtRest g book
      → ReadsAtRest g {T = T} {E = E} book book (Ok told)
  row_reads told rests = stays_read g book book (Ok told) (stays_first g book rests)
      (λ clean. (row_told clean).0)

  pub row_found : is_open_at g book → row ≡ (content_at g book).rows key
  row_found o = sym (row_told o.0.0).1

-- the plan of a session that is known is kept
pub planned : {S : Type 0} (g : Ghosts S) (book : Held S) (known : Known) (row : RowFacts)
    → Knows (state g book) known → KnowsPlan known row → is_open_at g book
    → HasPlanOf row (state g book)
planned g book known row knows it o =
    let there = (row_told g book known knows (key_of row) (Some it.was) it.is o.0.0).1 in
    let kept = was_found (with_plan (plans_in_tables (state g book).now.trees (key_of row)))
    ((content_without_plans (state g book).now.trees).rows (key_of row)) it.was there in
    let told = plan_told (plans_in_tables (state g book).now.trees (key_of row)) kept.0 it.was
    kept.2 it.fits in
    told.1 ∙ ap Some (sym (ap (λ (r : RowFacts). r.plan) told.2) ∙ it.plan_is)
