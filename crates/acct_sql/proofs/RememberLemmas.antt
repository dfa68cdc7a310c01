-- The clients that a book remembers have no live session.
use Rattle.std.proofs.Common.{◌≡◌, ◌≢◌, ◌⊎◌, inl, inr, ℕ, ℤ, List, [], ◌∷◌, ◌++◌, Bool, true, false}
use Rattle.std.proofs.Common.{cond}
use Rattle.std.proofs.Common.{Option, Some, None, option_map, Ok, Err, Result, OnOk, OnErr}
use Rattle.std.proofs.Common.{refl, sym, ap, subst, ◌∙◌, true≢false, bytes_eq}
use Rattle.std.proofs.lemmas.Slice.Eq.{bytes_eq-Decides}
use Rattle.sqlite.specs.Store.{Ghosts}
use Rattle.sqlite.specs.Held.{Held, state}
use Rattle.sqlite.specs.State.{State}
use Rattle.sqlite_rules.specs.Lists.{Has}
use Rattle.sqlite_rules.proofs.ListLemmas.{has_either, has_filtered, some_has}
use Rattle.std.specs.List.{list_any}
use Rattle.std.specs.Map.{update}
use Rattle.std.proofs.Common.{not, filter}
use Rattle.acct_model.specs.Vouchers.{TopUpFacts}
use Rattle.acct_book.specs.declared.key.Key.{Key}
use Rattle.acct_book.specs.declared.row.SessionState.{SessionState}
use Rattle.acct_book.specs.declared.row.SessionState.TheVariants.{Live, Closed, Stopped}
use Rattle.acct_book.specs.Row.{RowFacts}
use Rattle.acct_book.specs.Content.{Content, same_key, key_of, with_session, with_topup}
use Rattle.acct_book.specs.Content.{with_closed}
use Rattle.acct_book.specs.Content.{closed_by, closed_row, rows_without, with_forward}
use Rattle.acct_sql.specs.declared.memory.Memory.{Memory}
use Rattle.acct_sql_tables.specs.Content.{content_in_tables}
use Rattle.acct_sql_tables.specs.Book.{IsOpenBook, Wrote, content_at, is_open_at}
use Rattle.acct_sql_tables.specs.inner.AtRest.{ReadsAtRest, WritesAtRest}
use Rattle.acct_sql.specs.inner.Remembered.{HasEnded, AreEndedAfter, Remembers}

-- ---- a read

-- no client is remembered
pub remembers_none : (s : State) (memory : Memory) → memory.ended.items ≡ [] → Remembers s memory
remembers_none s memory none = record {
  ended = λ client there. absurd (subst (λ names. Has names client) none there);
}

-- a read leaves all of it true
pub remembers_read : {S T E : Type 0} {g : Ghosts S} {old new : Held S} {result : Result T E}
    {memory : Memory} → ReadsAtRest g old new result → Remembers (state g old) memory
    → Remembers (state g new) memory
remembers_read reads was = record {
  ended = λ client there o. subst (λ content. HasEnded content client)
      (sym (reads.read.same o)) (was.ended client there (reads.read.was_open o));
}

-- ---- a write

-- a row is live after live sessions were closed only if it was before
live_closed : (client : List ℕ) (row : RowFacts) → (closed_by client row).state ≡ Live
    → row.state ≡ Live
live_closed client row = go (bytes_eq client row.client) row.state refl
  where
    go : (b : Bool) (s : SessionState) → row.state ≡ s
        → (cond b (closed_row row s) row).state ≡ Live → row.state ≡ Live
    go false s is live = live
    go true Live is live = is
    go true Closed is live = live
    go true Stopped is live = live

-- a session keeps its client
client_closed : (client : List ℕ) (row : RowFacts) → (closed_by client row).client ≡ row.client
client_closed client row = go (bytes_eq client row.client) row.state
  where
    go : (b : Bool) (s : SessionState) → (cond b (closed_row row s) row).client ≡ row.client
    go false s = refl
    go true Live = refl
    go true Closed = refl
    go true Stopped = refl

-- no session of the client is live once they were closed
not_live : (row : RowFacts) → (closed_row row row.state).state ≢ Live
not_live row = go row.state refl
  where
    go : (s : SessionState) → row.state ≡ s → (closed_row row s).state ≢ Live
    go Live is = λ live. absurd cc
    go Closed is = λ live. let no : Closed ≡ Live = sym is ∙ live in absurd cc
    go Stopped is = λ live. let no : Stopped ≡ Live = sym is ∙ live in absurd cc

was_row : (client : List ℕ) (o : Option RowFacts) (row : RowFacts)
    → option_map (closed_by client) o ≡ Some row → (was : RowFacts) × (o ≡ Some was)
    × (row ≡ closed_by client was)
was_row client None row h = absurd cc
was_row client (Some was) row h = let same : closed_by client was ≡ row = cc in
    (was, refl, sym same)

pub closes : (content : Content) (client : List ℕ) → HasEnded (with_closed content client) client
closes content client key row is mine =
    let was = was_row client (content.rows key) row is in
    let yours : was.0.client ≡ client = sym (client_closed client was.0)
    ∙ (ap (λ (r : RowFacts). r.client) (sym was.2) ∙ mine) in
    let same : bytes_eq client was.0.client ≡ true = (bytes_eq-Decides client was.0.client).1
    (sym yours) in
    λ live. not_live was.0 (ap (λ b. (cond b (closed_row was.0 was.0.state) was.0).state)
    (sym same) ∙ (ap (λ (r : RowFacts). r.state) (sym was.2) ∙ live))

pub closes_others : (content : Content) (client other : List ℕ) → HasEnded content other
    → HasEnded (with_closed content client) other
closes_others content client other ended key row is mine live =
    let was = was_row client (content.rows key) row is in
    ended key was.0 was.1 (sym (client_closed client was.0)
    ∙ (ap (λ (r : RowFacts). r.client) (sym was.2) ∙ mine))
    (live_closed client was.0 (ap (λ (r : RowFacts). r.state) (sym was.2) ∙ live))

-- nothing is to be closed of a client that has no live session
pub closes_none : (content : Content) (client : List ℕ) → HasEnded content client
    → with_closed content client ≡ content
closes_none content client ended = λ i. record {
  rows = λ key. stays (content.rows key) (ended key) i;
  balances = content.balances;
  topups = content.topups;
  plans = content.plans;
}
  where
    as_it_is : (row : RowFacts) (b : Bool) (s : SessionState) → bytes_eq client row.client ≡ b
        → row.state ≡ s → (row.client ≡ client → row.state ≢ Live)
        → cond b (closed_row row s) row ≡ row
    as_it_is row false s mine is ended = refl
    as_it_is row true Live mine is ended = absurd
        (ended (sym ((bytes_eq-Decides client row.client).0 mine)) is)
    as_it_is row true Closed mine is ended = refl
    as_it_is row true Stopped mine is ended = refl

    stays : (o : Option RowFacts)
        → ((row : RowFacts) → o ≡ Some row → row.client ≡ client → row.state ≢ Live)
        → option_map (closed_by client) o ≡ o
    stays None ended = refl
    stays (Some row) ended = ap Some (as_it_is row (bytes_eq client row.client) row.state refl refl
        (ended row refl))

pub sets_none : (content : Content) (row : RowFacts) (balance : ℤ) (client : List ℕ)
    → (row.client ≡ client → row.state ≢ Live) → HasEnded content client
    → HasEnded (with_session content row balance) client
sets_none content row balance client calm ended key found is mine =
    go (same_key (key_of row) key) is
  where
    go : (b : Bool) → cond b (Some row) (content.rows key) ≡ Some found → found.state ≢ Live
    go true here = let same : row ≡ found = cc in
        λ live. calm (ap (λ (r : RowFacts). r.client) same ∙ mine)
        (ap (λ (r : RowFacts). r.state) same ∙ live)
    go false there = ended key found there mine

-- what is left under a key when others are removed was there before
left_there : (rows : Key → Option RowFacts) (gone : List Key) (key : Key) (row : RowFacts)
    → rows_without rows gone key ≡ Some row → rows key ≡ Some row
left_there rows [] key row h = h
left_there rows (first ∷ gone) key row h = go (same_key first key)
    (left_there (update same_key rows first None) gone key row h)
  where
    go : (b : Bool) → cond b None (rows key) ≡ Some row → rows key ≡ Some row
    go true is = absurd cc
    go false is = is

-- a session that is removed was none that is live, or is no more
forwards_none : (content : Content) (gone : List Key) (row : RowFacts) (client : List ℕ)
    → (row.client ≡ client → row.state ≢ Live) → HasEnded content client
    → HasEnded (with_forward content gone row) client
forwards_none content gone row client calm ended key found is mine =
    go (same_key (key_of row) key) is
  where
    go : (b : Bool) → cond b (Some row) (rows_without content.rows gone key) ≡ Some found
        → found.state ≢ Live
    go true here = let same : row ≡ found = cc in
        λ live. calm (ap (λ (r : RowFacts). r.client) same ∙ mine)
        (ap (λ (r : RowFacts). r.state) same ∙ live)
    go false there = ended key found (left_there content.rows gone key found there) mine

-- what held of the content before and holds of what was written holds after
pub holds_after : {S T E : Type 0} (g : Ghosts S) (old new : Held S) (change : Content → Content)
    (P : Content → Type 0) (result : Result T E) → Wrote g old new change result
    → (is_open_at g old → P (content_at g old))
    → (P (content_at g old) → P (change (content_at g old)))
    → is_open_at g new → P (content_at g new)
holds_after g old new change P (Ok x) w was then o =
    subst P (sym (w.ok o)) (then (was (w.was_open o)))
holds_after g old new change P (Err e) w was then o = subst P (sym (w.err o)) (was (w.was_open o))

told : {T E P : Type 0} (r : Result T E) → P → OnOk r P
told (Ok x) p = p
told (Err e) p = tt

untold : {T E P : Type 0} (r : Result T E) → P → OnErr r P
untold (Ok x) p = tt
untold (Err e) p = p

-- a read is a write of what is there already
pub read_writes : {S T E : Type 0} (g : Ghosts S) (old new : Held S) (change : Content → Content)
    (result : Result T E) → ReadsAtRest g old new result
    → (is_open_at g old → change (content_at g old) ≡ content_at g old)
    → WritesAtRest g old new change result
read_writes g old new change result reads same = record {
  resting = reads.resting;
  wrote = record {
    was_sound = reads.read.was_sound;
    was_open = reads.read.was_open;
    keeps_steady = reads.read.keeps_steady;
    answers = reads.read.answers;
    ok = λ o. told result (reads.read.same o ∙ sym (same (reads.read.was_open o)));
    err = λ o. untold result (reads.read.same o);
    adds_written = λ clean c left. inl (reads.read.adds_none clean c left);
  };
  plans = reads.plans;
}

not_true : (b : Bool) → not b ≡ true → b ≡ false
not_true false is = refl
not_true true is = absurd (true≢false (sym is))

module _ {S T E : Type 0} {g : Ghosts S} {old new : Held S} {before : Memory}
    {change : Content → Content} {result : Result T E} where
  remembers_by : {after : Memory} → Remembers (state g old) before
      → WritesAtRest g old new change result
      → ((client : List ℕ) → Has after.ended.items client → Has before.ended.items client
      × (HasEnded (content_at g old) client → HasEnded (change (content_at g old)) client))
      → Remembers (state g new) after
  remembers_by was w stays = record {
    ended = λ client there o.
        let it = stays client there in
        holds_after g old new change (λ content. HasEnded content client) result w.wrote
        (was.ended client it.0) it.1 o;
  }

module _ {S T E : Type 0} {g : Ghosts S} {old new : Held S} {before after : Memory}
    {result : Result T E} (was : Remembers (state g old) before) where
  -- a row was set
  pub remembers_set : (row : RowFacts) (balance : ℤ)
      → WritesAtRest g old new (λ content. with_session content row balance) result
      → AreEndedAfter row before.ended.items after.ended.items → Remembers (state g new) after
  remembers_set row balance w ended = remembers_by was w (λ client there.
      let it = ended client there in
      (it.0, sets_none (content_at g old) row balance client it.1))

  -- sessions were removed and a row was set
  pub remembers_forward : (gone : List Key) (row : RowFacts)
      → WritesAtRest g old new (λ content. with_forward content gone row) result
      → AreEndedAfter row before.ended.items after.ended.items → Remembers (state g new) after
  remembers_forward gone row w ended = remembers_by was w (λ client there.
      let it = ended client there in
      (it.0, forwards_none (content_at g old) gone row client it.1))

module _ {S T E : Type 0} {g : Ghosts S} {old new : Held S} {memory : Memory}
    {result : Result T E} (was : Remembers (state g old) memory) where
  -- a top-up was set
  pub remembers_credit : (topup : TopUpFacts) (balance : ℤ)
      → WritesAtRest g old new (λ content. with_topup content topup balance) result
      → Remembers (state g new) memory
  remembers_credit topup balance w = remembers_by was w (λ client there. (there, λ ended. ended))

  -- the live sessions of a client were closed
  pub remembers_close : (client : List ℕ)
      → WritesAtRest g old new (λ content. with_closed content client) result
      → Remembers (state g new) memory
  remembers_close client w = remembers_by was w (λ other there.
      (there, closes_others (content_at g old) client other))

-- the client has no live session then
pub closed_now : {S T E : Type 0} {g : Ghosts S} {old new : Held S} {result : Result T E} {x : T}
    (client : List ℕ) → result ≡ Ok x
    → WritesAtRest g old new (λ content. with_closed content client) result → is_open_at g new
    → HasEnded (content_at g new) client
closed_now {g = g} {old = old} {new = new} client is w o =
    let v = subst (λ r. Wrote g old new (λ content. with_closed content client) r) is w.wrote in
    subst (λ content. HasEnded content client) (sym (v.ok o)) (closes (content_at g old) client)

-- one client more is remembered, or none
pub remembers_more : {s : State} {before after : Memory} (client : List ℕ) → Remembers s before
    → (after.ended.items ≡ before.ended.items)
    ⊎ (after.ended.items ≡ before.ended.items ++ client ∷ [])
    → (IsOpenBook s → HasEnded (content_in_tables s.now.trees) client) → Remembers s after
remembers_more {s = s} {before = before} {after = after} client was more ended = record {
  ended = λ other there. go more other there;
}
  where
    go : (after.ended.items ≡ before.ended.items)
        ⊎ (after.ended.items ≡ before.ended.items ++ client ∷ []) → (other : List ℕ)
        → Has after.ended.items other → IsOpenBook s
        → HasEnded (content_in_tables s.now.trees) other
    go (inl is) other there = was.ended other (subst (λ names. Has names other) is there)
    go (inr is) other there = elim (has_either before.ended.items (client ∷ []) other
        (subst (λ names. Has names other) is there)) [
          | inl before ↦ was.ended other before
          | inr last ↦ elim last [
            | inl same ↦ λ o. subst (HasEnded (content_in_tables s.now.trees)) (sym same) (ended o)
            | inr none ↦ absurd none
          ]
        ]

-- a client that is remembered has no live session
pub has_ended : (s : State) (memory : Memory) (client : List ℕ) → Remembers s memory
    → list_any (bytes_eq client) memory.ended.items ≡ true → IsOpenBook s
    → HasEnded (content_in_tables s.now.trees) client
has_ended s memory client was known o =
    let name = some_has (bytes_eq client) memory.ended.items known in
    subst (HasEnded (content_in_tables s.now.trees))
    (sym ((bytes_eq-Decides client name.0).0 name.2)) (was.ended name.0 name.1 o)

-- a client that is live is none of those that are left
pub ended_after : (row : RowFacts) (client : List ℕ) (old new : List (List ℕ))
    → client ≡ row.client → new ≡ filter (λ name. not (bytes_eq client name)) old
    → AreEndedAfter row old new
ended_after row client old new same is other there =
    let it = has_filtered (λ name. not (bytes_eq client name)) old other
    (subst (λ names. Has names other) is there) in (
      it.0,
      λ mine live. true≢false (sym ((bytes_eq-Decides client other).1 (same ∙ mine))
          ∙ not_true (bytes_eq client other) it.1),
    )
