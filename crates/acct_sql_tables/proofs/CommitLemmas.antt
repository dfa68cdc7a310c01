-- A transaction as a call that writes: all of its change, or nothing.
use Rattle.std.proofs.Common.{◌≡◌, ◌⊎◌, inl, inr, true, false, Bool, Ok, Err, Result, IsTrue, IsOk}
use Rattle.std.proofs.Common.{OnOk, OnErr, refl, sym, ap, subst, ◌∙◌, arith}
use Rattle.sqlite.specs.Store.{Ghosts}
use Rattle.sqlite.specs.Tree.{Trees}
use Rattle.sqlite.specs.Effect.{Database}
use Rattle.sqlite.specs.State.{State, HasCleanDisk, Survives, KeepsCommit, IsRolledBack, Shows}
use Rattle.sqlite.specs.Held.{Held, state}
use Rattle.sqlite.proofs.StateLemmas.{survives_then, survives_weaker}
use Rattle.sqlite.proofs.Callers.{survives_begin}
use Rattle.acct_book.specs.Content.{Content}
use Rattle.acct_book.specs.Book.{Writes}
use Rattle.acct_book.specs.declared.book.Unavailable.{Unavailable}
use Rattle.acct_sql_tables.specs.Content.{content_in_tables}
use Rattle.acct_sql_tables.specs.Book.{IsBook, IsResting, IsOpenBook, content_at, is_sound_at}
use Rattle.acct_sql_tables.specs.Book.{is_open_at}
use Rattle.acct_sql_tables.specs.Book.{is_steady_at, left_at, HasSamePlans, LeavesPlans}
use Rattle.acct_sql_tables.specs.inner.Inside.{HasMade, HasFinished}
use Rattle.acct_sql_tables.specs.Book.{Wrote}
use Rattle.acct_sql_tables.specs.inner.AtRest.{WritesAtRest}

-- what holds of a value that is there
pub of_ok : {T E : Type 0} {P : Type 0} (r : Result T E) → IsOk r → OnOk r P → P
of_ok (Ok x) is p = p
of_ok (Err e) is p = absurd (let no_ok : false ≡ true = is in cc)

module _ {S T E F : Type 0} (g : Ghosts S) (old end : Held S) (mid : State)
    (change : Content → Content) (done : Result T F) (result : Result T E)
    (resting : IsResting (state g old)) where
  abbrev begun : State
  begun = state g (record old { in_transaction = true })

  abbrev last : State
  last = state g end

  module _ (kept : HasCleanDisk mid → KeepsCommit begun mid)
      (made : HasCleanDisk mid → OnOk done (HasMade change begun mid))
      (inside : Survives begun mid (λ _. ⊥)) (finished : HasFinished done mid last result) where
    mid_clean : HasCleanDisk last → HasCleanDisk mid
    mid_clean clean = omega (arith, finished.survives.clean, clean)

    old_clean : HasCleanDisk last → HasCleanDisk (state g old)
    old_clean clean = omega (arith, inside.clean, mid_clean clean)

    -- the whole change was made
    has_made : HasCleanDisk last → IsOk done → HasMade change begun mid
    has_made clean is = of_ok done is (made (mid_clean clean))

    open_mode : (b : Bool) → b ≡ true → b ≡ false → ⊥
    open_mode true on off = absurd cc
    open_mode false on off = absurd cc

    rolled : HasCleanDisk last → IsRolledBack mid last ⊎ (IsOk done × (mid.in_transaction ≡ false))
        → IsRolledBack mid last
    rolled clean (inl back) = back
    rolled clean (inr ended) = absurd (open_mode mid.in_transaction
        (has_made clean ended.0).shows.mode ended.1)

    undone : HasCleanDisk last → IsRolledBack mid last → IsTrue last.is_open → last.now
        ≡ (state g old).now
    undone clean r o =
        let k = kept (mid_clean clean) in
        (r.undone o).0 ∙ (k.committed (r.was_open o) ∙ sym
        (resting.settled (old_clean clean) (k.was_open (r.was_open o))))

    was_open : HasCleanDisk last → (r : Result T E) → OnOk r
        (IsOk done × Shows mid last mid.now mid.now false)
        → OnErr r (IsRolledBack mid last ⊎ (IsOk done × (mid.in_transaction ≡ false)))
        → IsTrue last.is_open → IsTrue (state g old).is_open
    was_open clean (Ok x) ok err o = (kept (mid_clean clean)).was_open ok.1.was_open
    was_open clean (Err e) ok err o = (kept (mid_clean clean)).was_open
        ((rolled clean err).was_open o)

    telling : HasCleanDisk last → (r : Result T E) → OnOk r
        (IsOk done × Shows mid last mid.now mid.now false) → OnOk r (IsOpenBook last)
    telling clean (Ok x) ok = ((clean, ok.1.is_open), ok.1.now_is ∙ sym ok.1.committed_is)
    telling clean (Err e) ok = tt

    written : HasCleanDisk last → (r : Result T E) → OnOk r
        (IsOk done × Shows mid last mid.now mid.now false)
        → OnOk r (content_at g end ≡ change (content_at g old))
    written clean (Ok x) ok = ap (λ (d : Database). content_in_tables d.trees) ok.1.now_is
        ∙ (has_made clean ok.0).content
    written clean (Err e) ok = tt

    unwritten : HasCleanDisk last → IsTrue last.is_open → (r : Result T E)
        → OnErr r (IsRolledBack mid last ⊎ (IsOk done × (mid.in_transaction ≡ false)))
        → OnErr r (content_at g end ≡ content_at g old)
    unwritten clean o (Ok x) err = tt
    unwritten clean o (Err e) err = ap (λ (d : Database). content_in_tables d.trees)
        (undone clean (rolled clean err) o)

    settled_by : HasCleanDisk last → IsTrue last.is_open → (r : Result T E)
        → OnOk r (IsOk done × Shows mid last mid.now mid.now false)
        → OnErr r (IsRolledBack mid last ⊎ (IsOk done × (mid.in_transaction ≡ false))) → last.now
        ≡ last.committed
    settled_by clean o (Ok x) ok err = ok.1.now_is ∙ sym ok.1.committed_is
    settled_by clean o (Err e) ok err = let r = rolled clean err in (r.undone o).0
        ∙ sym (r.undone o).1

    book_by : HasCleanDisk last → IsTrue last.is_open → (r : Result T E)
        → OnOk r (IsOk done × Shows mid last mid.now mid.now false)
        → OnErr r (IsRolledBack mid last ⊎ (IsOk done × (mid.in_transaction ≡ false)))
        → IsBook last.now
    book_by clean o (Ok x) ok err = subst IsBook (sym ok.1.now_is) (has_made clean ok.0).book
    book_by clean o (Err e) ok err =
        let r = rolled clean err in
        let k = kept (mid_clean clean) in
        subst IsBook (sym (undone clean r o)) (resting.book (old_clean clean)
        (k.was_open (r.was_open o)))

    stay_by : HasCleanDisk last → IsTrue last.is_open
        → (HasCleanDisk mid → OnOk done (mid.now ≡ (state g old).now)) → (r : Result T E)
        → OnOk r (IsOk done × Shows mid last mid.now mid.now false)
        → OnErr r (IsRolledBack mid last ⊎ (IsOk done × (mid.in_transaction ≡ false))) → last.now
        ≡ (state g old).now
    stay_by clean o looked (Ok x) ok err = ok.1.now_is ∙ of_ok done ok.0 (looked (mid_clean clean))
    stay_by clean o looked (Err e) ok err = undone clean (rolled clean err) o

    -- after a read the tables are as they were
    pub tables_stay : (HasCleanDisk mid → OnOk done (mid.now ≡ (state g old).now))
        → IsOpenBook last → last.now ≡ (state g old).now
    tables_stay looked o = stay_by o.0.0 o.0.1 looked result (finished.ok o.0.0)
        (finished.err o.0.0)

    rests : IsResting last
    rests = record {
      autocommit = finished.ended;
      settled = λ clean o. settled_by clean o result (finished.ok clean) (finished.err clean);
      book = λ clean o. book_by clean o result (finished.ok clean) (finished.err clean);
    }

    plans_by : HasCleanDisk last → IsTrue last.is_open → (r : Result T E)
        → OnOk r (IsOk done × Shows mid last mid.now mid.now false)
        → OnErr r (IsRolledBack mid last ⊎ (IsOk done × (mid.in_transaction ≡ false)))
        → HasSamePlans (state g old).now.trees last.now.trees
    plans_by clean o (Ok x) ok err = subst (λ (d : Database). HasSamePlans (state g old).now.trees
        d.trees) (sym ok.1.now_is) (has_made clean ok.0).same_plans
    plans_by clean o (Err e) ok err = subst (λ (d : Database). HasSamePlans (state g old).now.trees
        d.trees) (sym (undone clean (rolled clean err) o))
        (record { number = refl; prices = refl; counts = refl })

    abbrev Whole : Trees → Type 0
    Whole db = IsOpenBook (state g old) × (content_in_tables db ≡ change (content_at g old))
        × HasSamePlans (state g old).now.trees db

    crash : Survives (state g old) last Whole
    crash = survives_begin g old last Whole (survives_then begun mid last (λ _. ⊥)
        (λ db. IsOk done × (db ≡ mid.now.trees)) Whole (λ _ db none. absurd none)
        (λ clean db is. let m = has_made clean is.0 in (
          (
            (old_clean clean, m.shows.was_open),
            resting.settled (old_clean clean) m.shows.was_open,
          ),
          ap content_in_tables is.1 ∙ m.content,
          subst (HasSamePlans (state g old).now.trees) (sym is.1) m.same_plans,
        ))
        inside finished.survives)

    wrote : Wrote g old end change result
    wrote = record {
      was_sound = old_clean;
      was_open = λ o. let early = was_open o.0.0 result (finished.ok o.0.0) (finished.err o.0.0)
          o.0.1 in ((old_clean o.0.0, early), resting.settled (old_clean o.0.0) early);
      keeps_steady = λ no_book. no_book;
      answers = λ clean. telling clean result (finished.ok clean);
      ok = λ o. written o.0.0 result (finished.ok o.0.0);
      err = λ o. unwritten o.0.0 o.0.1 result (finished.err o.0.0);
      adds_written = λ clean c left. elim (crash.crash clean left.0 left.1) [
        | inl was ↦ inl (left.0, was, left.2)
        | inr whole ↦ inr (whole.0, left.2 ∙ whole.1)
      ];
    }

    leaves_plans : LeavesPlans (state g old) last
    leaves_plans = record {
      shows = λ o. plans_by o.0.0 o.0.1 result (finished.ok o.0.0) (finished.err o.0.0);
      survives = survives_weaker (state g old) last Whole
          (λ db. IsOpenBook (state g old) × HasSamePlans (state g old).now.trees db)
          (λ clean db whole. (whole.0, whole.2)) crash;
    }

    pub writes_at_rest : WritesAtRest g old end change result
    writes_at_rest = record { resting = rests; wrote = wrote; plans = leaves_plans }

-- ---- the same write, with the book's error as its result

pub unavailable : Unavailable
unavailable = record {}

pub wrote_told : {S T U E : Type 0} (g : Ghosts S) (old inside new : Held S)
    (change : Content → Content) (r : Result T E) (e : E) → inside ≡ old → r ≡ Err e
    → Wrote g inside new change r
    → Writes {T = U} {E = Unavailable} (content_at g) (is_sound_at g) (is_open_at g)
    (is_steady_at g) (left_at g) old new (change (content_at g old)) (Err unavailable)
wrote_told {E = E} g old inside new change r e same is w =
    let v = subst (λ k. Wrote g old new change k) is (subst (λ k. Wrote g k new change r) same w) in
    record {
      was_sound = v.was_sound;
      was_open = v.was_open;
      keeps_steady = v.keeps_steady;
      answers = λ clean. tt;
      ok = λ o. tt;
      err = v.err;
      adds_written = v.adds_written;
    }

pub wrote_done : {S T E : Type 0} (g : Ghosts S) (old inside new : Held S)
    (change : Content → Content) (r : Result T E) (x : T) → inside ≡ old → r ≡ Ok x
    → Wrote g inside new change r
    → Writes {T = T} {E = Unavailable} (content_at g) (is_sound_at g) (is_open_at g)
    (is_steady_at g) (left_at g) old new (change (content_at g old)) (Ok x)
wrote_done {T = T} {E = E} g old inside new change r x same is w =
    let v = subst (λ k. Wrote g {T = T} {E = E} k new change (Ok x)) same
    (subst (λ (k : Result T E). Wrote g inside new change k) is w) in
    record {
      was_sound = v.was_sound;
      was_open = v.was_open;
      keeps_steady = v.keeps_steady;
      answers = v.answers;
      ok = v.ok;
      err = λ o. tt;
      adds_written = v.adds_written;
    }
