-- The walk through the sessions of an older book, and its queries inside a transaction.
use Rattle.std.proofs.Common.{◌≡◌, ◌⊎◌, inl, inr, ℕ, ℤ, List, [], ◌∷◌, true, Option, Some, None, Ok}
use Rattle.std.proofs.Common.{Err}
use Rattle.std.proofs.Common.{Result, IsTrue, IfOk, IfErr, int_cmp, true≢false}
use Rattle.std.proofs.Common.{refl, sym, ap, ap₂, subst, ◌∙◌, slice_get}
use Rattle.std.specs.Ordering.{is_lt, ordering_then}
use Rattle.std.specs.declared.cmp.Ordering.TheVariants.{Equal, Greater}
use Rattle.std.proofs.lemmas.Bool.{and_parts, and_from}
use Rattle.sqlite_value.specs.declared.value.Value.{Value}
use Rattle.sqlite_value.proofs.OrderLemmas.{value_cmp-Int}
use Rattle.sqlite_sql.specs.Ops.{binary}
use Rattle.sqlite.specs.declared.types.Value.TheVariants.{Null, Int}
use Rattle.sqlite.specs.declared.error.Error.{Error}
use Rattle.sqlite.specs.Order.{Row, column, value_cmp}
use Rattle.sqlite.specs.Tree.{Trees, rowid}
use Rattle.sqlite.specs.Edit.{id_in}
use Rattle.sqlite.specs.Term.{Term}
use Rattle.sqlite.specs.Query.{IsAnswerAs}
use Rattle.sqlite.specs.Effect.{Database}
use Rattle.sqlite.specs.State.{State, KeepsCommit, IsUnchanged, Shown, FailsToQuery, IsTooLate}
use Rattle.sqlite.specs.Listing.{understood}
use Rattle.sqlite.proofs.Callers.{IsPlain}
use Rattle.sqlite_rules.specs.Lists.{Has}
use Rattle.acct_model.specs.declared.plan.Plan.{Plan}
use Rattle.acct_sql_tables.specs.Tables.{account, voucher, session, own_number}
use Rattle.acct_sql_tables.specs.Tidy.{IsTidy}
use Rattle.acct_sql_tables.specs.Book.{IsBook}
use Rattle.acct_sql_tables.specs.Make.{KeepsPrices, KeepsCounts}
use Rattle.acct_sql_tables.specs.Look.{HasNumberAlone}
use Rattle.acct_sql_tables.specs.inner.Migrating.{IsAfter, ShowsNext, HaveClasses, HasWritten}
use Rattle.acct_sql_tables.specs.declared.statements.TheConstants as texts
use Rattle.acct_sql_tables.proofs.TextLemmas as t
use Rattle.acct_sql_tables.proofs.TextLemmas.{class_shown, by_rowid, is_after}
use Rattle.acct_sql_tables.proofs.QueryLemmas.{over_table, meets, answer_of}
use Rattle.acct_sql_tables.proofs.NextLemmas.{one_row, none_met, least_met}
use Rattle.acct_sql_tables.proofs.WalkLemmas.{above, greater_is, is_greater, then_equal}
use Rattle.acct_sql_tables.proofs.ReadLemmas.{shown_same, shown_open, query_keeps}
use Rattle.acct_sql_tables.proofs.StepLemmas.{unchanged_keeps}

-- ---- rowids

int_above : (m n : ℤ) → above (Int m) (Int n) ≡ true → int_cmp m n ≡ Greater
unfolding binary
int_above m n h = sym (value_cmp-Int m n) ∙ greater_is _ h

above_int : (m n : ℤ) → int_cmp m n ≡ Greater → above (Int m) (Int n) ≡ true
unfolding binary
above_int m n h = is_greater _ (value_cmp-Int m n ∙ h)

ids_ranked : (j k : ℤ) (v w : Value) → v ≡ Int j → w ≡ Int k
    → ordering_then (value_cmp v w) Equal ≡ int_cmp j k
ids_ranked j k v w p q = ap₂ (λ a b. ordering_then (value_cmp a b) Equal) p q
    ∙ (then_equal _ ∙ value_cmp-Int j k)

-- ---- the first session after a rowid

module _ (db : Trees) (tidy : IsTidy (db session.tree)) (filter : List Term) (params : Row)
    (last : Option ℤ)
    (after_met : (s : Row) → Has (db session.tree) s → IsAfter last s
    → meets session.tree filter class_shown by_rowid Null db params s ≡ true)
    (met_after : (s : Row) → Has (db session.tree) s
    → meets session.tree filter class_shown by_rowid Null db params s ≡ true → IsAfter last s) where
  next_of : (rows : List Row) → IsAnswerAs Null
      (over_table session.tree filter class_shown by_rowid one_row) db params rows
      → ShowsNext last db rows
  next_of [] a = λ s there late. none_met session.tree filter class_shown by_rowid Null db params a
      s there (after_met s there late)
  next_of (row ∷ more) a =
      let r = least_met session.tree filter class_shown by_rowid Null db params row more a in (
        r.0,
        r.1,
        met_after r.0 r.1 r.2,
        record {
          rowid_is = ap (λ s. column s 0) r.3;
          client = ap (λ s. column s 1) r.3;
          id = ap (λ s. column s 2) r.3;
          class = ap (λ s. column s 3) r.3;
        },
        λ u there late less. true≢false (sym (ap is_lt (ids_ranked (id_in (rowid u))
            (id_in (rowid r.0)) _ _ (tidy.ints u there) (tidy.ints r.0 r.1) ∙ less))
            ∙ r.4 u there (after_met u there late)),
      )

module _ (old new : State) (rows : List Row) (book : IsBook old.now) where
  pub next_first : Shown texts.FIRST_CLASS.now [] old new rows → ShowsNext None old.now.trees rows
  next_first h = next_of old.now.trees book.sessions [] [] None (λ s there late. refl)
      (λ s there met. tt) rows (answer_of t.first_class [] old new rows book.schema h)

  pub next_after : (id : ℤ) → Shown texts.CLASS_AFTER.now (Int id ∷ []) old new rows
      → ShowsNext (Some id) old.now.trees rows
  next_after id h = next_of old.now.trees book.sessions (is_after 0 0 ∷ []) (Int id ∷ []) (Some id)
      (λ s there late. and_from _ _ (subst (λ v. above v (Int id) ≡ true)
      (sym (book.sessions.ints s there)) (above_int (id_in (rowid s)) id late)) refl)
      (λ s there met. int_above (id_in (rowid s)) id (subst (λ v. above v (Int id) ≡ true)
      (book.sessions.ints s there) (and_parts _ _ met).0))
      rows (answer_of t.class_after (Int id ∷ []) old new rows book.schema h)

-- ---- a query inside a transaction

-- what was written so far is still written after a query
pub written_on : (plans counts : List Plan) (last : Option ℤ) (old new : State)
    → IsUnchanged old new → HasWritten plans counts last old → HasWritten plans counts last new
written_on plans counts last old new same w =
    let tree = λ (t : ℕ). λ (was : old.now.trees t ≡ old.committed.trees t).
    ap (λ (d : Database). d.trees t) same.0.now_is ∙ (was
    ∙ ap (λ (d : Database). d.trees t) (sym same.0.committed_is)) in
    record {
      is_open = same.0.is_open;
      mode = same.0.mode ∙ w.mode;
      book = subst IsBook (sym same.0.now_is) w.book;
      number = subst (λ (d : Database). HasNumberAlone own_number d.trees) (sym same.0.now_is)
          w.number;
      accounts = tree account.tree w.accounts;
      vouchers = tree voucher.tree w.vouchers;
      sessions = tree session.tree w.sessions;
      prices_kept = subst (λ (d : Database). KeepsPrices plans d.trees) (sym same.0.now_is)
          w.prices_kept;
      counts_kept = subst (λ (d : Database). KeepsCounts counts d.trees) (sym same.0.now_is)
          w.counts_kept;
      classes = subst (λ (d : Database). HaveClasses plans last d.trees) (sym same.0.now_is)
          w.classes;
    }

-- the first of some rows, or that there is none
pub first_shown : (rows front : List Row) (row : Row) → front ≡ rows → Some row ≡ slice_get front 0
    → (more : List Row) × (rows ≡ row ∷ more)
first_shown rows [] row same is = absurd cc
first_shown rows (x ∷ more) row same is =
    let here : x ≡ row = cc in
    (more, sym same ∙ ap (λ r. r ∷ more) here)

pub none_shown : (rows front : List Row) → front ≡ rows → None ≡ slice_get front 0 → rows ≡ []
none_shown rows [] same is = sym same
none_shown rows (x ∷ more) same is = absurd cc

-- a query with no RETURNING commits nothing, whatever its result
pub plain_kept : (sql : List _) (params : Row) (old new : State) {V : Type 0} (items : V → List Row)
    (r : Result V Error) → (IsTrue old.is_open → IsPlain (understood old.now.schema sql))
    → IfOk r (λ rows. Shown sql params old new (items rows))
    → IfErr r (λ e. FailsToQuery sql params old new e ⊎ IsTooLate sql params old new e)
    → KeepsCommit old new
plain_kept sql params old new items (Ok rows) plain ok err = unchanged_keeps old new
    (shown_same sql params old new (items rows)
    (plain (shown_open sql params old new (items rows) ok).0) ok)
plain_kept sql params old new items (Err e) plain ok (inl failed) = query_keeps sql params old new e
    failed
plain_kept sql params old new items (Err e) plain ok (inr late) = unchanged_keeps old new late.5
