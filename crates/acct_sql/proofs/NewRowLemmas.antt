-- Rows that an INSERT puts without a query before it. It fails if a row has the key, so none had
-- it.
use Rattle.std.proofs.Common.{◌≡◌, [], ◌∷◌, false, arith, refl, sym, ap, ◌∙◌}
use Rattle.std.proofs.Common.{Some, Ok, true≢false, pos}
use Rattle.std.specs.Map.{update}
use Rattle.std.specs.Ordering.{is_eq}
use Rattle.std.proofs.lemmas.Bool.{and_parts, not-true}
use Rattle.std.proofs.lemmas.Cmp.{tied_itself}
use Rattle.sqlite_value.proofs.OrderLemmas.{value_cmp_total}
use Rattle.sqlite.specs.declared.types.Value.TheVariants.{Null, Int}
use Rattle.sqlite.specs.Order.{Row, value_cmp}
use Rattle.sqlite.specs.Tree.{rowid}
use Rattle.sqlite.specs.Edit.{next_rowid}
use Rattle.sqlite.specs.State.{State, ExecutesInside}
use Rattle.sqlite_schema.specs.declared.schema.Keys.TheVariants.{Enforced}
use Rattle.sqlite_rules.specs.Lists.{Has}
use Rattle.acct_book.specs.Row.{RowFacts}
use Rattle.acct_book.specs.Content.{same_key, key_of}
use Rattle.acct_book.proofs.Keys.{key_refl}
use Rattle.acct_sql_tables.specs.Tables.{book_schema, session, session_plan}
use Rattle.acct_sql_tables.specs.Columns.{session_columns, session_plan_columns, code_of}
use Rattle.acct_sql_tables.specs.Columns.{framed_in, framed_octets}
use Rattle.acct_sql_tables.specs.Content.{is_session, without_plan}
use Rattle.acct_sql_tables.specs.Book.{IsBook}
use Rattle.acct_sql_tables.specs.inner.Inside.{HasMadeBare, HasSetPlan, with_row}
use Rattle.acct_sql_tables.specs.declared.statements.TheConstants as texts
use Rattle.acct_sql_tables.proofs.FindLemmas.{not_true}
use Rattle.acct_sql_tables.proofs.KeyLemmas.{one_session, one_session_plan}
use Rattle.acct_sql_tables.proofs.MadeLemmas.{IsBookIf, after_session, after_plan, rows_changed}
use Rattle.acct_sql_tables.proofs.MadeLemmas.{same_plans, made_new_plan}
use Rattle.acct_sql_tables.proofs.StatementLemmas.{inserts}
use Rattle.acct_sql_tables.proofs.ValueLemmas.{cast_int, cast_null}
use Rattle.acct_sql_tables.proofs.WriteLemmas.{inserted, insert_adds, insert_keeps, insert_tidy}
use Rattle.acct_sql_tables.proofs.WriteLemmas.{any_false}
use Rattle.acct_sql_tables.proofs.SessionLemmas as s
use Rattle.acct_sql_tables.proofs.SessionPlanLemmas as p
use Rattle.acct_sql_tables.proofs.TextLemmas as t

-- ---- session

module _ (row : RowFacts) (old new : State) (book : IsBook old.now)
    (done : s.IsInserted (Null ∷ session_columns row) old new) where
  abbrev put : Row
  put = inserted book_schema Enforced session old.now.trees new.now.trees
      (Null ∷ session_columns row) refl done.applies

  put_is : put ≡ Int (next_rowid (old.now.trees session.tree)) ∷ session_columns row
  put_is = rw (
    cast_null,
    cast_int (pos row.input),
    cast_int (pos row.output),
    cast_int (pos row.seconds),
    cast_int (pos row.first),
    cast_int (pos row.last),
    cast_int (pos (code_of row.state)),
    cast_int (pos row.cause),
  ) refl

  now_book : IsBook new.now
  now_book = after_session old.now new.now book done.schema done.sound
      (insert_tidy book_schema Enforced session old.now.trees new.now.trees
      (Null ∷ session_columns row) refl done.applies book.sessions
      (next_rowid (old.now.trees session.tree)) (ap rowid put_is))
      (done.applies.tables.1.1.0 (λ e. absurd (omega (arith, e))))
      (done.applies.tables.1.1.1.0 (λ e. absurd (omega (arith, e))))
      (done.applies.tables.1.1.1.1.1.1.0 (λ e. absurd (omega (arith, e))))

  apart : (r : Row) → Has (old.now.trees session.tree) r → rowid r ≡ rowid put → ⊥
  apart r h same =
      let free = not-true _ (and_parts _ _ done.applies.fresh).0 in
      let here = any_false (λ x. is_eq (value_cmp (rowid x) (rowid put)))
      (old.now.trees session.tree) r free h in
      absurd (true≢false (sym (ap is_eq (ap (λ v. value_cmp v (rowid put)) same
      ∙ tied_itself value_cmp_total (rowid put))) ∙ here))

  none_had : (r : Row) → Has (old.now.trees session.tree) r → is_session (key_of row) r ≡ false
  none_had r h = not_true (is_session (key_of row) r) (λ mine. apart r h (ap rowid
      (one_session new.now now_book (key_of row) r put
      (insert_keeps book_schema Enforced session old.now.trees new.now.trees
      (Null ∷ session_columns row) refl done.applies r h)
      (insert_adds book_schema Enforced session old.now.trees new.now.trees
      (Null ∷ session_columns row) refl done.applies)
      mine (ap (is_session (key_of row)) put_is ∙ key_refl (key_of row)))))

pub row_added : (row : RowFacts) → framed_in (framed_octets row.framed) ≡ row.framed
    → (old new : State) (count : _) → IsBookIf old
    → ExecutesInside 0 texts.NEW_SESSION.now (session_columns row) old new (Ok count)
    → HasMadeBare (λ c. with_row c (without_plan row)) old new
row_added row framed old new count books h =
    let book = books h.1.was_open in
    let params = session_columns row in
    let added = inserts 4 session.name session.tree session.columns (1 ∷ 2 ∷ []) refl (λ db. refl)
    (λ taken news. refl) texts.NEW_SESSION.now t.session_terms 14 params (Null ∷ params) old new
    count t.new_session_is t.new_session_plain refl book.schema h.0 in
    let accounts = added.applies.tables.1.1.0 (λ e. absurd (omega (arith, e))) in
    let vouchers = added.applies.tables.1.1.1.0 (λ e. absurd (omega (arith, e))) in
    let plans = added.applies.tables.1.1.1.1.1.1.0 (λ e. absurd (omega (arith, e))) in
    record {
      shows = h.1;
      book = now_book row old new book added;
      content = rows_changed old.now.trees new.now.trees
          (update same_key (s.rows_in (old.now.trees session.tree)) (key_of row)
          (Some (without_plan row)))
          (s.new_row row old new book framed added (none_had row old new book added))
          accounts vouchers;
      plans = ap p.plans_in plans;
      same_plans = same_plans 8 old.now.trees new.now.trees (omega arith)
          (λ e. absurd (omega (arith, e))) added.applies.tables;
    }

-- ---- session_plan

module _ (row : RowFacts) (old new : State) (book : IsBook old.now)
    (done : p.IsInserted (Null ∷ session_plan_columns row) old new) where
  abbrev plan_put : Row
  plan_put = inserted book_schema Enforced session_plan old.now.trees new.now.trees
      (Null ∷ session_plan_columns row) refl done.applies

  plan_put_is : plan_put
      ≡ Int (next_rowid (old.now.trees session_plan.tree)) ∷ session_plan_columns row
  plan_put_is = rw cast_null refl

  book_with_plan : IsBook new.now
  book_with_plan = after_plan old.now new.now book done.schema done.sound
      (insert_tidy book_schema Enforced session_plan old.now.trees new.now.trees
      (Null ∷ session_plan_columns row) refl done.applies book.plans
      (next_rowid (old.now.trees session_plan.tree)) (ap rowid plan_put_is))
      (done.applies.tables.1.1.0 (λ e. absurd (omega (arith, e))))
      (done.applies.tables.1.1.1.0 (λ e. absurd (omega (arith, e))))
      (done.applies.tables.1.1.1.1.0 (λ e. absurd (omega (arith, e))))

  plan_apart : (r : Row) → Has (old.now.trees session_plan.tree) r → rowid r ≡ rowid plan_put → ⊥
  plan_apart r h same =
      let free = not-true _ (and_parts _ _ done.applies.fresh).0 in
      let here = any_false (λ x. is_eq (value_cmp (rowid x) (rowid plan_put)))
      (old.now.trees session_plan.tree) r free h in
      absurd (true≢false (sym (ap is_eq (ap (λ v. value_cmp v (rowid plan_put)) same
      ∙ tied_itself value_cmp_total (rowid plan_put))) ∙ here))

  none_planned : (r : Row) → Has (old.now.trees session_plan.tree) r
      → is_session (key_of row) r ≡ false
  none_planned r h = not_true (is_session (key_of row) r) (λ mine. plan_apart r h (ap rowid
      (one_session_plan new.now book_with_plan (key_of row) r plan_put
      (insert_keeps book_schema Enforced session_plan old.now.trees new.now.trees
      (Null ∷ session_plan_columns row) refl done.applies r h)
      (insert_adds book_schema Enforced session_plan old.now.trees new.now.trees
      (Null ∷ session_plan_columns row) refl done.applies)
      mine (ap (is_session (key_of row)) plan_put_is ∙ key_refl (key_of row)))))

pub plan_added_blind : (row : RowFacts) (old new : State) (count : _) → IsBookIf old
    → ExecutesInside 0 texts.NEW_SESSION_PLAN.now (session_plan_columns row) old new (Ok count)
    → HasSetPlan (key_of row) row.plan old new
plan_added_blind row old new count books h =
    let book = books h.1.was_open in
    let params = session_plan_columns row in
    let added = inserts 6 session_plan.name session_plan.tree session_plan.columns (1 ∷ 2 ∷ [])
    refl (λ db. refl) (λ taken news. refl) texts.NEW_SESSION_PLAN.now t.session_plan_terms 4 params
    (Null ∷ params) old new count t.new_session_plan_is t.new_session_plan_plain refl book.schema
    h.0 in
    made_new_plan row old new count books (none_planned row old new book added) h
