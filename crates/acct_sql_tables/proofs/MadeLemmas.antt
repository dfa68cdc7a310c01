-- What the statements inside a transaction make of the content of a book.
use Rattle.std.proofs.Common.{◌≡◌, ◌≢◌, ℕ, ℤ, List, [], ◌∷◌, drop, cond, Ok, IsTrue, Option, Some}
use Rattle.std.proofs.Common.{inl, inr, option_map, refl, sym, ap, subst, ◌∙◌, arith, bytes_eq}
use Rattle.std.proofs.Common.{Bool, true, false, None, ◌≤◌}
use Rattle.std.specs.List.{AllByRecursion}
use Rattle.std.specs.Map.{update}
use Rattle.sqlite.specs.declared.types.Value.TheVariants.{Null, Int, Text, Blob}
use Rattle.sqlite.specs.Order.{Row, column}
use Rattle.sqlite.specs.Tree.{Trees, rowid}
use Rattle.sqlite.specs.Term.{Term, eval_all}
use Rattle.sqlite.specs.Edit.{next_rowid}
use Rattle.sqlite.specs.Effect.{Database, IsDatabase}
use Rattle.sqlite.specs.Command.TheVariants.{Update}
use Rattle.sqlite.specs.Listing.{understood}
use Rattle.sqlite.proofs.Callers.{IsPlain, command_of}
use Rattle.acct_book.specs.declared.key.Key.{Key}
use Rattle.acct_sql_tables.specs.Tables.{book_schema, account, voucher, session, session_plan}
use Rattle.acct_sql_tables.specs.Tidy.{IsTidy}
use Rattle.acct_sql_tables.specs.Columns.{session_columns, session_plan_columns, topup_columns}
use Rattle.acct_sql_tables.specs.Columns.{framed_in, framed_octets}
use Rattle.acct_sql_tables.specs.Content.{content_in_tables, content_without_plans, plans_in_tables}
use Rattle.acct_sql_tables.specs.Content.{with_plan, with_plans, with_list, listed_in_tables}
use Rattle.acct_sql_tables.specs.Content.{is_session}
use Rattle.acct_sql_tables.specs.Book.{IsBook, HasSamePlans}
use Rattle.acct_sql_tables.specs.inner.Inside.{HasPut, with_row, with_balance, with_voucher}
use Rattle.acct_sql_tables.specs.inner.Inside.{HasMade}
use Rattle.acct_sql_tables.specs.Content.{without_plan}
use Rattle.acct_sql_tables.specs.inner.Inside.{HasMadeBare, HasSetPlan}
use Rattle.acct_sql_tables.proofs.QueryLemmas.{over_table, all_rows}
use Rattle.sqlite.specs.State.{State, Executes, ExecutesInside}
use Rattle.sqlite.specs.Store.{Ghosts}
use Rattle.sqlite.specs.Held.{state}
use Rattle.sqlite_schema.specs.declared.schema.Keys.TheVariants.{Enforced}
use Rattle.sqlite_rules.specs.Lists.{Has}
use Rattle.acct_model.specs.Vouchers.{TopUpFacts}
use Rattle.acct_book.specs.Row.{RowFacts}
use Rattle.acct_book.specs.Content.{Content, same_key, key_of, with_closed, closed_by}
use Rattle.acct_book.specs.Content.{closed_row}
use Rattle.acct_book.specs.declared.row.SessionState.{SessionState}
use Rattle.acct_book.specs.declared.row.SessionState.TheVariants.{Live, Closed, Stopped}
use Rattle.acct_sql_tables.specs.declared.statements.TheConstants as texts
use Rattle.acct_sql_tables.proofs.TextLemmas as t
use Rattle.acct_sql_tables.proofs.StatementLemmas.{updates, inserts}
use Rattle.acct_sql_tables.proofs.WriteLemmas.{update_tidy, insert_tidy}
use Rattle.acct_sql_tables.proofs.ListedLemmas.{same_listed}
use Rattle.acct_sql_tables.proofs.SessionLemmas as s
use Rattle.acct_sql_tables.proofs.SessionPlanLemmas as p
use Rattle.acct_sql_tables.proofs.CloseLemmas as c
use Rattle.acct_sql_tables.proofs.AccountLemmas as a
use Rattle.acct_sql_tables.proofs.VoucherLemmas as v

-- ---- the tables that a statement does not write

pub after_session : (old new : Database) → IsBook old → new.schema ≡ book_schema → IsDatabase new
    → IsTidy (new.trees session.tree) → new.trees account.tree ≡ old.trees account.tree
    → new.trees voucher.tree ≡ old.trees voucher.tree
    → new.trees session_plan.tree ≡ old.trees session_plan.tree → IsBook new
after_session old new book schema sound tidy accounts vouchers plans =
    record {
      schema = schema;
      sound = sound;
      accounts = subst IsTidy (sym accounts) book.accounts;
      vouchers = subst IsTidy (sym vouchers) book.vouchers;
      sessions = tidy;
      plans = subst IsTidy (sym plans) book.plans;
    }

after_account : (old new : Database) → IsBook old → new.schema ≡ book_schema → IsDatabase new
    → IsTidy (new.trees account.tree) → new.trees voucher.tree ≡ old.trees voucher.tree
    → new.trees session.tree ≡ old.trees session.tree
    → new.trees session_plan.tree ≡ old.trees session_plan.tree → IsBook new
after_account old new book schema sound tidy vouchers sessions plans =
    record {
      schema = schema;
      sound = sound;
      accounts = tidy;
      vouchers = subst IsTidy (sym vouchers) book.vouchers;
      sessions = subst IsTidy (sym sessions) book.sessions;
      plans = subst IsTidy (sym plans) book.plans;
    }

after_voucher : (old new : Database) → IsBook old → new.schema ≡ book_schema → IsDatabase new
    → IsTidy (new.trees voucher.tree) → new.trees account.tree ≡ old.trees account.tree
    → new.trees session.tree ≡ old.trees session.tree
    → new.trees session_plan.tree ≡ old.trees session_plan.tree → IsBook new
after_voucher old new book schema sound tidy accounts sessions plans =
    record {
      schema = schema;
      sound = sound;
      accounts = subst IsTidy (sym accounts) book.accounts;
      vouchers = tidy;
      sessions = subst IsTidy (sym sessions) book.sessions;
      plans = subst IsTidy (sym plans) book.plans;
    }

pub after_plan : (old new : Database) → IsBook old → new.schema ≡ book_schema → IsDatabase new
    → IsTidy (new.trees session_plan.tree) → new.trees account.tree ≡ old.trees account.tree
    → new.trees voucher.tree ≡ old.trees voucher.tree
    → new.trees session.tree ≡ old.trees session.tree → IsBook new
after_plan old new book schema sound tidy accounts vouchers sessions =
    record {
      schema = schema;
      sound = sound;
      accounts = subst IsTidy (sym accounts) book.accounts;
      vouchers = subst IsTidy (sym vouchers) book.vouchers;
      sessions = subst IsTidy (sym sessions) book.sessions;
      plans = tidy;
    }

-- a statement that writes another table leaves the plans and the number
pub same_plans : (tree : ℕ) (old new : Trees) → 4 ≤ tree → tree ≢ 12 → AllByRecursion
    (λ t. t.tree ≢ tree → new t.tree ≡ old t.tree) book_schema.tables → HasSamePlans old new
same_plans tree old new high other tables = record {
  number = tables.0 (λ e. absurd (omega (arith, high, e)));
  prices = tables.1.0 (λ e. absurd (omega (arith, high, e)));
  counts = tables.1.1.1.1.1.0 (λ e. other (sym e));
}

pub same_plans_then : (old mid new : Trees) → HasSamePlans old mid → HasSamePlans mid new
    → HasSamePlans old new
same_plans_then old mid new first second = record {
  number = second.number ∙ first.number;
  prices = second.prices ∙ first.prices;
  counts = second.counts ∙ first.counts;
}

-- the content with other rows, other balances, other top-ups
pub rows_changed : (old new : Trees) (f : Key → Option RowFacts)
    → ((key : Key) → s.rows_in (new session.tree) key ≡ f key) → new account.tree ≡ old account.tree
    → new voucher.tree ≡ old voucher.tree → content_without_plans new ≡ record {
      rows = f;
      balances = (content_in_tables old).balances;
      topups = (content_in_tables old).topups;
      plans = None;
    }
rows_changed old new f rows accounts vouchers = λ i. record {
  rows = λ key. rows key i;
  balances = a.balances_in (accounts i);
  topups = v.topups_in (vouchers i);
  plans = None;
}

balances_changed : (old new : Trees) (f : List ℕ → Option ℤ)
    → ((name : List ℕ) → a.balances_in (new account.tree) name ≡ f name) → new voucher.tree
    ≡ old voucher.tree → new session.tree ≡ old session.tree
    → new session_plan.tree ≡ old session_plan.tree → HasSamePlans old new
    → content_in_tables new ≡ record {
      rows = (content_in_tables old).rows;
      balances = f;
      topups = (content_in_tables old).topups;
      plans = (content_in_tables old).plans;
    }
balances_changed old new f balances vouchers sessions plans same = λ i. record {
  rows = λ key. option_map (with_plan (p.plans_in (plans i) key)) (s.rows_in (sessions i) key);
  balances = λ name. balances name i;
  topups = v.topups_in (vouchers i);
  plans = Some (same_listed old new same i);
}

topups_changed : (old new : Trees) (f : List ℕ → Option TopUpFacts)
    → ((number : List ℕ) → v.topups_in (new voucher.tree) number ≡ f number) → new account.tree
    ≡ old account.tree → new session.tree ≡ old session.tree
    → new session_plan.tree ≡ old session_plan.tree → HasSamePlans old new
    → content_in_tables new ≡ record {
      rows = (content_in_tables old).rows;
      balances = (content_in_tables old).balances;
      topups = f;
      plans = (content_in_tables old).plans;
    }
topups_changed old new f topups accounts sessions plans same = λ i. record {
  rows = λ key. option_map (with_plan (p.plans_in (plans i) key)) (s.rows_in (sessions i) key);
  balances = a.balances_in (accounts i);
  topups = λ number. topups number i;
  plans = Some (same_listed old new same i);
}

abbrev pub IsBookIf : State → Type 0
IsBookIf old = IsTrue old.is_open → IsBook old.now

-- ---- one write after another

pub made_then : (old mid new : State) (f g : Content → Content) → HasMade f old mid
    → HasMade g mid new → HasMade (λ c. g (f c)) old new
made_then old mid new f g first second = record {
  shows = record {
    was_open = first.shows.was_open;
    is_open = second.shows.is_open;
    now_is = refl;
    committed_is = second.shows.committed_is ∙ first.shows.committed_is;
    mode = second.shows.mode;
  };
  book = second.book;
  content = second.content ∙ ap g first.content;
  same_plans = same_plans_then old.now.trees mid.now.trees new.now.trees first.same_plans
      second.same_plans;
}

-- ---- session

session_updates : (text : List ℕ) (filter project : List Term) (params : Row) (old new : State)
    (count : ℕ)
    → command_of (understood book_schema text) ≡ Update 4
    (record { lets = []; body = over_table session.tree filter project [] all_rows })
    → IsPlain (understood book_schema text)
    → old.now.schema ≡ book_schema → Executes text params old new (Ok count)
    → s.IsUpdatedBy filter project params old new count
session_updates = updates 4 session.name session.tree session.columns (1 ∷ 2 ∷ []) refl (λ db. refl)
    (λ taken news. refl)

session_kept : (params : Row) (filter project : List Term) (old new : State) (count : ℕ)
    → s.IsUpdatedBy filter project params old new count → (new.now.trees account.tree
    ≡ old.now.trees account.tree) × (new.now.trees voucher.tree ≡ old.now.trees voucher.tree)
    × (new.now.trees session_plan.tree ≡ old.now.trees session_plan.tree)
session_kept params filter project old new count done = (
  done.applies.tables.1.1.0
      (λ e. absurd (omega (arith, e))),
  done.applies.tables.1.1.1.0 (λ e. absurd (omega (arith, e))),
  done.applies.tables.1.1.1.1.1.1.0 (λ e. absurd (omega (arith, e))),
)

session_tidy : (filter project : List Term) (params : Row) (old new : State) (count : ℕ)
    (book : IsBook old.now) (done : s.IsUpdatedBy filter project params old new count)
    → ((r : Row) → rowid (eval_all project (params ∷ r ∷ [])) ≡ rowid r)
    → ((r : Row) → column (drop 1 (eval_all project (params ∷ r ∷ []))) 0 ≡ rowid r)
    → IsTidy (new.now.trees session.tree)
session_tidy filter project params old new count book done first second =
    update_tidy book_schema Enforced session filter project Null old.now.trees new.now.trees params
    done.answer done.selects first second book.sessions done.applies

made_row : (row : RowFacts) (old new : State) (count : ℕ) → IsBookIf old
    → framed_in (framed_octets row.framed) ≡ row.framed → count ≢ 0
    → ExecutesInside 0 texts.SET_SESSION.now (session_columns row) old new (Ok count)
    → HasMadeBare (λ c. with_row c (without_plan row)) old new
made_row row old new count books framed some h =
    let book = books h.1.was_open in
    let params = session_columns row in
    let done = session_updates texts.SET_SESSION.now t.session_filter t.session_project params old
    new count t.set_session_is t.set_session_plain book.schema h.0 in
    let kept = session_kept params t.session_filter t.session_project old new count done in
    let tidy = session_tidy t.session_filter t.session_project params old new count book done
    (λ r. refl) (λ r. refl) in
    record {
      shows = h.1;
      book = after_session old.now new.now book done.schema done.sound tidy kept.0 kept.1 kept.2;
      content = rows_changed old.now.trees new.now.trees
          (update same_key (s.rows_in (old.now.trees session.tree)) (key_of row)
          (Some (without_plan row)))
          (s.set_row row old new count book framed done some) kept.0 kept.1;
      plans = ap p.plans_in kept.2;
      same_plans = same_plans 8 old.now.trees new.now.trees (omega arith)
          (λ e. absurd (omega (arith, e))) done.applies.tables;
    }

made_new_row : (row : RowFacts) (old mid new : State) (count more : ℕ) → IsBookIf old
    → framed_in (framed_octets row.framed) ≡ row.framed → count ≡ 0
    → ExecutesInside 0 texts.SET_SESSION.now (session_columns row) old mid (Ok count)
    → ExecutesInside 0 texts.NEW_SESSION.now (session_columns row) mid new (Ok more)
    → HasMadeBare (λ c. with_row c (without_plan row)) old new
made_new_row row old mid new count more books framed none first second =
    let book = books first.1.was_open in
    let params = session_columns row in
    let done = session_updates texts.SET_SESSION.now t.session_filter t.session_project params old
    mid count t.set_session_is t.set_session_plain book.schema first.0 in
    let kept = session_kept params t.session_filter t.session_project old mid count done in
    let tidy = session_tidy t.session_filter t.session_project params old mid count book done
    (λ r. refl) (λ r. refl) in
    let book' = after_session old.now mid.now book done.schema done.sound tidy kept.0 kept.1 kept.2
    in
    let added = inserts 4 session.name session.tree session.columns (1 ∷ 2 ∷ []) refl (λ db. refl)
    (λ taken news. refl) texts.NEW_SESSION.now t.session_terms 14 params (Null ∷ params) mid new
    more t.new_session_is t.new_session_plain refl book'.schema second.0 in
    let accounts = added.applies.tables.1.1.0 (λ e. absurd (omega (arith, e))) in
    let vouchers = added.applies.tables.1.1.1.0 (λ e. absurd (omega (arith, e))) in
    let plans = added.applies.tables.1.1.1.1.1.1.0 (λ e. absurd (omega (arith, e))) in
    let fresh = s.none_kept row old mid count book framed done none in
    let tidy' = insert_tidy book_schema Enforced session mid.now.trees new.now.trees (Null ∷ params)
    refl added.applies book'.sessions (next_rowid (mid.now.trees session.tree))
    (ap rowid (s.put_is row mid new book' framed added fresh)) in
    let same = s.set_none row old mid count book framed done none in
    record {
      shows = record {
        was_open = first.1.was_open;
        is_open = second.1.is_open;
        now_is = refl;
        committed_is = second.1.committed_is ∙ first.1.committed_is;
        mode = second.1.mode;
      };
      book = after_session mid.now new.now book' added.schema added.sound tidy' accounts vouchers
          plans;
      content = rows_changed old.now.trees new.now.trees
          (update same_key (s.rows_in (old.now.trees session.tree)) (key_of row)
          (Some (without_plan row)))
          (λ key. s.new_row row mid new book' framed added fresh key
          ∙ ap (λ o. cond (same_key (key_of row) key) (Some (without_plan row)) o) (same key))
          (accounts ∙ kept.0) (vouchers ∙ kept.1);
      plans = ap p.plans_in (plans ∙ kept.2);
      same_plans = same_plans_then old.now.trees mid.now.trees new.now.trees
          (same_plans 8 old.now.trees mid.now.trees (omega arith)
          (λ e. absurd (omega (arith, e))) done.applies.tables)
          (same_plans 8 mid.now.trees new.now.trees (omega arith)
          (λ e. absurd (omega (arith, e))) added.applies.tables);
    }

-- closing a session leaves its plan
closed_row_planned : (plan : Option (List ℕ)) (row : RowFacts) (state : SessionState)
    → with_plan plan (closed_row row state) ≡ closed_row (with_plan plan row) state
closed_row_planned None row Live = refl
closed_row_planned None row Closed = refl
closed_row_planned None row Stopped = refl
closed_row_planned (Some class) row Live = refl
closed_row_planned (Some class) row Closed = refl
closed_row_planned (Some class) row Stopped = refl

closed_if : (plan : Option (List ℕ)) (row : RowFacts) (b : Bool)
    → with_plan plan (cond b (closed_row row row.state) row)
    ≡ cond b (closed_row (with_plan plan row) row.state) (with_plan plan row)
closed_if plan row true = closed_row_planned plan row row.state
closed_if plan row false = refl

closed_planned : (client : List ℕ) (plan : Option (List ℕ)) (row : RowFacts)
    → with_plan plan (closed_by client row) ≡ closed_by client (with_plan plan row)
closed_planned client None row = closed_if None row (bytes_eq client row.client)
closed_planned client (Some class) row = closed_if (Some class) row (bytes_eq client row.client)

closed_with : (client : List ℕ) (plan : Option (List ℕ)) (row : Option RowFacts)
    → option_map (with_plan plan) (option_map (closed_by client) row)
    ≡ option_map (closed_by client) (option_map (with_plan plan) row)
closed_with client plan None = refl
closed_with client plan (Some row) = ap Some (closed_planned client plan row)

with_plans_closed : (client : List ℕ) (plans : Key → Option (List ℕ)) (c : Content)
    → with_plans plans (with_closed c client) ≡ with_closed (with_plans plans c) client
with_plans_closed client plans c = λ i. record {
  rows = λ key. closed_with client (plans key) (c.rows key) i;
  balances = c.balances;
  topups = c.topups;
  plans = c.plans;
}

-- the content of tables whose sessions are these, whose plans of sessions and list of plans are as
-- they were
pub with_all : (old new : Trees) {plans : Key → Option (List ℕ)} {c : Content}
    → HasSamePlans old new → plans_in_tables new ≡ plans → content_without_plans new ≡ c
    → content_in_tables new ≡ with_list (listed_in_tables old) (with_plans plans c)
with_all old new same plans content = λ i. with_list (same_listed old new same i)
    (with_plans (plans i) (content i))

pub made_closed : (client : List ℕ) (old new : State) (count : ℕ) → IsBookIf old
    → ExecutesInside 0 texts.CLOSE_SESSIONS_OF_CLIENT.now (Text client ∷ []) old new (Ok count)
    → HasMade (λ c. with_closed c client) old new
made_closed client old new count books h =
    let book = books h.1.was_open in
    let params = Text client ∷ [] in
    let done = session_updates texts.CLOSE_SESSIONS_OF_CLIENT.now t.close_filter t.close_project
    params old new count t.close_is t.close_plain book.schema h.0 in
    let kept = session_kept params t.close_filter t.close_project old new count done in
    let tidy = session_tidy t.close_filter t.close_project params old new count book done
    (λ r. refl) (λ r. refl) in
    let same = same_plans 8 old.now.trees new.now.trees (omega arith)
    (λ e. absurd (omega (arith, e))) done.applies.tables in
    record {
      shows = h.1;
      book = after_session old.now new.now book done.schema done.sound tidy kept.0 kept.1 kept.2;
      content = with_all old.now.trees new.now.trees same (ap p.plans_in kept.2)
          (rows_changed old.now.trees new.now.trees
          (λ key. option_map (closed_by client) (s.rows_in (old.now.trees session.tree) key))
          (c.closed_rows client old new count book done) kept.0 kept.1)
          ∙ ap (with_list (listed_in_tables old.now.trees))
          (with_plans_closed client (plans_in_tables old.now.trees)
          (content_without_plans old.now.trees));
      same_plans = same;
    }

-- ---- session_plan

plan_updates : (params : Row) (old new : State) (count : ℕ) → old.now.schema ≡ book_schema
    → Executes texts.SET_SESSION_PLAN.now params old new (Ok count)
    → p.IsUpdated params old new count
plan_updates params old new count = updates 6 session_plan.name session_plan.tree
    session_plan.columns (1 ∷ 2 ∷ []) refl (λ db. refl) (λ taken news. refl)
    texts.SET_SESSION_PLAN.now t.session_filter t.plan_project params old new count
    t.set_session_plan_is t.set_session_plan_plain

-- the content without plans, if its three tables are as they were
pub bare_same : (old new : Trees) → new account.tree ≡ old account.tree → new voucher.tree
    ≡ old voucher.tree → new session.tree ≡ old session.tree
    → content_without_plans new ≡ content_without_plans old
bare_same old new accounts vouchers sessions = λ i. record {
  rows = s.rows_in (sessions i);
  balances = a.balances_in (accounts i);
  topups = v.topups_in (vouchers i);
  plans = None;
}

-- if a row of the session is kept, an UPDATE sets its plan
pub made_plan : (row : RowFacts) (old new : State) (count : ℕ) → IsBookIf old
    → (kept : Row) → Has (old.now.trees session_plan.tree) kept
    → is_session (key_of row) kept ≡ true
    → ExecutesInside 0 texts.SET_SESSION_PLAN.now (session_plan_columns row) old new (Ok count)
    → HasSetPlan (key_of row) row.plan old new
made_plan row old new count books kept has mine h =
    let book = books h.1.was_open in
    let params = session_plan_columns row in
    let done = plan_updates params old new count book.schema h.0 in
    let accounts = done.applies.tables.1.1.0 (λ e. absurd (omega (arith, e))) in
    let vouchers = done.applies.tables.1.1.1.0 (λ e. absurd (omega (arith, e))) in
    let sessions = done.applies.tables.1.1.1.1.0 (λ e. absurd (omega (arith, e))) in
    let tidy = update_tidy book_schema Enforced session_plan t.session_filter t.plan_project Null
    old.now.trees new.now.trees params done.answer done.selects (λ r. refl) (λ r. refl)
    book.plans done.applies in
    let some = p.kept_met row old new count book done kept has mine in
    record {
      shows = h.1;
      book = after_plan old.now new.now book done.schema done.sound tidy accounts vouchers sessions;
      content = bare_same old.now.trees new.now.trees accounts vouchers sessions;
      plans = λ i key. p.set_plan row old new count book done some key i;
      same_plans = same_plans 14 old.now.trees new.now.trees (omega arith)
          (λ e. absurd (omega (arith, e))) done.applies.tables;
    }

-- if none is kept, an INSERT sets it
pub made_new_plan : (row : RowFacts) (old new : State) (count : ℕ) → IsBookIf old
    → ((r : Row) → Has (old.now.trees session_plan.tree) r → is_session (key_of row) r ≡ false)
    → ExecutesInside 0 texts.NEW_SESSION_PLAN.now (session_plan_columns row) old new (Ok count)
    → HasSetPlan (key_of row) row.plan old new
made_new_plan row old new count books fresh h =
    let book = books h.1.was_open in
    let params = session_plan_columns row in
    let added = inserts 6 session_plan.name session_plan.tree session_plan.columns (1 ∷ 2 ∷ [])
    refl (λ db. refl) (λ taken news. refl) texts.NEW_SESSION_PLAN.now t.session_plan_terms 4 params
    (Null ∷ params) old new count t.new_session_plan_is t.new_session_plan_plain refl book.schema
    h.0 in
    let accounts = added.applies.tables.1.1.0 (λ e. absurd (omega (arith, e))) in
    let vouchers = added.applies.tables.1.1.1.0 (λ e. absurd (omega (arith, e))) in
    let sessions = added.applies.tables.1.1.1.1.0 (λ e. absurd (omega (arith, e))) in
    let tidy = insert_tidy book_schema Enforced session_plan old.now.trees new.now.trees
    (Null ∷ params) refl added.applies book.plans (next_rowid (old.now.trees session_plan.tree))
    (ap rowid (p.put_is row old new book added fresh)) in
    record {
      shows = h.1;
      book = after_plan old.now new.now book added.schema added.sound tidy accounts vouchers
          sessions;
      content = bare_same old.now.trees new.now.trees accounts vouchers sessions;
      plans = λ i key. p.new_plan row old new book added fresh key i;
      same_plans = same_plans 14 old.now.trees new.now.trees (omega arith)
          (λ e. absurd (omega (arith, e))) added.applies.tables;
    }

-- a session's columns and its plan are the session
planned_row : (plans : Key → Option (List ℕ)) (rows : Key → Option RowFacts) (row : RowFacts)
    (key : Key) (b : Bool)
    → option_map (with_plan (cond b (Some row.plan) (plans key)))
    (cond b (Some (without_plan row)) (rows key))
    ≡ cond b (Some row) (option_map (with_plan (plans key)) (rows key))
planned_row plans rows row key true = refl
planned_row plans rows row key false = refl

with_plans_row : (plans : Key → Option (List ℕ)) (c : Content) (row : RowFacts)
    → with_plans (update same_key plans (key_of row) (Some row.plan))
    (with_row c (without_plan row)) ≡ with_row (with_plans plans c) row
with_plans_row plans c row = λ i. record {
  rows = λ key. planned_row plans c.rows row key (same_key (key_of row) key) i;
  balances = c.balances;
  topups = c.topups;
  plans = c.plans;
}

pub made_with_plan : (row : RowFacts) (old mid new : State)
    → HasMadeBare (λ c. with_row c (without_plan row)) old mid
    → HasSetPlan (key_of row) row.plan mid new → HasMade (λ c. with_row c row) old new
made_with_plan row old mid new first second =
    let same = same_plans_then old.now.trees mid.now.trees new.now.trees first.same_plans
    second.same_plans in
    record {
      shows = record {
        was_open = first.shows.was_open;
        is_open = second.shows.is_open;
        now_is = refl;
        committed_is = second.shows.committed_is ∙ first.shows.committed_is;
        mode = second.shows.mode;
      };
      book = second.book;
      content = with_all old.now.trees new.now.trees same
          (second.plans
          ∙ ap (λ plans. update same_key plans (key_of row) (Some row.plan)) first.plans)
          (second.content ∙ first.content)
          ∙ ap (with_list (listed_in_tables old.now.trees))
          (with_plans_row (plans_in_tables old.now.trees)
          (content_without_plans old.now.trees) row);
      same_plans = same;
    }

-- ---- account

account_updates : (params : Row) (old new : State) (count : ℕ) → old.now.schema ≡ book_schema
    → Executes texts.SET_BALANCE.now params old new (Ok count) → a.IsUpdated params old new count
account_updates params old new count = updates 2 account.name account.tree account.columns
    (1 ∷ []) refl (λ db. refl) (λ taken news. refl) texts.SET_BALANCE.now t.name_filter
    t.balance_project params old new count t.set_balance_is t.set_balance_plain

made_balance : (name : List ℕ) (n : ℤ) (old new : State) (count : ℕ) → IsBookIf old → count ≢ 0
    → ExecutesInside 0 texts.SET_BALANCE.now (Blob name ∷ Int n ∷ []) old new (Ok count)
    → HasMade (λ c. with_balance c name n) old new
made_balance name n old new count books some h =
    let book = books h.1.was_open in
    let params = Blob name ∷ Int n ∷ [] in
    let done = account_updates params old new count book.schema h.0 in
    let vouchers = done.applies.tables.1.1.1.0 (λ e. absurd (omega (arith, e))) in
    let sessions = done.applies.tables.1.1.1.1.0 (λ e. absurd (omega (arith, e))) in
    let plans = done.applies.tables.1.1.1.1.1.1.0 (λ e. absurd (omega (arith, e))) in
    let tidy = update_tidy book_schema Enforced account t.name_filter t.balance_project Null
    old.now.trees new.now.trees params done.answer done.selects (λ r. refl) (λ r. refl)
    book.accounts done.applies in
    let same = same_plans 4 old.now.trees new.now.trees (omega arith)
    (λ e. absurd (omega (arith, e))) done.applies.tables in
    record {
      shows = h.1;
      book = after_account old.now new.now book done.schema done.sound tidy vouchers sessions
          plans;
      content = balances_changed old.now.trees new.now.trees
          (update bytes_eq (a.balances_in (old.now.trees account.tree)) name (Some n))
          (a.set_balance name n old new count book done some) vouchers sessions plans same;
      same_plans = same;
    }

made_new_balance : (name : List ℕ) (n : ℤ) (old mid new : State) (count more : ℕ) → IsBookIf old
    → count ≡ 0
    → ExecutesInside 0 texts.SET_BALANCE.now (Blob name ∷ Int n ∷ []) old mid (Ok count)
    → ExecutesInside 0 texts.NEW_BALANCE.now (Blob name ∷ Int n ∷ []) mid new (Ok more)
    → HasMade (λ c. with_balance c name n) old new
made_new_balance name n old mid new count more books none first second =
    let book = books first.1.was_open in
    let params = Blob name ∷ Int n ∷ [] in
    let done = account_updates params old mid count book.schema first.0 in
    let vouchers = done.applies.tables.1.1.1.0 (λ e. absurd (omega (arith, e))) in
    let sessions = done.applies.tables.1.1.1.1.0 (λ e. absurd (omega (arith, e))) in
    let plans = done.applies.tables.1.1.1.1.1.1.0 (λ e. absurd (omega (arith, e))) in
    let tidy = update_tidy book_schema Enforced account t.name_filter t.balance_project Null
    old.now.trees mid.now.trees params done.answer done.selects (λ r. refl) (λ r. refl)
    book.accounts done.applies in
    let book' = after_account old.now mid.now book done.schema done.sound tidy vouchers sessions
    plans in
    let added = inserts 2 account.name account.tree account.columns (1 ∷ []) refl (λ db. refl)
    (λ taken news. refl) texts.NEW_BALANCE.now t.balance_terms 3 params (Null ∷ params) mid new
    more t.new_balance_is t.new_balance_plain refl book'.schema second.0 in
    let vouchers' = added.applies.tables.1.1.1.0 (λ e. absurd (omega (arith, e))) in
    let sessions' = added.applies.tables.1.1.1.1.0 (λ e. absurd (omega (arith, e))) in
    let plans' = added.applies.tables.1.1.1.1.1.1.0 (λ e. absurd (omega (arith, e))) in
    let fresh = a.none_kept name n old mid count book done none in
    let tidy' = insert_tidy book_schema Enforced account mid.now.trees new.now.trees (Null ∷ params)
    refl added.applies book'.accounts (next_rowid (mid.now.trees account.tree))
    (ap rowid (a.put_is name n mid new book' added fresh)) in
    let same = a.set_none name n old mid count book done none in
    let unchanged = same_plans_then old.now.trees mid.now.trees new.now.trees
    (same_plans 4 old.now.trees mid.now.trees (omega arith)
    (λ e. absurd (omega (arith, e))) done.applies.tables)
    (same_plans 4 mid.now.trees new.now.trees (omega arith)
    (λ e. absurd (omega (arith, e))) added.applies.tables) in
    record {
      shows = record {
        was_open = first.1.was_open;
        is_open = second.1.is_open;
        now_is = refl;
        committed_is = second.1.committed_is ∙ first.1.committed_is;
        mode = second.1.mode;
      };
      book = after_account mid.now new.now book' added.schema added.sound tidy' vouchers' sessions'
          plans';
      content = balances_changed old.now.trees new.now.trees
          (update bytes_eq (a.balances_in (old.now.trees account.tree)) name (Some n))
          (λ key. a.new_balance name n mid new book' added fresh key
          ∙ ap (λ o. cond (bytes_eq name key) (Some n) o) (same key)) (vouchers' ∙ vouchers)
          (sessions' ∙ sessions) (plans' ∙ plans) unchanged;
      same_plans = unchanged;
    }

-- ---- voucher

voucher_updates : (params : Row) (old new : State) (count : ℕ) → old.now.schema ≡ book_schema
    → Executes texts.SET_TOPUP.now params old new (Ok count) → v.IsUpdated params old new count
voucher_updates params old new count = updates 3 voucher.name voucher.tree voucher.columns
    (1 ∷ []) refl (λ db. refl) (λ taken news. refl) texts.SET_TOPUP.now t.name_filter
    t.topup_project params old new count t.set_topup_is t.set_topup_plain

made_topup : (topup : TopUpFacts) (old new : State) (count : ℕ) → IsBookIf old → count ≢ 0
    → ExecutesInside 0 texts.SET_TOPUP.now (topup_columns topup) old new (Ok count)
    → HasMade (λ c. with_voucher c topup) old new
made_topup topup old new count books some h =
    let book = books h.1.was_open in
    let params = topup_columns topup in
    let done = voucher_updates params old new count book.schema h.0 in
    let accounts = done.applies.tables.1.1.0 (λ e. absurd (omega (arith, e))) in
    let sessions = done.applies.tables.1.1.1.1.0 (λ e. absurd (omega (arith, e))) in
    let plans = done.applies.tables.1.1.1.1.1.1.0 (λ e. absurd (omega (arith, e))) in
    let tidy = update_tidy book_schema Enforced voucher t.name_filter t.topup_project Null
    old.now.trees new.now.trees params done.answer done.selects (λ r. refl) (λ r. refl)
    book.vouchers done.applies in
    let same = same_plans 6 old.now.trees new.now.trees (omega arith)
    (λ e. absurd (omega (arith, e))) done.applies.tables in
    record {
      shows = h.1;
      book = after_voucher old.now new.now book done.schema done.sound tidy accounts sessions
          plans;
      content = topups_changed old.now.trees new.now.trees
          (update bytes_eq (v.topups_in (old.now.trees voucher.tree)) topup.voucher (Some topup))
          (v.set_topup topup old new count book done some) accounts sessions plans same;
      same_plans = same;
    }

made_new_topup : (topup : TopUpFacts) (old mid new : State) (count more : ℕ) → IsBookIf old
    → count ≡ 0
    → ExecutesInside 0 texts.SET_TOPUP.now (topup_columns topup) old mid (Ok count)
    → ExecutesInside 0 texts.NEW_TOPUP.now (topup_columns topup) mid new (Ok more)
    → HasMade (λ c. with_voucher c topup) old new
made_new_topup topup old mid new count more books none first second =
    let book = books first.1.was_open in
    let params = topup_columns topup in
    let done = voucher_updates params old mid count book.schema first.0 in
    let accounts = done.applies.tables.1.1.0 (λ e. absurd (omega (arith, e))) in
    let sessions = done.applies.tables.1.1.1.1.0 (λ e. absurd (omega (arith, e))) in
    let plans = done.applies.tables.1.1.1.1.1.1.0 (λ e. absurd (omega (arith, e))) in
    let tidy = update_tidy book_schema Enforced voucher t.name_filter t.topup_project Null
    old.now.trees mid.now.trees params done.answer done.selects (λ r. refl) (λ r. refl)
    book.vouchers done.applies in
    let book' = after_voucher old.now mid.now book done.schema done.sound tidy accounts sessions
    plans in
    let added = inserts 3 voucher.name voucher.tree voucher.columns (1 ∷ []) refl (λ db. refl)
    (λ taken news. refl) texts.NEW_TOPUP.now t.topup_terms 5 params (Null ∷ params) mid new more
    t.new_topup_is t.new_topup_plain refl book'.schema second.0 in
    let accounts' = added.applies.tables.1.1.0 (λ e. absurd (omega (arith, e))) in
    let sessions' = added.applies.tables.1.1.1.1.0 (λ e. absurd (omega (arith, e))) in
    let plans' = added.applies.tables.1.1.1.1.1.1.0 (λ e. absurd (omega (arith, e))) in
    let fresh = v.none_kept topup old mid count book done none in
    let tidy' = insert_tidy book_schema Enforced voucher mid.now.trees new.now.trees (Null ∷ params)
    refl added.applies book'.vouchers (next_rowid (mid.now.trees voucher.tree))
    (ap rowid (v.put_is topup mid new book' added fresh)) in
    let same = v.set_none topup old mid count book done none in
    let unchanged = same_plans_then old.now.trees mid.now.trees new.now.trees
    (same_plans 6 old.now.trees mid.now.trees (omega arith)
    (λ e. absurd (omega (arith, e))) done.applies.tables)
    (same_plans 6 mid.now.trees new.now.trees (omega arith)
    (λ e. absurd (omega (arith, e))) added.applies.tables) in
    record {
      shows = record {
        was_open = first.1.was_open;
        is_open = second.1.is_open;
        now_is = refl;
        committed_is = second.1.committed_is ∙ first.1.committed_is;
        mode = second.1.mode;
      };
      book = after_voucher mid.now new.now book' added.schema added.sound tidy' accounts' sessions'
          plans';
      content = topups_changed old.now.trees new.now.trees
          (update bytes_eq (v.topups_in (old.now.trees voucher.tree)) topup.voucher (Some topup))
          (λ key. v.new_topup topup mid new book' added fresh key
          ∙ ap (λ o. cond (bytes_eq topup.voucher key) (Some topup) o) (same key))
          (accounts' ∙ accounts) (sessions' ∙ sessions) (plans' ∙ plans) unchanged;
      same_plans = unchanged;
    }

-- ---- an UPDATE, and an INSERT if it met no row

pub put_row : {S : Type 0} (g : Ghosts S) (row : RowFacts)
    → framed_in (framed_octets row.framed) ≡ row.framed → (old new : State) → IsBookIf old
    → HasPut g texts.SET_SESSION.now texts.NEW_SESSION.now (session_columns row) old new
    → HasMadeBare (λ c. with_row c (without_plan row)) old new
put_row g row framed old new books (inl met) = made_row row old new met.0 books framed met.1 met.2
put_row g row framed old new books (inr none) = made_new_row row old (state g none.0) new 0 none.1
    books framed refl none.2 none.3

pub put_balance : {S : Type 0} (g : Ghosts S) (name : List ℕ) (n : ℤ) (old new : State)
    → IsBookIf old
    → HasPut g texts.SET_BALANCE.now texts.NEW_BALANCE.now (Blob name ∷ Int n ∷ []) old new
    → HasMade (λ c. with_balance c name n) old new
put_balance g name n old new books (inl met) = made_balance name n old new met.0 books met.1 met.2
put_balance g name n old new books (inr none) = made_new_balance name n old (state g none.0) new 0
    none.1 books refl none.2 none.3

pub put_topup : {S : Type 0} (g : Ghosts S) (topup : TopUpFacts) (old new : State) → IsBookIf old
    → HasPut g texts.SET_TOPUP.now texts.NEW_TOPUP.now (topup_columns topup) old new
    → HasMade (λ c. with_voucher c topup) old new
put_topup g topup old new books (inl met) = made_topup topup old new met.0 books met.1 met.2
put_topup g topup old new books (inr none) = made_new_topup topup old (state g none.0) new 0 none.1
    books refl none.2 none.3
