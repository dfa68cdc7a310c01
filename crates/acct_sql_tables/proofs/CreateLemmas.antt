-- A new book: its tables, its number and its plans, made in one transaction.
use Rattle.std.proofs.Common.{◌≡◌, ◌⊎◌, inl, inr, ℕ, pos, List, [], ◌∷◌, ◌++◌, codes, true, false}
use Rattle.std.proofs.Common.{Bool, Ok, Err, Result, find, option_map, IsTrue, IsOk, OnOk, OnErr}
use Rattle.std.proofs.Common.{refl, sym, ap, subst, ◌∙◌, arith, None, Some}
use Rattle.sqlite.specs.declared.types.Value.TheVariants.{Null, Int, Text}
use Rattle.sqlite.specs.Order.{Row, column}
use Rattle.sqlite.specs.Tree.{Trees}
use Rattle.sqlite.specs.Edit.{next_rowid}
use Rattle.sqlite.specs.Effect.{Database}
use Rattle.sqlite_schema.specs.declared.schema.Keys.TheVariants.{Enforced}
use Rattle.sqlite.specs.Store.{Ghosts}
use Rattle.sqlite.specs.State.{State, HasCleanDisk, Survives, KeepsCommit, IsRolledBack, Shows}
use Rattle.sqlite.specs.State.{ExecutesInside}
use Rattle.sqlite.specs.Held.{Held, state}
use Rattle.sqlite.proofs.Callers.{survives_begin}
use Rattle.sqlite.proofs.StateLemmas.{survives_then}
use Rattle.sqlite_rules.specs.Lists.{Has}
use Rattle.sqlite_rules.proofs.ListLemmas.{has_either, has_left, has_right}
use Rattle.acct_model.specs.declared.plan.Plan.{Plan}
use Rattle.acct_model.specs.PlanFaults.{plans_fault}
use Rattle.acct_book.specs.Content.{empty_content, keeping}
use Rattle.acct_sql_tables.specs.Tables.{book_schema, no_schema, meta, price_plan, account, voucher}
use Rattle.acct_sql_tables.specs.Tables.{session, plan_count, session_plan, first_schema}
use Rattle.acct_sql_tables.specs.Tables.{second_schema}
use Rattle.acct_sql_tables.specs.Tables.{own_number}
use Rattle.acct_sql_tables.specs.Tidy.{IsTidy}
use Rattle.acct_sql_tables.specs.Columns.{int_in, session_in_columns, topup_in_columns, columns}
use Rattle.sqlite_value.specs.Order.{bytes}
use Rattle.acct_sql_tables.specs.Content.{content_in_tables, is_session, is_account, is_voucher}
use Rattle.acct_sql_tables.specs.Content.{content_without_plans, plans_in_tables, with_plan}
use Rattle.acct_sql_tables.specs.Content.{with_plans}
use Rattle.acct_sql_tables.specs.Content.{with_list, listed_in_tables}
use Rattle.acct_sql_tables.specs.Book.{IsBook, IsOpenBook}
use Rattle.acct_sql_tables.specs.Make.{IsPlanRow, IsCountRow, mode_of, KeepsPrices, KeepsCounts}
use Rattle.acct_sql_tables.specs.Make.{KeepsNumber, KeepsPlans, IsNew}
use Rattle.acct_sql_tables.specs.inner.Columns.{plan_columns, count_columns}
use Rattle.acct_sql_tables.specs.inner.Inside.{HasFinished}
use Rattle.acct_sql_tables.specs.inner.NewBook.{HasRun, GoesOn, HasFirstTables, HasPlanTables}
use Rattle.acct_sql_tables.specs.inner.NewBook.{HasTables, HasPlansSoFar, HasPlans, IsNewBook}
use Rattle.acct_sql_tables.specs.inner.Migrating.{HasSessionPlans}
use Rattle.acct_sql_tables.specs.declared.statements.TheConstants as texts
use Rattle.acct_sql_tables.proofs.MakeLemmas as m
use Rattle.acct_sql_tables.proofs.TextLemmas.{number_terms, number_is, number_plain, plan_terms}
use Rattle.acct_sql_tables.proofs.TextLemmas.{new_plan_is, new_plan_plain, count_terms}
use Rattle.acct_sql_tables.proofs.TextLemmas.{new_count_is}
use Rattle.acct_sql_tables.proofs.TextLemmas.{new_count_plain}
use Rattle.acct_sql_tables.proofs.StatementLemmas.{inserts, HasInserted}
use Rattle.acct_sql_tables.proofs.WriteLemmas.{inserted, insert_added}
use Rattle.acct_sql_tables.proofs.FindLemmas.{IsAdded}
use Rattle.acct_sql_tables.proofs.ValueLemmas.{cast_int, cast_null}
use Rattle.acct_sql_tables.proofs.CommitLemmas.{of_ok}
use Rattle.acct_sql_tables.proofs.ListedLemmas.{plans_listed}

-- ---- the tables

pub first_made : (a b c d e f g h : State) → a.now.schema ≡ no_schema → HasRun texts.META_TABLE.now
    a b → HasRun texts.PLAN_TABLE.now b c → HasRun texts.ACCOUNT_TABLE.now c d
    → HasRun texts.VOUCHER_TABLE.now d e → HasRun texts.SESSION_TABLE.now e f
    → HasRun texts.SESSION_ACCOUNT_INDEX.now f g → HasRun texts.VOUCHER_ACCOUNT_INDEX.now g h
    → HasFirstTables a.committed h
first_made a b c d e f g h has one two three four five six seven = record {
  on = record {
    is_open = seven.1.1.is_open;
    mode = seven.1.1.mode;
    committed_is = seven.1.1.committed_is ∙ (six.1.1.committed_is
        ∙ (five.1.1.committed_is ∙ (four.1.1.committed_is
        ∙ (three.1.1.committed_is ∙ (two.1.1.committed_is ∙ one.1.1.committed_is)))));
  };
  empty = m.all_made a b c d e f g h one.0 two.0 three.0 four.0 five.0 six.0 seven.0 has one.1.0
      two.1.0 three.1.0 four.1.0 five.1.0 six.1.0 seven.1.0;
}

pub plan_tables_made : (a b c : State) → HasRun texts.PLAN_COUNT_TABLE.now a b
    → HasRun texts.SESSION_PLAN_TABLE.now b c → a.now.schema ≡ first_schema → HasPlanTables a c
plan_tables_made a b c one two has =
    let x = m.plans_defined a b c one.0 two.0 has one.1.0 two.1.0 in
    record {
      schema = x.schema;
      sound = x.sound;
      counts = x.counts;
      session_plans = x.session_plans;
      others = x.others;
      is_open = two.1.1.is_open;
      mode = two.1.1.mode;
      committed_is = two.1.1.committed_is ∙ one.1.1.committed_is;
    }

pub session_plans_made : (a b : State) → HasRun texts.SESSION_PLAN_TABLE.now a b
    → a.now.schema ≡ second_schema → HasSessionPlans a b
session_plans_made a b one has =
    let x = m.session_plans_defined a b one.0 has one.1.0 in
    record {
      schema = x.0.listed;
      sound = x.0.sound;
      session_plans = x.1;
      others = x.0.others;
      is_open = one.1.1.is_open;
      mode = one.1.1.mode;
      committed_is = one.1.1.committed_is;
    }

pub tables_made : (c : Database) (mid new : State) → HasFirstTables c mid
    → (mid.now.schema ≡ first_schema → HasPlanTables mid new) → HasTables c new
tables_made c mid new first then =
    let x = then first.empty.schema in
    record {
      on = record {
        is_open = x.is_open;
        mode = x.mode;
        committed_is = x.committed_is ∙ first.on.committed_is;
      };
      empty = record {
        schema = x.schema;
        sound = x.sound;
        meta_rows = x.others.0 ∙ first.empty.meta_rows;
        plans = x.others.1.0 ∙ first.empty.plans;
        accounts = x.others.1.1.0 ∙ first.empty.accounts;
        vouchers = x.others.1.1.1.0 ∙ first.empty.vouchers;
        sessions = x.others.1.1.1.1.0 ∙ first.empty.sessions;
        counts = x.counts;
        session_plans = x.session_plans;
      };
    }

-- ---- a row of one table leaves the others

pub no_rows : (rows : List Row) → rows ≡ [] → IsTidy rows
no_rows rows none = subst IsTidy (sym none) (record {
  ints = λ r h. absurd h;
  keyed = λ r s h k same. absurd h;
})

content_none : (db : Trees) → db session.tree ≡ [] → db account.tree ≡ [] → db voucher.tree ≡ []
    → content_without_plans db ≡ empty_content
content_none db sessions accounts vouchers = λ i. record {
  rows = λ key. option_map (λ row. session_in_columns (columns row))
      (find (is_session key) (sessions i));
  balances = λ name. option_map (λ row. int_in (column row 2))
      (find (is_account name) (accounts i));
  topups = λ number. option_map (λ row. topup_in_columns (columns row))
      (find (is_voucher number) (vouchers i));
  plans = None;
}

-- if only the tables of the plans have other rows, the content is as it was except for its list
content_same : (old new : Trees) → new session.tree ≡ old session.tree → new account.tree
    ≡ old account.tree → new voucher.tree ≡ old voucher.tree
    → new session_plan.tree ≡ old session_plan.tree → content_in_tables new
    ≡ with_list (listed_in_tables new) (content_in_tables old)
content_same old new sessions accounts vouchers plans = λ i. record {
  rows = λ key. option_map (with_plan (option_map (λ row. bytes (column row 3))
      (find (is_session key) (plans i))))
      (option_map (λ row. session_in_columns (columns row)) (find (is_session key) (sessions i)));
  balances = λ name. option_map (λ row. int_in (column row 2))
      (find (is_account name) (accounts i));
  topups = λ number. option_map (λ row. topup_in_columns (columns row))
      (find (is_voucher number) (vouchers i));
  plans = Some (listed_in_tables new);
}

-- so it is the content of before that keeps these plans
pub content_keeping : (plans : List Plan) (old new : Trees) → plans_fault plans ≡ None
    → KeepsPlans plans new → new session.tree ≡ old session.tree → new account.tree
    ≡ old account.tree → new voucher.tree ≡ old voucher.tree
    → new session_plan.tree ≡ old session_plan.tree → content_in_tables new
    ≡ keeping plans (content_in_tables old)
content_keeping plans old new faultless kept sessions accounts vouchers session_plans =
    content_same old new sessions accounts vouchers session_plans
    ∙ ap (λ listed. with_list listed (content_in_tables old))
    (plans_listed plans new faultless kept)

no_prices : (db : Trees) → db price_plan.tree ≡ [] → KeepsPrices [] db
no_prices db none = record {
  each = λ plan h. absurd h;
  only = λ row h. absurd
      (subst (λ rows. Has rows row) none h);
}

pub no_counts : (db : Trees) → db plan_count.tree ≡ [] → KeepsCounts [] db
no_counts db none = record {
  each = λ plan h. absurd h;
  only = λ row h. absurd
      (subst (λ rows. Has rows row) none h);
}

-- the plans of a table whose rows are as they were
pub prices_same : (plans : List Plan) (old new : Trees) → new price_plan.tree ≡ old price_plan.tree
    → KeepsPrices plans old → KeepsPrices plans new
prices_same plans old new same kept = record {
  each = λ plan h. let r = kept.each plan h in
      (r.0, subst (λ rows. Has rows r.0) (sym same) r.1, r.2);
  only = λ row h. kept.only row (subst (λ rows. Has rows row) same h);
}

pub counts_same : (plans : List Plan) (old new : Trees) → new plan_count.tree ≡ old plan_count.tree
    → KeepsCounts plans old → KeepsCounts plans new
counts_same plans old new same kept = record {
  each = λ plan h. let r = kept.each plan h in
      (r.0, subst (λ rows. Has rows r.0) (sym same) r.1, r.2);
  only = λ row h. kept.only row (subst (λ rows. Has rows row) same h);
}

pub number_same : (old new : Trees) → new meta.tree ≡ old meta.tree → KeepsNumber own_number old
    → KeepsNumber own_number new
number_same old new same kept = let it = kept.has in record {
  has = (it.0, subst (λ rows. Has rows it.0) (sym same) it.1, it.2, it.3);
  only = λ row h. kept.only row (subst (λ rows. Has rows row) same h);
}

goes_on : (c : Database) (old new : State) → GoesOn c old → Shows old new new.now old.committed true
    → GoesOn c new
goes_on c old new on shows = record {
  is_open = shows.is_open;
  mode = shows.mode;
  committed_is = shows.committed_is ∙ on.committed_is;
}

-- ---- the schema number

abbrev number_row : Row
number_row = Text (codes "schema") ∷ Int own_number ∷ []

number_put : (old new : State) (done : HasInserted 0 meta.name meta.tree meta.columns (1 ∷ []) refl
    (λ db. refl) (λ taken news. refl) (Null ∷ number_row) old new)
    → inserted book_schema Enforced meta old.now.trees new.now.trees (Null ∷ number_row) refl
    done.applies ≡ Int (next_rowid (old.now.trees meta.tree)) ∷ number_row
number_put old new done = rw (cast_null, cast_int own_number) refl

pub numbered : (c : Database) (old new : State) (n : ℕ)
    → ExecutesInside 0 texts.NEW_SCHEMA_NUMBER.now [] old new (Ok n) → HasTables c old
    → HasPlans c [] new
numbered c old new n h t =
    let source = Null ∷ Text (codes "schema") ∷ Int own_number ∷ [] in
    let done = inserts 0 meta.name meta.tree meta.columns (1 ∷ []) refl (λ db. refl)
    (λ taken news. refl) texts.NEW_SCHEMA_NUMBER.now number_terms 3 [] source old new n number_is
    number_plain refl t.empty.schema h.0 in
    let plans = done.applies.tables.1.0 (λ e. absurd (omega (arith, e))) ∙ t.empty.plans in
    let accounts = done.applies.tables.1.1.0 (λ e. absurd (omega (arith, e))) ∙ t.empty.accounts in
    let vouchers = done.applies.tables.1.1.1.0 (λ e. absurd (omega (arith, e)))
    ∙ t.empty.vouchers in
    let sessions = done.applies.tables.1.1.1.1.0 (λ e. absurd (omega (arith, e)))
    ∙ t.empty.sessions in
    let session_plans = done.applies.tables.1.1.1.1.1.1.0 (λ e. absurd (omega (arith, e)))
    ∙ t.empty.session_plans in
    let counts = done.applies.tables.1.1.1.1.1.0 (λ e. absurd (omega (arith, e)))
    ∙ t.empty.counts in
    let put = inserted book_schema Enforced meta old.now.trees new.now.trees source refl
    done.applies in
    let added = insert_added book_schema Enforced meta old.now.trees new.now.trees source refl
    done.applies in
    record {
      first = new.now.trees;
      fresh = record {
        content = content_none new.now.trees sessions accounts vouchers;
        number = record {
          has = (
            put,
            added.adds,
            ap (λ r. column r 1) (number_put old new done),
            ap (λ r. column r 2) (number_put old new done),
          );
          only = λ row h. elim (added.back row h) [
            | inl is ↦ (
              ap (λ r. column r 1) (is ∙ number_put old new done),
              ap (λ r. column r 2) (is ∙ number_put old new done),
            )
            | inr was ↦ absurd (subst (λ rows. Has rows row) t.empty.meta_rows was)
          ];
        };
        session_plans = session_plans;
      };
      so_far = record {
        on = goes_on c old new t.on h.1;
        book = record {
          schema = done.schema;
          sound = done.sound;
          accounts = no_rows _ accounts;
          vouchers = no_rows _ vouchers;
          sessions = no_rows _ sessions;
          plans = no_rows _ session_plans;
        };
        metas = refl;
        accounts = refl;
        vouchers = refl;
        sessions = refl;
        session_plans = refl;
        prices_kept = no_prices new.now.trees plans;
        counts_kept = no_counts new.now.trees counts;
      };
    }

-- ---- a plan

pub one_price_more : (plans : List Plan) (plan : Plan) (put : Row) (old new : Trees)
    → IsPlanRow plan put → IsAdded put (old price_plan.tree) (new price_plan.tree)
    → KeepsPrices plans old → KeepsPrices (plans ++ plan ∷ []) new
one_price_more plans plan put old new says added kept = record {
  each = λ p h. elim (has_either plans (plan ∷ []) p h) [
    | inl was ↦ let r = kept.each p was in (r.0, added.forth r.0 r.1, r.2)
    | inr last ↦ elim last [
      | inl same ↦ (
        put,
        added.adds,
        subst (λ q. IsPlanRow q put) (sym same) says,
      )
      | inr none ↦ absurd none
    ]
  ];
  only = λ row h. elim (added.back row h) [
    | inl same ↦ (
      plan,
      has_right plans (plan ∷ []) plan (inl refl),
      subst (IsPlanRow plan) (sym same) says,
    )
    | inr was ↦ let p = kept.only row was in (p.0, has_left plans (plan ∷ []) p.0 p.1, p.2)
  ];
}

pub one_count_more : (plans : List Plan) (plan : Plan) (put : Row) (old new : Trees)
    → IsCountRow plan put → IsAdded put (old plan_count.tree) (new plan_count.tree)
    → KeepsCounts plans old → KeepsCounts (plans ++ plan ∷ []) new
one_count_more plans plan put old new says added kept = record {
  each = λ p h. elim (has_either plans (plan ∷ []) p h) [
    | inl was ↦ let r = kept.each p was in (r.0, added.forth r.0 r.1, r.2)
    | inr last ↦ elim last [
      | inl same ↦ (
        put,
        added.adds,
        subst (λ q. IsCountRow q put) (sym same) says,
      )
      | inr none ↦ absurd none
    ]
  ];
  only = λ row h. elim (added.back row h) [
    | inl same ↦ (
      plan,
      has_right plans (plan ∷ []) plan (inl refl),
      subst (IsCountRow plan) (sym same) says,
    )
    | inr was ↦ let p = kept.only row was in (p.0, has_left plans (plan ∷ []) p.0 p.1, p.2)
  ];
}

price_put : (plan : Plan) (old new : State) (done : HasInserted 1 price_plan.name price_plan.tree
    price_plan.columns (1 ∷ []) refl (λ db. refl) (λ taken news. refl) (Null ∷ plan_columns plan)
    old new)
    → inserted book_schema Enforced price_plan old.now.trees new.now.trees
    (Null ∷ plan_columns plan) refl done.applies ≡ Int (next_rowid (old.now.trees price_plan.tree))
    ∷ plan_columns plan
price_put plan old new done = rw (cast_null, cast_int (pos plan.block), cast_int (pos plan.unit))
    refl

pub price_added : (c : Database) (first : Trees) (prices counts : List Plan) (plan : Plan)
    (old new : State) (n : ℕ)
    → ExecutesInside 0 texts.NEW_PLAN.now (plan_columns plan) old new (Ok n)
    → HasPlansSoFar c first prices counts old
    → HasPlansSoFar c first (prices ++ plan ∷ []) counts new
price_added c first prices counts plan old new n h t =
    let params = plan_columns plan in
    let done = inserts 1 price_plan.name price_plan.tree price_plan.columns (1 ∷ []) refl
    (λ db. refl) (λ taken news. refl) texts.NEW_PLAN.now plan_terms 4 params (Null ∷ params) old new
    n new_plan_is new_plan_plain refl t.book.schema h.0 in
    let metas = done.applies.tables.0 (λ e. absurd (omega (arith, e))) in
    let accounts = done.applies.tables.1.1.0 (λ e. absurd (omega (arith, e))) in
    let vouchers = done.applies.tables.1.1.1.0 (λ e. absurd (omega (arith, e))) in
    let sessions = done.applies.tables.1.1.1.1.0 (λ e. absurd (omega (arith, e))) in
    let kept_counts = done.applies.tables.1.1.1.1.1.0 (λ e. absurd (omega (arith, e))) in
    let session_plans = done.applies.tables.1.1.1.1.1.1.0 (λ e. absurd (omega (arith, e))) in
    let put = inserted book_schema Enforced price_plan old.now.trees new.now.trees (Null ∷ params)
    refl done.applies in
    let added = insert_added book_schema Enforced price_plan old.now.trees new.now.trees
    (Null ∷ params) refl done.applies in
    let put_is = price_put plan old new done in
    let says : IsPlanRow plan put = record {
      class = ap (λ r. column r 1) put_is;
      block = ap (λ r. column r 2) put_is;
      unit = ap (λ r. column r 3) put_is;
    } in
    record {
      on = goes_on c old new t.on h.1;
      book = record {
        schema = done.schema;
        sound = done.sound;
        accounts = subst IsTidy (sym accounts) t.book.accounts;
        vouchers = subst IsTidy (sym vouchers) t.book.vouchers;
        sessions = subst IsTidy (sym sessions) t.book.sessions;
        plans = subst IsTidy (sym session_plans) t.book.plans;
      };
      metas = metas ∙ t.metas;
      accounts = accounts ∙ t.accounts;
      vouchers = vouchers ∙ t.vouchers;
      sessions = sessions ∙ t.sessions;
      session_plans = session_plans ∙ t.session_plans;
      prices_kept = one_price_more prices plan put old.now.trees new.now.trees says added
          t.prices_kept;
      counts_kept = counts_same counts old.now.trees new.now.trees kept_counts t.counts_kept;
    }

pub count_put : (plan : Plan) (old new : State)
    (done : HasInserted 5 plan_count.name plan_count.tree
    plan_count.columns (1 ∷ []) refl (λ db. refl) (λ taken news. refl) (Null ∷ count_columns plan)
    old new)
    → inserted book_schema Enforced plan_count old.now.trees new.now.trees
    (Null ∷ count_columns plan) refl done.applies ≡ Int (next_rowid (old.now.trees plan_count.tree))
    ∷ count_columns plan
count_put plan old new done = rw (cast_null, cast_int (pos (mode_of plan.count))) refl

pub count_added : (c : Database) (first : Trees) (prices counts : List Plan) (plan : Plan)
    (old new : State) (n : ℕ)
    → ExecutesInside 0 texts.NEW_PLAN_COUNT.now (count_columns plan) old new (Ok n)
    → HasPlansSoFar c first prices counts old
    → HasPlansSoFar c first prices (counts ++ plan ∷ []) new
count_added c first prices counts plan old new n h t =
    let params = count_columns plan in
    let done = inserts 5 plan_count.name plan_count.tree plan_count.columns (1 ∷ []) refl
    (λ db. refl) (λ taken news. refl) texts.NEW_PLAN_COUNT.now count_terms 3 params (Null ∷ params)
    old new n new_count_is new_count_plain refl t.book.schema h.0 in
    let metas = done.applies.tables.0 (λ e. absurd (omega (arith, e))) in
    let kept_prices = done.applies.tables.1.0 (λ e. absurd (omega (arith, e))) in
    let accounts = done.applies.tables.1.1.0 (λ e. absurd (omega (arith, e))) in
    let vouchers = done.applies.tables.1.1.1.0 (λ e. absurd (omega (arith, e))) in
    let sessions = done.applies.tables.1.1.1.1.0 (λ e. absurd (omega (arith, e))) in
    let session_plans = done.applies.tables.1.1.1.1.1.1.0 (λ e. absurd (omega (arith, e))) in
    let put = inserted book_schema Enforced plan_count old.now.trees new.now.trees (Null ∷ params)
    refl done.applies in
    let added = insert_added book_schema Enforced plan_count old.now.trees new.now.trees
    (Null ∷ params) refl done.applies in
    let put_is = count_put plan old new done in
    let says : IsCountRow plan put = record {
      class = ap (λ r. column r 1) put_is;
      mode = ap (λ r. column r 2) put_is;
    } in
    record {
      on = goes_on c old new t.on h.1;
      book = record {
        schema = done.schema;
        sound = done.sound;
        accounts = subst IsTidy (sym accounts) t.book.accounts;
        vouchers = subst IsTidy (sym vouchers) t.book.vouchers;
        sessions = subst IsTidy (sym sessions) t.book.sessions;
        plans = subst IsTidy (sym session_plans) t.book.plans;
      };
      metas = metas ∙ t.metas;
      accounts = accounts ∙ t.accounts;
      vouchers = vouchers ∙ t.vouchers;
      sessions = sessions ∙ t.sessions;
      session_plans = session_plans ∙ t.session_plans;
      prices_kept = prices_same prices old.now.trees new.now.trees kept_prices t.prices_kept;
      counts_kept = one_count_more counts plan put old.now.trees new.now.trees says added
          t.counts_kept;
    }

-- a book with all of them is a new one
fresh_of : (c : Database) (plans : List Plan) (s : State) → plans_fault plans ≡ None
    → HasPlans c plans s → IsNew plans s.now.trees
fresh_of c plans s faultless has =
    let first = has.fresh in
    let t = has.so_far in
    let kept : KeepsPlans plans s.now.trees = record {
      prices = t.prices_kept;
      counts = t.counts_kept;
    } in
    record {
      content = content_keeping plans has.first s.now.trees faultless kept t.sessions t.accounts
          t.vouchers t.session_plans
          ∙ ap (λ bare. keeping plans (with_list (listed_in_tables has.first)
          (with_plans (plans_in_tables has.first) bare))) first.content;
      number = number_same has.first s.now.trees t.metas first.number;
      plans_kept = kept;
      session_plans = t.session_plans ∙ first.session_plans;
    }

-- ---- the transaction

module _ {S T E F : Type 0} (g : Ghosts S) (old end : Held S) (mid : State) (plans : List Plan)
    (faultless : plans_fault plans ≡ None) (done : Result T F) (result : Result T E) where
  abbrev begun : State
  begun = state g (record old { in_transaction = true })

  abbrev last : State
  last = state g end

  module _ (kept : HasCleanDisk mid → KeepsCommit begun mid)
      (filled : HasCleanDisk mid → OnOk done (HasPlans begun.committed plans mid))
      (inside : Survives begun mid (λ _. ⊥)) (finished : HasFinished done mid last result) where
    mid_clean : HasCleanDisk last → HasCleanDisk mid
    mid_clean clean = omega (arith, finished.survives.clean, clean)

    has : HasCleanDisk last → IsOk done → HasPlans begun.committed plans mid
    has clean is = of_ok done is (filled (mid_clean clean))

    settled_by : HasCleanDisk last → (r : Result T E) → OnOk r
        (IsOk done × Shows mid last mid.now mid.now false) → OnOk r (IsOpenBook last)
    settled_by clean (Ok x) ok = ((clean, ok.1.is_open), ok.1.now_is ∙ sym ok.1.committed_is)
    settled_by clean (Err e) ok = tt

    made_settled : HasCleanDisk last → OnOk result (IsOpenBook last)
    made_settled clean = settled_by clean result (finished.ok clean)

    book_by : HasCleanDisk last → (r : Result T E) → OnOk r
        (IsOk done × Shows mid last mid.now mid.now false) → OnOk r (IsBook last.now)
    book_by clean (Ok x) ok = subst IsBook (sym ok.1.now_is) (has clean ok.0).so_far.book
    book_by clean (Err e) ok = tt

    made_book : HasCleanDisk last → OnOk result (IsBook last.now)
    made_book clean = book_by clean result (finished.ok clean)

    new_by : HasCleanDisk last → (r : Result T E) → OnOk r
        (IsOk done × Shows mid last mid.now mid.now false) → OnOk r (IsNew plans last.now.trees)
    new_by clean (Ok x) ok = subst (λ (d : Database). IsNew plans d.trees) (sym ok.1.now_is)
        (fresh_of begun.committed plans mid faultless (has clean ok.0))
    new_by clean (Err e) ok = tt

    made_new : HasCleanDisk last → OnOk result (IsNew plans last.now.trees)
    made_new clean = new_by clean result (finished.ok clean)

    together : (r : Result T E) → OnOk r (IsOpenBook last) → OnOk r (IsBook last.now)
        → OnOk r (IsNew plans last.now.trees) → OnOk r (IsNewBook plans last)
    together (Ok x) settled book fresh = record { settled = settled; book = book; fresh = fresh }
    together (Err e) settled book fresh = tt

    pub new_book : HasCleanDisk last → OnOk result (IsNewBook plans last)
    new_book clean = together result (made_settled clean) (made_book clean) (made_new clean)

    both_modes : (b : Bool) → b ≡ true → b ≡ false → ⊥
    both_modes true on off = absurd cc
    both_modes false on off = absurd cc

    rolled : HasCleanDisk last → IsRolledBack mid last ⊎ (IsOk done × (mid.in_transaction ≡ false))
        → IsRolledBack mid last
    rolled clean (inl back) = back
    rolled clean (inr ended) = absurd (both_modes mid.in_transaction
        (has clean ended.0).so_far.on.mode
        ended.1)

    undone_by : HasCleanDisk last → IsTrue last.is_open → (r : Result T E)
        → OnErr r (IsRolledBack mid last ⊎ (IsOk done × (mid.in_transaction ≡ false)))
        → OnErr r (last.now ≡ begun.committed)
    undone_by clean o (Ok x) err = tt
    undone_by clean o (Err e) err = let r = rolled clean err in (r.undone o).0
        ∙ (kept (mid_clean clean)).committed (r.was_open o)

    pub made_undone : HasCleanDisk last → IsTrue last.is_open
        → OnErr result (last.now ≡ begun.committed)
    made_undone clean o = undone_by clean o result (finished.err clean)

    pub made_survives : Survives (state g old) last (IsNew plans)
    made_survives = survives_begin g old last (IsNew plans)
        (survives_then begun mid last (λ _. ⊥) (λ db. IsOk done × (db ≡ mid.now.trees))
        (IsNew plans) (λ _ db none. absurd none)
        (λ clean db is. subst (IsNew plans) (sym is.1)
        (fresh_of begun.committed plans mid faultless (has clean is.0))) inside
        finished.survives)
