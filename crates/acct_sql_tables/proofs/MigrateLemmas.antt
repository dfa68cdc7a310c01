-- An older book that is made one of today's, one statement after another.
use Rattle.std.proofs.Common.{◌≡◌, ◌≢◌, ◌⊎◌, inl, inr, ℕ, ℤ, List, [], ◌∷◌, ◌++◌, codes, true}
use Rattle.std.proofs.Common.{false, cond, Bool, Ok, None, Some, Option, find, option_map}
use Rattle.std.proofs.Common.{Ordering, Less, Equal, Greater, int_cmp}
use Rattle.std.proofs.Common.{refl, sym, ap, subst, ◌∙◌, arith, true≢false}
use Rattle.std.proofs.lemmas.Map.Lookups.{exact_signed}
use Rattle.sqlite.specs.declared.types.Value.{Value}
use Rattle.sqlite.specs.declared.types.Value.TheVariants.{Null, Int, Text, Blob}
use Rattle.sqlite.specs.Order.{Row, column}
use Rattle.sqlite.specs.Tree.{Trees, rowid}
use Rattle.sqlite.specs.Edit.{next_rowid, id_in}
use Rattle.sqlite.specs.Effect.{Database}
use Rattle.sqlite.specs.State.{State, ExecutesInside}
use Rattle.sqlite_schema.specs.declared.schema.Keys.TheVariants.{Enforced}
use Rattle.sqlite_value.specs.Order.{bytes}
use Rattle.sqlite_rules.specs.Lists.{Has}
use Rattle.acct_model.specs.declared.plan.Plan.{Plan}
use Rattle.acct_model.specs.Plans.{plan_for}
use Rattle.acct_model.specs.PlanFaults.{plans_fault}
use Rattle.acct_book.specs.declared.key.Key.{Key}
use Rattle.acct_book.specs.Charge.{class_of_plan}
use Rattle.acct_sql_tables.specs.Tables.{book_schema, meta, price_plan, account, voucher}
use Rattle.acct_sql_tables.specs.Tables.{session, plan_count, session_plan, own_number}
use Rattle.acct_sql_tables.specs.Tidy.{IsTidy}
use Rattle.acct_sql_tables.specs.Columns.{columns, int_in, session_in_columns, topup_in_columns}
use Rattle.acct_sql_tables.specs.Content.{content_in_tables, plans_in_tables, with_plan, is_session}
use Rattle.acct_sql_tables.specs.Content.{is_account, is_voucher}
use Rattle.acct_sql_tables.specs.Make.{HasNumber, IsCountRow, KeepsPrices, KeepsPlans}
use Rattle.acct_sql_tables.specs.Look.{HasNumberAlone}
use Rattle.acct_sql_tables.specs.Migrate.{migrated, with_own_plan, number_of, KeepsOlderPlans}
use Rattle.acct_sql_tables.specs.inner.Columns.{count_columns}
use Rattle.acct_sql_tables.specs.inner.NewBook.{HasPlanTables}
use Rattle.acct_sql_tables.specs.declared.older_schema.OlderSchema.{OlderSchema}
use Rattle.acct_sql_tables.specs.declared.older_schema.OlderSchema.TheVariants.{First, Second}
use Rattle.acct_sql_tables.specs.inner.Migrating.{HasOlderRows, IsOlderBook, IsAfter, ShowsNext}
use Rattle.acct_sql_tables.specs.inner.Migrating.{IsClassRow, HaveClasses, HasTablesOver}
use Rattle.acct_sql_tables.specs.inner.Migrating.{HasWritten}
use Rattle.acct_sql_tables.specs.inner.Migrating.{HasSessionPlans, HasMigrated}
use Rattle.acct_sql_tables.specs.declared.statements.TheConstants as texts
use Rattle.acct_sql_tables.proofs.TextLemmas as t
use Rattle.acct_sql_tables.proofs.QueryLemmas.{meets}
use Rattle.acct_sql_tables.proofs.StatementLemmas.{updates, inserts, HasUpdated}
use Rattle.acct_sql_tables.proofs.WriteLemmas.{update_mapped, rewritten, inserted, insert_added}
use Rattle.acct_sql_tables.proofs.WriteLemmas.{insert_tidy}
use Rattle.acct_sql_tables.proofs.FindLemmas.{IsMapped, IsAdded, found_is, find_has}
use Rattle.acct_sql_tables.proofs.ListedLemmas.{plans_listed}
use Rattle.acct_sql_tables.proofs.ValueLemmas.{cast_int, cast_null, text_equal}
use Rattle.acct_sql_tables.proofs.KeyLemmas.{one_session_plan}
use Rattle.acct_sql_tables.proofs.CreateLemmas.{no_rows, no_counts, counts_same, prices_same}
use Rattle.acct_sql_tables.proofs.CreateLemmas.{one_count_more, count_put}

int_is : (m n : ℤ) → ◌≡◌ {A = Value} (Int m) (Int n) → m ≡ n
int_is m n e = cc

-- ---- the tables of plans

pub plan_tables_over : (plans : List Plan) (old new : State) → HasPlanTables old new
    → old.now ≡ old.committed → IsOlderBook First plans old.now → HasTablesOver First plans [] new
plan_tables_over plans old new made settled first =
    let now : old.now ≡ new.committed = settled ∙ sym made.committed_is in
    let same = λ (tree : ℕ). ap (λ (d : Database). d.trees tree) now in
    record {
      schema = made.schema;
      sound = made.sound;
      counts_kept = no_counts new.now.trees made.counts;
      session_plans = made.session_plans;
      others = (
        made.others.0 ∙ same meta.tree,
        (
          made.others.1.0 ∙ same price_plan.tree,
          (
            made.others.1.1.0 ∙ same account.tree,
            (
              made.others.1.1.1.0 ∙ same voucher.tree,
              (made.others.1.1.1.1.0 ∙ same session.tree, made.others.1.1.1.1.1),
            ),
          ),
        ),
      );
      was = subst (λ (d : Database). HasOlderRows First plans d.trees) now first.rows;
    }

pub session_plans_over : (plans : List Plan) (old new : State) → HasSessionPlans old new
    → old.now ≡ old.committed → IsOlderBook Second plans old.now
    → HasTablesOver Second plans plans new
session_plans_over plans old new made settled second =
    let now : old.now ≡ new.committed = settled ∙ sym made.committed_is in
    let same = λ (tree : ℕ). ap (λ (d : Database). d.trees tree) now in
    record {
      schema = made.schema;
      sound = made.sound;
      counts_kept = counts_same plans old.now.trees new.now.trees made.others.1.1.1.1.1.0
          second.rows.plans_kept.counts;
      session_plans = made.session_plans;
      others = (
        made.others.0 ∙ same meta.tree,
        (
          made.others.1.0 ∙ same price_plan.tree,
          (
            made.others.1.1.0 ∙ same account.tree,
            (
              made.others.1.1.1.0 ∙ same voucher.tree,
              (made.others.1.1.1.1.0 ∙ same session.tree, tt),
            ),
          ),
        ),
      );
      was = subst (λ (d : Database). HasOlderRows Second plans d.trees) now second.rows;
    }

-- the prices of older plans
older_prices : (older : OlderSchema) (plans : List Plan) (db : Trees)
    → KeepsOlderPlans older plans db → KeepsPrices plans db
older_prices First plans db kept = kept.prices
older_prices Second plans db kept = kept.prices

-- ---- the schema number

module _ (old new : State) (count : ℕ) (has : old.now.schema ≡ book_schema)
    (tidy : IsTidy (old.now.trees meta.tree))
    (done : HasUpdated 0 meta.name meta.tree meta.columns (1 ∷ []) refl (λ db. refl)
    (λ taken news. refl) t.schema_filter t.number_project [] old new count) where
  abbrev met : Row → Bool
  met = meets meta.tree t.schema_filter t.number_project [] Null old.now.trees []

  abbrev made : Row → Row
  made = rewritten book_schema Enforced meta t.schema_filter t.number_project Null old.now.trees
      new.now.trees [] done.answer done.selects (λ r. refl) (λ r. refl) tidy done.applies

  abbrev step : Row → Row
  step r = cond (met r) (made r) r

  mapped : IsMapped step (old.now.trees meta.tree) (new.now.trees meta.tree)
  mapped = update_mapped book_schema Enforced meta t.schema_filter t.number_project Null
      old.now.trees new.now.trees [] done.answer done.selects (λ r. refl) (λ r. refl) tidy
      done.applies

  met_name : (r : Row) → column r 1 ≡ Text (codes "schema") → met r ≡ true
  met_name r is = rw (is, text_equal (codes "schema")) refl

  made_name : (r : Row) → column r 1 ≡ Text (codes "schema") → column (made r) 1
      ≡ Text (codes "schema")
  made_name r is = rw is refl

  made_number : (r : Row) → column (made r) 2 ≡ Int own_number
  made_number r = cast_int own_number

  pub raised_number : (n : ℤ) → HasNumberAlone n old.now.trees
      → HasNumberAlone own_number new.now.trees
  raised_number n was = let it = was.has in record {
    has = (
      made it.0,
      subst (Has (new.now.trees meta.tree)) (ap (λ b. cond b (made it.0) it.0)
          (met_name it.0 it.2)) (mapped.forth it.0 it.1),
      made_name it.0 it.2,
      made_number it.0,
    );
    alone = λ m other.
        let b = mapped.back other.0 other.1 in
        go m other.0 b.0 (met b.0) refl b.2 other.2 other.3;
  }
    where
      go : (m : ℤ) (y r : Row) (b : Bool) → met r ≡ b → y ≡ cond b (made r) r
          → column y 1 ≡ Text (codes "schema") → column y 2 ≡ Int m → m ≡ own_number
      go m y r true is same name value = int_is m own_number
          (sym value ∙ (ap (λ s. column s 2) same ∙ made_number r))
      go m y r false is same name value = absurd (true≢false (sym (met_name r
          (ap (λ s. column s 1) (sym same) ∙ name)) ∙ is))

-- a number in a table whose rows are as they were
has_same : (n : ℤ) (old new : Trees) → new meta.tree ≡ old meta.tree → HasNumber n old
    → HasNumber n new
has_same n old new same it = (
  it.0,
  subst (λ rows. Has rows it.0) (sym same) it.1,
  it.2,
  it.3,
)

pub alone_same : (n : ℤ) (old new : Trees) → new meta.tree ≡ old meta.tree → HasNumberAlone n old
    → HasNumberAlone n new
alone_same n old new same was = record {
  has = has_same n old new same was.has;
  alone = λ m it. was.alone m (has_same m new old (sym same) it);
}

pub number_written : (older : OlderSchema) (plans counts : List Plan) (old new : State) (n : ℕ)
    → ExecutesInside 0 texts.SET_SCHEMA_NUMBER.now [] old new (Ok n)
    → HasTablesOver older plans counts old → HasWritten plans counts None new
number_written older plans counts old new n h over =
    let first = over.was in
    let tidy : IsTidy (old.now.trees meta.tree) = subst IsTidy (sym over.others.0)
    first.tidy.metas in
    let done = updates 0 meta.name meta.tree meta.columns (1 ∷ []) refl (λ db. refl)
    (λ taken news. refl) texts.SET_SCHEMA_NUMBER.now t.schema_filter t.number_project [] old new n
    t.set_number_is t.set_number_plain over.schema h.0 in
    let as_before = λ (tree : ℕ). ap (λ (d : Database). d.trees tree) (sym h.1.committed_is) in
    let prices = done.applies.tables.1.0 (λ e. absurd (omega (arith, e))) in
    let accounts : new.now.trees account.tree ≡ new.committed.trees account.tree =
    done.applies.tables.1.1.0 (λ e. absurd (omega (arith, e)))
    ∙ (over.others.1.1.0 ∙ as_before account.tree) in
    let vouchers : new.now.trees voucher.tree ≡ new.committed.trees voucher.tree =
    done.applies.tables.1.1.1.0 (λ e. absurd (omega (arith, e)))
    ∙ (over.others.1.1.1.0 ∙ as_before voucher.tree) in
    let sessions : new.now.trees session.tree ≡ new.committed.trees session.tree =
    done.applies.tables.1.1.1.1.0 (λ e. absurd (omega (arith, e)))
    ∙ (over.others.1.1.1.1.0 ∙ as_before session.tree) in
    let modes = done.applies.tables.1.1.1.1.1.0 (λ e. absurd (omega (arith, e))) in
    let session_plans = done.applies.tables.1.1.1.1.1.1.0 (λ e. absurd (omega (arith, e))) in
    let tidy_now = λ (tree : ℕ). λ (same : new.now.trees tree ≡ new.committed.trees tree).
    λ (was : IsTidy (old.committed.trees tree)).
    subst IsTidy (sym (same ∙ sym (as_before tree))) was in
    record {
      is_open = h.1.is_open;
      mode = h.1.mode;
      book = record {
        schema = done.schema;
        sound = done.sound;
        accounts = tidy_now account.tree accounts first.tidy.accounts;
        vouchers = tidy_now voucher.tree vouchers first.tidy.vouchers;
        sessions = tidy_now session.tree sessions first.tidy.sessions;
        plans = no_rows _ (session_plans ∙ over.session_plans);
      };
      number = raised_number old new n over.schema tidy done (number_of older)
          (alone_same (number_of older) old.committed.trees old.now.trees over.others.0
          first.number);
      accounts = accounts;
      vouchers = vouchers;
      sessions = sessions;
      prices_kept = prices_same plans old.committed.trees new.now.trees
          (prices ∙ over.others.1.0) (older_prices older plans old.committed.trees
          first.plans_kept);
      counts_kept = counts_same counts old.now.trees new.now.trees modes over.counts_kept;
      classes = λ s there none. absurd (none tt);
    }

-- ---- what a plan counts

-- sessions and their rows in tables that are as they were
classes_same : (plans : List Plan) (last : Option ℤ) (old new : Trees)
    → new session.tree ≡ old session.tree → new session_plan.tree ≡ old session_plan.tree
    → HaveClasses plans last old → HaveClasses plans last new
classes_same plans last old new sessions same have = λ s there before.
    let r = have s (subst (λ rows. Has rows s) sessions there) before in
    (r.0, subst (λ rows. Has rows r.0) (sym same) r.1, r.2)

pub count_written : (plans counts : List Plan) (plan : Plan) (last : Option ℤ) (old new : State)
    (n : ℕ) → ExecutesInside 0 texts.NEW_PLAN_COUNT.now (count_columns plan) old new (Ok n)
    → HasWritten plans counts last old → HasWritten plans (counts ++ plan ∷ []) last new
count_written plans counts plan last old new n h w =
    let params = count_columns plan in
    let done = inserts 5 plan_count.name plan_count.tree plan_count.columns (1 ∷ []) refl
    (λ db. refl) (λ taken news. refl) texts.NEW_PLAN_COUNT.now t.count_terms 3 params
    (Null ∷ params) old new n t.new_count_is t.new_count_plain refl w.book.schema h.0 in
    let as_before = λ (tree : ℕ). ap (λ (d : Database). d.trees tree) (sym h.1.committed_is) in
    let metas = done.applies.tables.0 (λ e. absurd (omega (arith, e))) in
    let prices = done.applies.tables.1.0 (λ e. absurd (omega (arith, e))) in
    let accounts = done.applies.tables.1.1.0 (λ e. absurd (omega (arith, e))) in
    let vouchers = done.applies.tables.1.1.1.0 (λ e. absurd (omega (arith, e))) in
    let sessions = done.applies.tables.1.1.1.1.0 (λ e. absurd (omega (arith, e))) in
    let session_plans = done.applies.tables.1.1.1.1.1.1.0 (λ e. absurd (omega (arith, e))) in
    let put = inserted book_schema Enforced plan_count old.now.trees new.now.trees (Null ∷ params)
    refl done.applies in
    let added = insert_added book_schema Enforced plan_count old.now.trees new.now.trees
    (Null ∷ params) refl done.applies in
    let put_is = count_put plan old new done in
    let says : IsCountRow plan put = record {
      class = ap (λ r. column r 1) put_is;
      mode = ap (λ r. column r 2) put_is;
    } in
    record {
      is_open = h.1.is_open;
      mode = h.1.mode;
      book = record {
        schema = done.schema;
        sound = done.sound;
        accounts = subst IsTidy (sym accounts) w.book.accounts;
        vouchers = subst IsTidy (sym vouchers) w.book.vouchers;
        sessions = subst IsTidy (sym sessions) w.book.sessions;
        plans = subst IsTidy (sym session_plans) w.book.plans;
      };
      number = alone_same own_number old.now.trees new.now.trees metas w.number;
      accounts = accounts ∙ (w.accounts ∙ as_before account.tree);
      vouchers = vouchers ∙ (w.vouchers ∙ as_before voucher.tree);
      sessions = sessions ∙ (w.sessions ∙ as_before session.tree);
      prices_kept = prices_same plans old.now.trees new.now.trees prices w.prices_kept;
      counts_kept = one_count_more counts plan put old.now.trees new.now.trees says added
          w.counts_kept;
      classes = classes_same plans last old.now.trees new.now.trees sessions session_plans
          w.classes;
    }

-- ---- the plan of a session

abbrev pub class_columns : List Plan → List ℕ → List ℕ → List ℕ → Row
class_columns plans client id class = Text client ∷ Blob id
    ∷ Blob (class_of_plan (plan_for plans class)) ∷ []

ordered : (m n : ℤ) → int_cmp m n ≢ Less → int_cmp m n ≢ Greater → m ≡ n
ordered m n not_less not_greater = go (int_cmp m n) refl
  where
    go : (o : Ordering) → int_cmp m n ≡ o → m ≡ n
    go Less is = absurd (not_less is)
    go Equal is = exact_signed m n is
    go Greater is = absurd (not_greater is)

-- a session is after a rowid or it is not
after_or_not : (last : Option ℤ) (s : Row) → IsAfter last s ⊎ ¬ IsAfter last s
after_or_not None s = inl tt
after_or_not (Some id) s = go (int_cmp (id_in (rowid s)) id) refl
  where
    go : (o : Ordering) → int_cmp (id_in (rowid s)) id ≡ o → IsAfter (Some id) s
        ⊎ ¬ IsAfter (Some id) s
    go Less is = inr (λ other. let no : Less ≡ Greater = sym is ∙ other in absurd cc)
    go Equal is = inr (λ other. let no : Equal ≡ Greater = sym is ∙ other in absurd cc)
    go Greater is = inl is

-- each session up to the shown one has its row, if each before it had
one_class_more : (plans : List Plan) (last : Option ℤ) (id : ℤ) (row put : Row) (more : List Row)
    (old new : Trees) → IsTidy (old session.tree) → new session.tree ≡ old session.tree
    → column row 0 ≡ Int id
    → (shown : ShowsNext last old (row ∷ more)) → IsClassRow plans shown.0 put
    → IsAdded put (old session_plan.tree) (new session_plan.tree) → HaveClasses plans last old
    → HaveClasses plans (Some id) new
one_class_more plans last id row put more old new tidy same is shown says added have = λ s there
    before. go s (subst (λ rows. Has rows s) same there) before (after_or_not last s)
  where
    here : rowid shown.0 ≡ Int id
    here = sym shown.3.rowid_is ∙ is

    go : (s : Row) → Has (old session.tree) s → ¬ IsAfter (Some id) s
        → IsAfter last s ⊎ ¬ IsAfter last s
        → (r : Row) × Has (new session_plan.tree) r × IsClassRow plans s r
    go s there before (inr early) = let r = have s there early in (r.0, added.forth r.0 r.1, r.2)
    go s there before (inl late) =
        let at : id_in (rowid shown.0) ≡ id = ap id_in here in
        let ids : id_in (rowid s) ≡ id = ordered (id_in (rowid s)) id
        (λ less. shown.4 s there late (ap (int_cmp (id_in (rowid s))) at ∙ less)) before in
        let one : s ≡ shown.0 = tidy.keyed s shown.0 there shown.1
        (tidy.ints s there ∙ (ap Int ids ∙ sym here)) in (
          put,
          added.adds,
          subst (λ q. IsClassRow plans q put) (sym one) says,
        )

pub class_written : (plans : List Plan) (last : Option ℤ) (row : Row) (more : List Row)
    (rowid_at : ℤ) (client id class : List ℕ) (old new : State) (n : ℕ)
    → column row 0 ≡ Int rowid_at → column row 1 ≡ Text client → column row 2 ≡ Blob id
    → column row 3 ≡ Blob class
    → ExecutesInside 0 texts.NEW_SESSION_PLAN.now (class_columns plans client id class) old new
    (Ok n) → ShowsNext last old.now.trees (row ∷ more) → HasWritten plans plans last old
    → HasWritten plans plans (Some rowid_at) new
class_written plans last row more rowid_at client id class old new n rowid_is client_is id_is
    class_is h shown w =
    let params = class_columns plans client id class in
    let done = inserts 6 session_plan.name session_plan.tree session_plan.columns (1 ∷ 2 ∷ []) refl
    (λ db. refl) (λ taken news. refl) texts.NEW_SESSION_PLAN.now t.session_plan_terms 4 params
    (Null ∷ params) old new n t.new_session_plan_is t.new_session_plan_plain refl w.book.schema
    h.0 in
    let as_before = λ (tree : ℕ). ap (λ (d : Database). d.trees tree) (sym h.1.committed_is) in
    let metas = done.applies.tables.0 (λ e. absurd (omega (arith, e))) in
    let prices = done.applies.tables.1.0 (λ e. absurd (omega (arith, e))) in
    let accounts = done.applies.tables.1.1.0 (λ e. absurd (omega (arith, e))) in
    let vouchers = done.applies.tables.1.1.1.0 (λ e. absurd (omega (arith, e))) in
    let sessions = done.applies.tables.1.1.1.1.0 (λ e. absurd (omega (arith, e))) in
    let counts = done.applies.tables.1.1.1.1.1.0 (λ e. absurd (omega (arith, e))) in
    let put = inserted book_schema Enforced session_plan old.now.trees new.now.trees (Null ∷ params)
    refl done.applies in
    let added = insert_added book_schema Enforced session_plan old.now.trees new.now.trees
    (Null ∷ params) refl done.applies in
    let put_is : put ≡ Int (next_rowid (old.now.trees session_plan.tree)) ∷ params = rw cast_null
    refl in
    let s = shown.0 in
    let it = shown.3 in
    let says : IsClassRow plans s put = record {
      client = ap (λ r. column r 1) put_is ∙ (sym client_is ∙ it.client);
      id = ap (λ r. column r 2) put_is ∙ (sym id_is ∙ it.id);
      plan = ap (λ r. column r 3) put_is
          ∙ ap (λ v. Blob (class_of_plan (plan_for plans (bytes v)))) (sym class_is ∙ it.class);
    } in
    record {
      is_open = h.1.is_open;
      mode = h.1.mode;
      book = record {
        schema = done.schema;
        sound = done.sound;
        accounts = subst IsTidy (sym accounts) w.book.accounts;
        vouchers = subst IsTidy (sym vouchers) w.book.vouchers;
        sessions = subst IsTidy (sym sessions) w.book.sessions;
        plans = insert_tidy book_schema Enforced session_plan old.now.trees new.now.trees
            (Null ∷ params) refl done.applies w.book.plans
            (next_rowid (old.now.trees session_plan.tree)) (ap rowid put_is);
      };
      number = alone_same own_number old.now.trees new.now.trees metas w.number;
      accounts = accounts ∙ (w.accounts ∙ as_before account.tree);
      vouchers = vouchers ∙ (w.vouchers ∙ as_before voucher.tree);
      sessions = sessions ∙ (w.sessions ∙ as_before session.tree);
      prices_kept = prices_same plans old.now.trees new.now.trees prices w.prices_kept;
      counts_kept = counts_same plans old.now.trees new.now.trees counts w.counts_kept;
      classes = one_class_more plans last rowid_at row put more old.now.trees new.now.trees
          w.book.sessions sessions rowid_is shown says added w.classes;
    }

-- ---- all of it

module _ (plans : List Plan) (faultless : plans_fault plans ≡ None) (last : Option ℤ) (s : State)
    (w : HasWritten plans plans last s) (none : ShowsNext last s.now.trees []) where
  -- the plan of a session that is there
  plan_kept : (key : Key) (r : Row) → Has (s.now.trees session.tree) r → is_session key r ≡ true
      → plans_in_tables s.now.trees key ≡ Some
      (class_of_plan (plan_for plans (bytes (column r 4))))
  plan_kept key r there mine =
      let p = w.classes r there (none r there) in
      let passes : is_session key p.0 ≡ true = rw (p.2.client, p.2.id) mine in
      let found = found_is (is_session key) (s.now.trees session_plan.tree) p.0 p.1 passes
      (λ q h other. one_session_plan s.now w.book key q p.0 h p.1 other passes) in
      ap (option_map (λ r. bytes (column r 3))) found ∙ ap (λ v. Some (bytes v)) p.2.plan

  row_is : (key : Key) → (content_in_tables s.now.trees).rows key
      ≡ option_map (with_own_plan plans) (option_map (λ row. session_in_columns (columns row))
      (find (is_session key) (s.now.trees session.tree)))
  row_is key = go (find (is_session key) (s.now.trees session.tree)) refl
    where
      go : (o : Option Row) → find (is_session key) (s.now.trees session.tree) ≡ o
          → option_map (with_plan (plans_in_tables s.now.trees key))
          (option_map (λ row. session_in_columns (columns row)) o)
          ≡ option_map (with_own_plan plans) (option_map (λ row. session_in_columns (columns row))
          o)
      go None is = refl
      go (Some r) is =
          let here = find_has (is_session key) (s.now.trees session.tree) r is in
          ap (λ plan. Some (with_plan plan (session_in_columns (columns r))))
          (plan_kept key r here.0 here.1)

  kept : KeepsPlans plans s.now.trees
  kept = record { prices = w.prices_kept; counts = w.counts_kept }

  content_is : content_in_tables s.now.trees ≡ migrated plans s.committed.trees
  content_is = λ i. record {
    rows = λ key. (row_is key ∙ ap (λ rows. option_map (with_own_plan plans)
        (option_map (λ row. session_in_columns (columns row)) (find (is_session key) rows)))
        w.sessions) i;
    balances = λ name. option_map (λ row. int_in (column row 2))
        (find (is_account name) (w.accounts i));
    topups = λ number. option_map (λ row. topup_in_columns (columns row))
        (find (is_voucher number) (w.vouchers i));
    plans = Some (plans_listed plans s.now.trees faultless kept i);
  }

  pub all_migrated : HasMigrated plans s
  all_migrated = record {
    is_open = w.is_open;
    mode = w.mode;
    book = w.book;
    is = record {
      content = content_is;
      number = w.number;
      plans_kept = kept;
    };
  }
