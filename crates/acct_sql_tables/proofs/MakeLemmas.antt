-- What the statements that make the tables do, one after the other.
use Rattle.std.proofs.Common.{◌≡◌, ℕ, List, [], ◌∷◌, codes, false, Some, None, Ok, slice_get, refl}
use Rattle.std.proofs.Common.{sym, ap, subst, ◌∙◌, take, decimal, arith}
use Rattle.std.proofs.lemmas.Fmt.{decimal_digit}
use Rattle.sqlite.specs.Command.TheVariants.{CreateTable, CreateIndex}
use Rattle.sqlite.specs.Compile.{table_defined_by, index_defined_by}
use Rattle.sqlite.specs.Change.{created, indexed, next_tree, KeepsRows}
use Rattle.sqlite.specs.Schema.{Schema}
use Rattle.sqlite.specs.Table.{Table}
use Rattle.sqlite_schema.specs.declared.schema.Index.{Index}
use Rattle.sqlite.specs.Does.{Tally, Does, Defines, MakesIndex, AtPlace, lacks_sequence}
use Rattle.sqlite.specs.Effect.{Database, IsDatabase}
use Rattle.sqlite_tied.specs.Compute.{everything}
use Rattle.sqlite.specs.Listing.{understood}
use Rattle.sqlite.specs.State.{State, mode_of, Writes, Executes}
use Rattle.sqlite.proofs.Callers.{IsPlain, command_of, statement_of, runs_as}
use Rattle.acct_sql_tables.specs.Tables.{book_schema, no_schema, meta, price_plan, account, voucher}
use Rattle.acct_sql_tables.specs.Tables.{session, plan_count, session_plan, first_schema}
use Rattle.acct_sql_tables.specs.Tables.{second_schema}
use Rattle.acct_sql_tables.specs.Tables.{index_of}
use Rattle.acct_sql_tables.specs.inner.NewBook.{AreFirstEmpty}
use Rattle.acct_sql_tables.specs.declared.statements.TheConstants as texts
use Rattle.acct_sql_tables.proofs.StatementLemmas.{went, same_value}

-- the first tables, each with the index of its key
abbrev pub stage : ℕ → Schema
stage n = record {
  tables = take n book_schema.tables;
  indexes = take n book_schema.indexes;
  views = [];
}

-- and with the first of the two other indexes
abbrev pub six : Schema
six = record first_schema { indexes = take 6 book_schema.indexes }

-- what CREATE TABLE did
pub record HasDefined (schema after : Schema) (old new : Database) : Type 0 where
  pub listed : new.schema ≡ after
  pub empty : new.trees (next_tree schema) ≡ []
  pub others : KeepsRows schema.tables old.trees new.trees
  pub sound : IsDatabase new

pub defines : (schema after : Schema) (text : List ℕ) (table : Table) (old new : State) (count : ℕ)
    → (command_of (understood schema text) ≡ CreateTable)
    × (statement_of text (understood schema text) ≡ text) × (table_defined_by text ≡ Ok table)
    → IsPlain (understood schema text)
    → created schema table ≡ after → lacks_sequence after ≡ false → old.now.schema ≡ schema
    → Executes text [] old new (Ok count) → HasDefined schema after old.now new.now
defines schema after text table old new count is plain next none has h =
    let w = subst (λ t. Writes old new None CreateTable t [] count) is.1
    (runs_as text [] old new schema has CreateTable is.0 plain count h) in
    let all = went w.changed in
    let first = went all.1 in
    let made = first.1 in
    let both : Ok made.table ≡ Ok table = sym made.defined ∙ is.2 in
    let same : made.table ≡ table = cc in
    let now_schema : first.0.schema ≡ after = made.is ∙ (ap (λ s. created s made.table) has
    ∙ (ap (created schema) same ∙ next)) in
    let lacks : lacks_sequence first.0.schema ≡ false = ap lacks_sequence now_schema ∙ none in
    let now : new.now ≡ first.0 = ap (λ (p : Tally × Database). p.1) (same_value all.2)
    ∙ same_value (rw lacks at first.2) in
    record {
      listed = ap (λ (d : Database). d.schema) now ∙ now_schema;
      empty = ap (λ (d : Database). d.trees (next_tree schema)) now
          ∙ subst (λ s. first.0.trees (next_tree s) ≡ []) has made.empty;
      others = subst (λ (d : Database). KeepsRows schema.tables old.now.trees d.trees) (sym now)
          (subst (λ s. KeepsRows s.tables old.now.trees first.0.trees) has made.others);
      sound = w.sound;
    }

-- what CREATE INDEX did
pub record HasIndexed (schema after : Schema) (old new : Database) : Type 0 where
  pub listed : new.schema ≡ after
  pub others : KeepsRows schema.tables old.trees new.trees
  pub sound : IsDatabase new

pub indexes : (schema after : Schema) (text : List ℕ) (at : ℕ) (table : Table) (index : Index)
    (old new : State) (count : ℕ)
    → (command_of (understood schema text) ≡ CreateIndex at)
    × (statement_of text (understood schema text) ≡ text)
    × (slice_get schema.tables at ≡ Some table) × (index_defined_by table text ≡ Ok index)
    → IsPlain (understood schema text) → indexed schema table index ≡ after → old.now.schema
    ≡ schema → Executes text [] old new (Ok count) → HasIndexed schema after old.now new.now
indexes schema after text at table index old new count is plain next has h =
    let w = subst (λ t. Writes old new None (CreateIndex at) t [] count) is.1
    (runs_as text [] old new schema has (CreateIndex at) is.0 plain count h) in
    let db : Database = record old.now { schema = schema } in
    let out = Ok (w.tally, new.now) in
    let all = subst (λ s. Does old.step_limit (mode_of old) [] (record old.now { schema = s }) text
    None (CreateIndex at) out) has w.changed in
    let placed = subst (λ o. AtPlace (λ t. Defines (mode_of old) (MakesIndex text db t)) o out) is.2
    all in
    let done = went placed in
    let made = done.1 in
    let both : Ok made.index ≡ Ok index = sym made.defined ∙ is.3 in
    let same : made.index ≡ index = cc in
    let now : new.now ≡ done.0 = ap (λ (p : Tally × Database). p.1) (same_value done.2) in
    record {
      listed = ap (λ (d : Database). d.schema) now ∙ (made.is
          ∙ (ap (indexed schema table) same ∙ next));
      others = subst (λ (d : Database). KeepsRows schema.tables old.now.trees d.trees) (sym now)
          made.rows;
      sound = w.sound;
    }

-- ---- the texts, each under the schema so far

pub meta_is : (command_of (understood no_schema texts.META_TABLE.now) ≡ CreateTable)
    × (statement_of texts.META_TABLE.now (understood no_schema texts.META_TABLE.now)
    ≡ texts.META_TABLE.now) × (table_defined_by texts.META_TABLE.now ≡ Ok (record meta {
      tree = 0;
    }))
unfolding understood everything
meta_is = (refl, refl, refl)

pub meta_plain : IsPlain (understood no_schema texts.META_TABLE.now)
unfolding understood everything
meta_plain = (refl, refl)

pub meta_next : created no_schema (record meta { tree = 0 }) ≡ stage 1
meta_next = let one : decimal 1 ≡ codes "1" = decimal_digit 1 (omega arith) in rw one refl

pub plan_is : (command_of (understood (stage 1) texts.PLAN_TABLE.now) ≡ CreateTable)
    × (statement_of texts.PLAN_TABLE.now (understood (stage 1) texts.PLAN_TABLE.now)
    ≡ texts.PLAN_TABLE.now) × (table_defined_by texts.PLAN_TABLE.now ≡ Ok (record price_plan {
      tree
          = 0;
    }))
unfolding understood everything
plan_is = (refl, refl, refl)

pub plan_plain : IsPlain (understood (stage 1) texts.PLAN_TABLE.now)
unfolding understood everything
plan_plain = (refl, refl)

pub plan_next : created (stage 1) (record price_plan { tree = 0 }) ≡ stage 2
plan_next = let one : decimal 1 ≡ codes "1" = decimal_digit 1 (omega arith) in rw one refl

pub account_is : (command_of (understood (stage 2) texts.ACCOUNT_TABLE.now) ≡ CreateTable)
    × (statement_of texts.ACCOUNT_TABLE.now (understood (stage 2) texts.ACCOUNT_TABLE.now)
    ≡ texts.ACCOUNT_TABLE.now) × (table_defined_by texts.ACCOUNT_TABLE.now
    ≡ Ok (record account { tree = 0 }))
unfolding understood everything
account_is = (refl, refl, refl)

pub account_plain : IsPlain (understood (stage 2) texts.ACCOUNT_TABLE.now)
unfolding understood everything
account_plain = (refl, refl)

pub account_next : created (stage 2) (record account { tree = 0 }) ≡ stage 3
account_next = let one : decimal 1 ≡ codes "1" = decimal_digit 1 (omega arith) in rw one refl

pub voucher_is : (command_of (understood (stage 3) texts.VOUCHER_TABLE.now) ≡ CreateTable)
    × (statement_of texts.VOUCHER_TABLE.now (understood (stage 3) texts.VOUCHER_TABLE.now)
    ≡ texts.VOUCHER_TABLE.now) × (table_defined_by texts.VOUCHER_TABLE.now
    ≡ Ok (record voucher { tree = 0 }))
unfolding understood everything
voucher_is = (refl, refl, refl)

pub voucher_plain : IsPlain (understood (stage 3) texts.VOUCHER_TABLE.now)
unfolding understood everything
voucher_plain = (refl, refl)

pub voucher_next : created (stage 3) (record voucher { tree = 0 }) ≡ stage 4
voucher_next = let one : decimal 1 ≡ codes "1" = decimal_digit 1 (omega arith) in rw one refl

pub session_is : (command_of (understood (stage 4) texts.SESSION_TABLE.now) ≡ CreateTable)
    × (statement_of texts.SESSION_TABLE.now (understood (stage 4) texts.SESSION_TABLE.now)
    ≡ texts.SESSION_TABLE.now) × (table_defined_by texts.SESSION_TABLE.now
    ≡ Ok (record session { tree = 0 }))
unfolding understood everything
session_is = (refl, refl, refl)

pub session_plain : IsPlain (understood (stage 4) texts.SESSION_TABLE.now)
unfolding understood everything
session_plain = (refl, refl)

pub session_next : created (stage 4) (record session { tree = 0 }) ≡ stage 5
session_next = let one : decimal 1 ≡ codes "1" = decimal_digit 1 (omega arith) in rw one refl

abbrev by_account : Index
by_account = index_of (codes "session_account") 0 session.tree (3 ∷ []) false

abbrev vouchers : Index
vouchers = index_of (codes "voucher_account") 0 voucher.tree (2 ∷ []) false

pub by_account_is : (command_of (understood (stage 5) texts.SESSION_ACCOUNT_INDEX.now)
    ≡ CreateIndex 4) × (statement_of texts.SESSION_ACCOUNT_INDEX.now (understood
    (stage 5) texts.SESSION_ACCOUNT_INDEX.now) ≡ texts.SESSION_ACCOUNT_INDEX.now)
    × (slice_get (stage 5).tables 4 ≡ Some session) × (index_defined_by session
    texts.SESSION_ACCOUNT_INDEX.now ≡ Ok by_account)
unfolding understood everything
by_account_is = (refl, refl, refl, refl)

pub by_account_plain : IsPlain (understood (stage 5) texts.SESSION_ACCOUNT_INDEX.now)
unfolding understood everything
by_account_plain = (refl, refl)

pub vouchers_is : (command_of (understood six texts.VOUCHER_ACCOUNT_INDEX.now) ≡ CreateIndex 3)
    × (statement_of texts.VOUCHER_ACCOUNT_INDEX.now (understood six texts.VOUCHER_ACCOUNT_INDEX.now)
    ≡ texts.VOUCHER_ACCOUNT_INDEX.now) × (slice_get six.tables 3 ≡ Some voucher)
    × (index_defined_by voucher texts.VOUCHER_ACCOUNT_INDEX.now ≡ Ok vouchers)
unfolding understood everything
vouchers_is = (refl, refl, refl, refl)

pub vouchers_plain : IsPlain (understood six texts.VOUCHER_ACCOUNT_INDEX.now)
unfolding understood everything
vouchers_plain = (refl, refl)

pub count_is : (command_of (understood first_schema texts.PLAN_COUNT_TABLE.now) ≡ CreateTable)
    × (statement_of texts.PLAN_COUNT_TABLE.now (understood first_schema texts.PLAN_COUNT_TABLE.now)
    ≡ texts.PLAN_COUNT_TABLE.now) × (table_defined_by texts.PLAN_COUNT_TABLE.now
    ≡ Ok (record plan_count { tree = 0 }))
unfolding understood everything
count_is = (refl, refl, refl)

pub count_plain : IsPlain (understood first_schema texts.PLAN_COUNT_TABLE.now)
unfolding understood everything
count_plain = (refl, refl)

pub count_next : created first_schema (record plan_count { tree = 0 }) ≡ second_schema
count_next = let one : decimal 1 ≡ codes "1" = decimal_digit 1 (omega arith) in rw one refl

pub kept_is : (command_of (understood second_schema texts.SESSION_PLAN_TABLE.now) ≡ CreateTable)
    × (statement_of texts.SESSION_PLAN_TABLE.now (understood second_schema
    texts.SESSION_PLAN_TABLE.now) ≡ texts.SESSION_PLAN_TABLE.now)
    × (table_defined_by texts.SESSION_PLAN_TABLE.now ≡ Ok (record session_plan { tree = 0 }))
unfolding understood everything
kept_is = (refl, refl, refl)

pub kept_plain : IsPlain (understood second_schema texts.SESSION_PLAN_TABLE.now)
unfolding understood everything
kept_plain = (refl, refl)

pub kept_next : created second_schema (record session_plan { tree = 0 }) ≡ book_schema
kept_next = let one : decimal 1 ≡ codes "1" = decimal_digit 1 (omega arith) in rw one refl

-- what the two tables of plans are made in, and what they leave of the others
pub record HasDefinedPlans (old new : Database) : Type 0 where
  pub schema : new.schema ≡ book_schema
  pub sound : IsDatabase new
  pub counts : new.trees plan_count.tree ≡ []
  pub session_plans : new.trees session_plan.tree ≡ []
  pub others : KeepsRows first_schema.tables old.trees new.trees

pub plans_defined : (a b c : State) (i j : ℕ) → a.now.schema ≡ first_schema
    → Executes texts.PLAN_COUNT_TABLE.now [] a b (Ok i)
    → Executes texts.SESSION_PLAN_TABLE.now [] b c (Ok j) → HasDefinedPlans a.now c.now
plans_defined a b c i j has one two =
    let x = defines first_schema second_schema texts.PLAN_COUNT_TABLE.now
    (record plan_count { tree = 0 }) a b i count_is count_plain count_next refl has one in
    let y = defines second_schema book_schema texts.SESSION_PLAN_TABLE.now
    (record session_plan { tree = 0 }) b c j kept_is kept_plain kept_next refl x.listed two in
    record {
      schema = y.listed;
      sound = y.sound;
      counts = y.others.1.1.1.1.1.0 ∙ x.empty;
      session_plans = y.empty;
      others = (
        y.others.0 ∙ x.others.0,
        (
          y.others.1.0 ∙ x.others.1.0,
          (
            y.others.1.1.0 ∙ x.others.1.1.0,
            (
              y.others.1.1.1.0 ∙ x.others.1.1.1.0,
              (y.others.1.1.1.1.0 ∙ x.others.1.1.1.1.0, x.others.1.1.1.1.1),
            ),
          ),
        ),
      );
    }

pub session_plans_defined : (a b : State) (i : ℕ) → a.now.schema ≡ second_schema
    → Executes texts.SESSION_PLAN_TABLE.now [] a b (Ok i)
    → HasDefined second_schema book_schema a.now b.now
    × (b.now.trees session_plan.tree ≡ [])
session_plans_defined a b i has one =
    let x = defines second_schema book_schema texts.SESSION_PLAN_TABLE.now
    (record session_plan { tree = 0 }) a b i kept_is kept_plain kept_next refl has one in
    (x, x.empty)

-- ---- the first tables

pub all_made : (a b c d e f g h : State) (i j k l m n o : ℕ) → a.now.schema ≡ no_schema
    → Executes texts.META_TABLE.now [] a b (Ok i) → Executes texts.PLAN_TABLE.now [] b c (Ok j)
    → Executes texts.ACCOUNT_TABLE.now [] c d (Ok k) → Executes texts.VOUCHER_TABLE.now [] d e
    (Ok l) → Executes texts.SESSION_TABLE.now [] e f (Ok m)
    → Executes texts.SESSION_ACCOUNT_INDEX.now [] f g (Ok n)
    → Executes texts.VOUCHER_ACCOUNT_INDEX.now [] g h (Ok o) → AreFirstEmpty h.now
all_made a b c d e f g h i j k l m n o has one two three four five six' seven =
    let x1 = defines no_schema (stage 1) texts.META_TABLE.now (record meta { tree = 0 }) a b i
    meta_is meta_plain meta_next refl has one in
    let x2 = defines (stage 1) (stage 2) texts.PLAN_TABLE.now (record price_plan { tree = 0 }) b c j
    plan_is plan_plain plan_next refl x1.listed two in
    let x3 = defines (stage 2) (stage 3) texts.ACCOUNT_TABLE.now (record account { tree = 0 }) c d k
    account_is account_plain account_next refl x2.listed three in
    let x4 = defines (stage 3) (stage 4) texts.VOUCHER_TABLE.now (record voucher { tree = 0 }) d e l
    voucher_is voucher_plain voucher_next refl x3.listed four in
    let x5 = defines (stage 4) (stage 5) texts.SESSION_TABLE.now (record session { tree = 0 }) e f m
    session_is session_plain session_next refl x4.listed five in
    let x6 = indexes (stage 5) six texts.SESSION_ACCOUNT_INDEX.now 4 session by_account f g n
    by_account_is by_account_plain refl x5.listed six' in
    let x7 = indexes six first_schema texts.VOUCHER_ACCOUNT_INDEX.now 3 voucher vouchers g h o
    vouchers_is vouchers_plain refl x6.listed seven in
    record {
      schema = x7.listed;
      sound = x7.sound;
      meta_rows = x7.others.0 ∙ (x6.others.0 ∙ (x5.others.0
          ∙ (x4.others.0 ∙ (x3.others.0 ∙ (x2.others.0 ∙ x1.empty)))));
      plans = x7.others.1.0 ∙ (x6.others.1.0 ∙ (x5.others.1.0
          ∙ (x4.others.1.0 ∙ (x3.others.1.0 ∙ x2.empty))));
      accounts = x7.others.1.1.0 ∙ (x6.others.1.1.0 ∙ (x5.others.1.1.0
          ∙ (x4.others.1.1.0 ∙ x3.empty)));
      vouchers = x7.others.1.1.1.0 ∙ (x6.others.1.1.1.0 ∙ (x5.others.1.1.1.0 ∙ x4.empty));
      sessions = x7.others.1.1.1.1.0 ∙ (x6.others.1.1.1.1.0 ∙ x5.empty);
    }
