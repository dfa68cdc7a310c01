-- What is known of a table is what its columns are.
use Rattle.std.proofs.Common.{◌≡◌, ℕ, ℤ, zero, suc, pos, negsuc, ◌+◌, ◌<◌, ◌^◌, List, [], ◌∷◌, drop}
use Rattle.std.proofs.Common.{true, not, Some, find, option_map, refl, sym, ap, subst, ◌∙◌}
use Rattle.std.proofs.Common.{true≢false, arith, Option, None, length}
use Rattle.std.proofs.lemmas.Bool.{and_parts}
use Rattle.sqlite.specs.declared.types.Value.{Value}
use Rattle.sqlite.specs.declared.types.Value.TheVariants.{Null, Int, Real, Text, Blob}
use Rattle.sqlite.specs.Order.{Row, column}
use Rattle.sqlite.specs.Kind.TheVariants as kind
use Rattle.sqlite.specs.Effect.{Database}
use Rattle.sqlite_value.specs.Order.{bytes}
use Rattle.sqlite_sql.specs.Ops.{is_null}
use Rattle.sqlite_schema.specs.declared.schema.Constraint.TheVariants.{Datatype, NotNull}
use Rattle.sqlite_schema.specs.declared.schema.Column.{Column}
use Rattle.sqlite_schema.specs.Rules.{is_of, are_present, passes, Keeps}
use Rattle.sqlite_rules.proofs.ListLemmas.{all_has}
use Rattle.acct_model.specs.Vouchers.{TopUpFacts}
use Rattle.acct_book.specs.Row.{RowFacts}
use Rattle.acct_book.specs.Content.{key_of}
use Rattle.acct_sql_tables.specs.Tables.{book_schema, account, session, voucher, session_plan}
use Rattle.acct_sql_tables.specs.Columns.{session_in_columns, topup_in_columns, columns, count_in}
use Rattle.acct_sql_tables.specs.Columns.{int_in}
use Rattle.acct_sql_tables.specs.Columns.{state_in, cause_in, code_of, framed_in, framed_octets}
use Rattle.sqlite_rules.specs.Lists.{Has}
use Rattle.acct_sql_tables.specs.Columns.{session_plan_columns}
use Rattle.acct_sql_tables.specs.Content.{content_in_tables, is_session, is_account, is_voucher}
use Rattle.acct_sql_tables.specs.Content.{content_without_plans, plans_in_tables, with_plan}
use Rattle.acct_sql.specs.Kept.{KeepsSession, KeepsTopUp, KeepsBalance, AreColumns}
use Rattle.acct_sql_tables.specs.Book.{IsBook}
use Rattle.acct_sql_tables.proofs.FindLemmas.{find_has}
use Rattle.acct_sql_tables.proofs.ValueLemmas.{blob_is, text_is}
use Rattle.acct_sql_tables.proofs.KeyLemmas.{one_session, one_session_plan, one_account}
use Rattle.acct_sql_tables.proofs.KeyLemmas.{one_voucher}
use Rattle.acct_sql_tables.proofs.SessionLemmas.{key_here}
use Rattle.acct_sql_tables.proofs.CloseLemmas.{typed, typed_at, shifted}
use Rattle.acct_sql_tables.proofs.KeyedLemmas.{voucher_account}

-- ---- a column by what it counts as

pub count_is : (v : Value) (n : ℕ) → n ≡ count_in v → n < 2 ^ 64 → v ≡ Int (pos n)
count_is Null n h fits = absurd (omega (arith, h, fits))
count_is (Int (pos m)) n h fits = ap (λ k. Int (pos k)) (sym h)
count_is (Int (negsuc m)) n h fits = absurd (omega (arith, h, fits))
count_is (Real x) n h fits = absurd (omega (arith, h, fits))
count_is (Text t) n h fits = absurd (omega (arith, h, fits))
count_is (Blob b) n h fits = absurd (omega (arith, h, fits))

pub cause_is : (v w : Value) (n : ℕ) → n ≡ cause_in v w → n < 2 ^ 64 → w ≡ Int (pos n)
cause_is Null w n h fits = absurd (omega (arith, h, fits))
cause_is (Int (pos zero)) w n h fits = count_is w n h fits
cause_is (Int (pos (suc zero))) w n h fits = count_is w n h fits
cause_is (Int (pos (suc (suc zero)))) w n h fits = count_is w n h fits
cause_is (Int (pos (suc (suc (suc m))))) w n h fits = absurd (omega (arith, h, fits))
cause_is (Int (negsuc m)) w n h fits = absurd (omega (arith, h, fits))
cause_is (Real x) w n h fits = absurd (omega (arith, h, fits))
cause_is (Text t) w n h fits = absurd (omega (arith, h, fits))
cause_is (Blob b) w n h fits = absurd (omega (arith, h, fits))

pub state_is : (v w : Value) (n : ℕ) → n ≡ cause_in v w → n < 2 ^ 64
    → v ≡ Int (pos (code_of (state_in v)))
state_is Null w n h fits = absurd (omega (arith, h, fits))
state_is (Int (pos zero)) w n h fits = refl
state_is (Int (pos (suc zero))) w n h fits = refl
state_is (Int (pos (suc (suc zero)))) w n h fits = refl
state_is (Int (pos (suc (suc (suc m))))) w n h fits = absurd (omega (arith, h, fits))
state_is (Int (negsuc m)) w n h fits = absurd (omega (arith, h, fits))
state_is (Real x) w n h fits = absurd (omega (arith, h, fits))
state_is (Text t) w n h fits = absurd (omega (arith, h, fits))
state_is (Blob b) w n h fits = absurd (omega (arith, h, fits))

-- a column of octets that is there
pub octets_are : (v : Value) → is_of kind.Blob v ≡ true → not (is_null v) ≡ true → v
    ≡ Blob (bytes v)
octets_are Null h there = absurd (true≢false (sym there))
octets_are (Int n) h there = absurd (true≢false (sym h))
octets_are (Real x) h there = absurd (true≢false (sym h))
octets_are (Text t) h there = absurd (true≢false (sym h))
octets_are (Blob b) h there = refl

-- a column of integers that is there
pub int_is : (v : Value) → is_of kind.Integer v ≡ true → not (is_null v) ≡ true → v
    ≡ Int (int_in v)
int_is Null h there = absurd (true≢false (sym there))
int_is (Int n) h there = refl
int_is (Real x) h there = absurd (true≢false (sym h))
int_is (Text t) h there = absurd (true≢false (sym h))
int_is (Blob b) h there = absurd (true≢false (sym h))

-- each of the columns is NOT NULL
abbrev pub AreRequired : List Column → Type 0
AreRequired [] = Unit {0}
AreRequired (c ∷ cs) = (c.not_null ≡ true) × AreRequired cs

-- so each is there
pub present_at : (cs : List Column) (at : ℕ) (r : Row) → AreRequired cs → are_present None at cs r
    ≡ true → (i : ℕ) → i < length cs → not (is_null (column r (at + i + 1))) ≡ true
present_at [] at r required h i lt = absurd (omega (arith, lt))
present_at (c ∷ cs) at r required h zero lt =
    let here : not (is_null (column r (at + 1))) ≡ true = (and_parts _ _ (rw required.0 at h)).0 in
    let same : at + 1 ≡ at + 0 + 1 = omega arith in
    subst (λ k. not (is_null (column r k)) ≡ true) same here
present_at (c ∷ cs) at r required h (suc i) lt =
    let less : i < length cs = omega (arith, lt) in
    let later : not (is_null (column r (at + 1 + i + 1))) ≡ true =
    present_at cs (at + 1) r required.1 (and_parts _ _ h).1 i less in
    let same : at + 1 + i + 1 ≡ at + suc i + 1 = omega arith in
    subst (λ k. not (is_null (column r k)) ≡ true) same later

pub framed_back : (octets : List ℕ) → octets ≡ framed_octets (framed_in octets)
framed_back [] = refl
framed_back (octet ∷ octets) = refl

pub was_found : {X Y : Type 0} (f : X → Y) (o : Option X) (y : Y) → option_map f o ≡ Some y
    → (x : X) × (o ≡ Some x) × (y ≡ f x)
was_found f None y h = absurd cc
was_found f (Some x) y h = let same : f x ≡ y = cc in (x, refl, sym same)

-- ---- a row of each table

-- a session of fewer than 2^64 seconds is one whose plan is kept
pub plan_told : (plan : Option (List ℕ)) (bare facts : RowFacts) → facts ≡ with_plan plan bare
    → facts.seconds < 2 ^ 64
    → (class : List ℕ) × (plan ≡ Some class) × (facts ≡ record bare { plan = class })
plan_told None bare facts is fits =
    let never : facts.seconds ≡ 2 ^ 64 + bare.seconds = ap (λ (r : RowFacts). r.seconds) is in
    absurd (omega (arith, never, fits))
plan_told (Some class) bare facts is fits = (class, refl, is)

-- the row of the table `session_plan` that has the plan of a session
record IsPlanRowOf (db : Database) (facts : RowFacts) (row : Row) : Type 0 where
  there : Has (db.trees session_plan.tree) row
  says : AreColumns (session_plan_columns facts) (columns row)
  alone : (other : Row) → Has (db.trees session_plan.tree) other
      → is_session (key_of facts) other ≡ true → other ≡ row

plan_row_is : (db : Database) (book : IsBook db) (facts : RowFacts) (row : Row)
    → find (is_session (key_of facts)) (db.trees session_plan.tree) ≡ Some row
    → facts.plan ≡ bytes (column row 3) → IsPlanRowOf db facts row
plan_row_is db book facts row found is =
    let here = find_has (is_session (key_of facts)) (db.trees session_plan.tree) row found in
    let key = key_here (key_of facts) row here.1 in
    let types = subst (λ schema. Keeps Datatype schema db.trees) book.schema
    (book.sound.obeys.rules Datatype) in
    let there = subst (λ schema. Keeps NotNull schema db.trees) book.schema
    (book.sound.obeys.rules NotNull) in
    let kinds : passes Datatype book_schema db.trees session_plan row
    ≡ true = all_has (λ r. passes Datatype book_schema db.trees session_plan r ≡ true)
    (db.trees session_plan.tree) row types.1.1.1.1.1.1.0 here.0 in
    let present : passes NotNull book_schema db.trees session_plan row
    ≡ true = all_has (λ r. passes NotNull book_schema db.trees session_plan r ≡ true)
    (db.trees session_plan.tree) row there.1.1.1.1.1.1.0 here.0 in
    let kind_is = subst (λ v. is_of kind.Blob v ≡ true) (shifted row 2)
    (typed_at session_plan.columns 0 (drop 1 row) (refl, (refl, (refl, tt)))
    (and_parts _ _ kinds).0 2 _ refl) in
    let present_is = present_at session_plan.columns 0 row (refl, (refl, (refl, tt))) present 2
    (omega arith) in
    record {
      there = here.0;
      says = (
        key.0,
        (key.1, (octets_are (column row 3) kind_is present_is ∙ ap Blob (sym is), tt)),
      );
      alone = λ other k mine. one_session_plan db book (key_of facts) other row k here.0 mine
          here.1;
    }

pub keeps_session : (db : Database) (book : IsBook db) (facts : RowFacts) → facts.input < 2 ^ 64
    → facts.output < 2 ^ 64 → facts.seconds < 2 ^ 64 → facts.first < 2 ^ 64 → facts.last < 2 ^ 64
    → facts.cause < 2 ^ 64 → (content_in_tables db.trees).rows (key_of facts) ≡ Some facts
    → KeepsSession facts db.trees
keeps_session db book facts input output seconds first last cause kept =
    let planned = was_found (with_plan (plans_in_tables db.trees (key_of facts)))
    ((content_without_plans db.trees).rows (key_of facts)) facts kept in
    let class = plan_told (plans_in_tables db.trees (key_of facts)) planned.0 facts planned.2
    seconds in
    let bare = was_found (λ r. session_in_columns (columns r)) (find (is_session (key_of facts))
    (db.trees session.tree)) planned.0 planned.1 in
    let same : facts ≡ record (session_in_columns (columns bare.0)) { plan = class.0 } =
    class.2 ∙ ap (λ (r : RowFacts). record r { plan = class.0 }) bare.2 in
    let kept_row = was_found (λ r. bytes (column r 3)) (find (is_session (key_of facts))
    (db.trees session_plan.tree)) class.0 class.1 in
    let plan_row = plan_row_is db book facts kept_row.0 kept_row.1
    (ap (λ (r : RowFacts). r.plan) class.2 ∙ kept_row.2) in
    let here = find_has (is_session (key_of facts)) (db.trees session.tree) bare.0 bare.1 in
    let key = key_here (key_of facts) bare.0 here.1 in
    let at = typed db book bare.0 here.0 in
    let rules = subst (λ schema. Keeps NotNull schema db.trees) book.schema
    (book.sound.obeys.rules NotNull) in
    let present : passes NotNull book_schema db.trees session bare.0
    ≡ true = all_has (λ row. passes NotNull book_schema db.trees session row ≡ true)
    (db.trees session.tree) bare.0 rules.1.1.1.1.0 here.0 in
    let present_in = present_at session.columns 0 bare.0 (
      refl,
      (
        refl,
        (refl, (refl, (refl, (refl, (refl, (refl, (refl, (refl, (refl, (refl, (refl, tt))))))))))),
      ),
    ) present in
    let account_is = octets_are (column bare.0 3) (at 2 _ refl) (present_in 2 (omega arith))
    ∙ ap Blob (sym (ap (λ (r : RowFacts). r.account) same)) in
    let class_is = octets_are (column bare.0 4) (at 3 _ refl) (present_in 3 (omega arith))
    ∙ ap Blob (sym (ap (λ (r : RowFacts). r.class) same)) in
    let input_is = count_is (column bare.0 5) facts.input (ap (λ (r : RowFacts). r.input) same)
    input in
    let output_is = count_is (column bare.0 6) facts.output
    (ap (λ (r : RowFacts). r.output) same) output in
    let seconds_is = count_is (column bare.0 7) facts.seconds
    (ap (λ (r : RowFacts). r.seconds) same) seconds in
    let first_is = count_is (column bare.0 8) facts.first (ap (λ (r : RowFacts). r.first) same)
    first in
    let last_is = count_is (column bare.0 9) facts.last (ap (λ (r : RowFacts). r.last) same)
    last in
    let ended = ap (λ (r : RowFacts). r.cause) same in
    let state_here = state_is (column bare.0 10) (column bare.0 11) facts.cause ended cause
    ∙ ap (λ s. Int (pos (code_of s))) (sym (ap (λ (r : RowFacts). r.state) same)) in
    let cause_here = cause_is (column bare.0 10) (column bare.0 11) facts.cause ended cause in
    let calling_is = octets_are (column bare.0 12) (at 11 _ refl) (present_in 11 (omega arith))
    ∙ ap Blob (sym (ap (λ (r : RowFacts). r.calling) same)) in
    let framed_is = octets_are (column bare.0 13) (at 12 _ refl) (present_in 12 (omega arith))
    ∙ ap Blob (framed_back (bytes (column bare.0 13))
    ∙ ap framed_octets (sym (ap (λ (r : RowFacts). r.framed) same))) in
    record {
      row = bare.0;
      there = here.0;
      says = (
        key.0,
        (
          key.1,
          (
            account_is,
            (
              class_is,
              (
                input_is,
                (
                  output_is,
                  (
                    seconds_is,
                    (
                      first_is,
                      (last_is, (state_here, (cause_here, (calling_is, (framed_is, tt))))),
                    ),
                  ),
                ),
              ),
            ),
          ),
        ),
      );
      alone = λ other there mine. one_session db book (key_of facts) other bare.0 there here.0
          mine here.1;
      plan = kept_row.0;
      plan_there = plan_row.there;
      plan_says = plan_row.says;
      plan_alone = plan_row.alone;
    }

pub keeps_topup : (db : Database) (book : IsBook db) (facts : TopUpFacts) → facts.sum < 2 ^ 64
    → facts.when < 2 ^ 64 → (content_in_tables db.trees).topups facts.voucher ≡ Some facts
    → KeepsTopUp facts db.trees
keeps_topup db book facts sum when kept =
    let found = was_found (λ r. topup_in_columns (columns r)) (find (is_voucher facts.voucher)
    (db.trees voucher.tree)) facts kept in
    let here = find_has (is_voucher facts.voucher) (db.trees voucher.tree) found.0 found.1 in
    let paid = voucher_account db book found.0 here.0 in
    let account_is = paid.1 ∙ ap Blob (sym (ap bytes paid.1)
    ∙ sym (ap (λ (t : TopUpFacts). t.account) found.2)) in
    let sum_is = count_is (column found.0 3) facts.sum (ap (λ (t : TopUpFacts). t.sum) found.2)
    sum in
    let when_is = count_is (column found.0 4) facts.when (ap (λ (t : TopUpFacts). t.when) found.2)
    when in
    record {
      row = found.0;
      there = here.0;
      says = (
        text_is facts.voucher (column found.0 1) here.1,
        (account_is, (sum_is, (when_is, tt))),
      );
      alone = λ other there mine. one_voucher db book facts.voucher other found.0 there here.0
          mine here.1;
    }

pub keeps_balance : (db : Database) (book : IsBook db) (name : List ℕ) (balance : ℤ)
    → (content_in_tables db.trees).balances name ≡ Some balance → KeepsBalance name balance db.trees
keeps_balance db book name balance kept =
    let found = was_found (λ r. int_in (column r 2)) (find (is_account name)
    (db.trees account.tree)) balance kept in
    let here = find_has (is_account name) (db.trees account.tree) found.0 found.1 in
    let types = subst (λ schema. Keeps Datatype schema db.trees) book.schema
    (book.sound.obeys.rules Datatype) in
    let there = subst (λ schema. Keeps NotNull schema db.trees) book.schema
    (book.sound.obeys.rules NotNull) in
    let kinds : passes Datatype book_schema db.trees account found.0
    ≡ true = all_has (λ row. passes Datatype book_schema db.trees account row ≡ true)
    (db.trees account.tree) found.0 types.1.1.0 here.0 in
    let present : passes NotNull book_schema db.trees account found.0
    ≡ true = all_has (λ row. passes NotNull book_schema db.trees account row ≡ true)
    (db.trees account.tree) found.0 there.1.1.0 here.0 in
    let kind_is = subst (λ v. is_of kind.Integer v ≡ true) (shifted found.0 1)
    (typed_at account.columns 0 (drop 1 found.0) (refl, (refl, tt)) (and_parts _ _ kinds).0 1 _
    refl) in
    record {
      row = found.0;
      there = here.0;
      says = (
        blob_is name (column found.0 1) here.1,
        (
          int_is (column found.0 2) kind_is (and_parts _ _ (and_parts _ _ present).1).0
              ∙ ap Int (sym found.2),
          tt,
        ),
      );
      alone = λ other k mine. one_account db book name other found.0 k here.0 mine here.1;
    }
