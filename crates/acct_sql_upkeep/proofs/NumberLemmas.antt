-- What the query for the schema number shows.
use Rattle.std.proofs.Common.{◌≡◌, ◌≢◌, inl, inr, ℤ, List, [], ◌∷◌, codes}
use Rattle.std.proofs.Common.{true}
use Rattle.std.proofs.Common.{refl, sym, ap, subst, ◌∙◌}
use Rattle.std.proofs.lemmas.Bool.{and_parts}
use Rattle.sqlite.specs.declared.types.Value.{Value}
use Rattle.sqlite.specs.declared.types.Value.TheVariants.{Null, Int}
use Rattle.sqlite.specs.Order.{Row, column}
use Rattle.sqlite.specs.Tree.{Trees}
use Rattle.sqlite.specs.Term.{eval_all}
use Rattle.sqlite.specs.Query.{IsAnswerAs}
use Rattle.sqlite.specs.Effect.{Database}
use Rattle.sqlite.specs.State.{State, Shown}
use Rattle.sqlite_rules.specs.Lists.{Has}
use Rattle.acct_model.specs.declared.plan.Plan.{Plan}
use Rattle.acct_sql_tables.specs.declared.sql_book_error.SqlBookError.{SqlBookError}
use Rattle.acct_sql_tables.specs.declared.sql_book_error.SqlBookError.TheVariants.{NotABook}
use Rattle.acct_sql_tables.specs.declared.sql_book_error.SqlBookError.TheVariants.{PlansDiffer}
use Rattle.acct_sql_tables.specs.declared.sql_book_error.SqlBookError.TheVariants.{WrongSchema}
use Rattle.acct_sql_tables.specs.declared.sql_book_error.SqlBookError.TheVariants.{Unavailable}
use Rattle.acct_sql_tables.specs.Tables.{book_schema, meta, own_number}
use Rattle.acct_sql_tables.specs.Make.{HasNumber}
use Rattle.acct_sql_tables.specs.Look.{HasNumberAlone, IsRefusedAs}
use Rattle.acct_sql_tables.specs.inner.Looked.{IsKnown, IsSchemaNumber, HasNone}
use Rattle.acct_sql_tables.specs.inner.Looked.{IsSchemaNumberFault}
use Rattle.acct_sql_tables.specs.inner.Looked.{IsNumberFault, IsUnknownFault}
use Rattle.acct_sql_tables.specs.declared.statements.TheConstants as texts
use Rattle.acct_sql_tables.proofs.QueryLemmas.{over_table, all_rows, meets, shown_has, has_shown}
use Rattle.acct_sql_tables.proofs.QueryLemmas.{answer_of}
use Rattle.acct_sql_tables.proofs.TextLemmas.{schema_filter, value_shown}
use Rattle.acct_sql_tables.proofs.OlderLemmas.{schema_number}
use Rattle.acct_sql_tables.proofs.ValueLemmas.{equal_text, text_equal}

-- ---- what it shows

-- the answer shows the number in the table
pub record Tells (db : Trees) (rows : List Row) : Type 0 where
  pub none : HasNone rows → (n : ℤ) → ¬ (HasNumber n db)
  pub one : (n : ℤ) → IsSchemaNumber n rows → HasNumberAlone n db

int_is : (m n : ℤ) → ◌≡◌ {A = Value} (Int m) (Int n) → m ≡ n
int_is m n e = cc

module _ (old new : State) (rows : List Row) (known : IsKnown old.now.schema)
    (h : Shown texts.SCHEMA_NUMBER.now [] old new rows) where
  answer : IsAnswerAs Null (over_table meta.tree schema_filter value_shown [] all_rows)
      old.now.trees [] rows
  answer = answer_of (schema_number old.now.schema known) [] old new rows refl h

  shown_number : (n : ℤ) (row : Row) → Has rows row → column row 0 ≡ Int n
      → HasNumber n old.now.trees
  shown_number n row there is =
      let r = shown_has meta.tree schema_filter value_shown [] Null old.now.trees [] rows answer row
      there in (
        r.0,
        r.1,
        equal_text (column r.0 1) (codes "schema") (and_parts _ _ r.2).0,
        sym (ap (λ s. column s 0) r.3) ∙ is,
      )

  number_shown : (n : ℤ) → HasNumber n old.now.trees → (row : Row) × Has rows row
      × (column row 0 ≡ Int n)
  number_shown n it =
      let passes : meets meta.tree schema_filter value_shown [] Null old.now.trees [] it.0
      ≡ true = rw (it.2, text_equal (codes "schema")) refl in (
        eval_all value_shown ([] ∷ it.0 ∷ []),
        has_shown meta.tree schema_filter value_shown [] Null old.now.trees [] rows answer it.0 it.1
            passes,
        it.3,
      )

  number_alone : (n : ℤ) → IsSchemaNumber n rows → HasNumberAlone n old.now.trees
  number_alone n it = record {
    has = shown_number n it.0 (subst (λ rows. Has rows it.0) (sym it.1) (inl refl)) it.2;
    alone = λ m other.
        let row = number_shown m other in
        same m row.0 row.2 (subst (λ rows. Has rows row.0) it.1 row.1);
  }
    where
      same : (m : ℤ) (row : Row) → column row 0 ≡ Int m → Has (it.0 ∷ []) row → m ≡ n
      same m row is (inl first) = int_is m n (sym is ∙ (ap (λ r. column r 0) first ∙ it.2))
      same m row is (inr none) = absurd none

  pub number_told : Tells old.now.trees rows
  number_told = record {
    none = λ none n it. let row = number_shown n it in none row.0 n row.1 row.2;
    one = number_alone;
  }

pub number_refused : (wanted : ℤ) (db : Trees) (rows : List Row) (e : SqlBookError)
    → Tells db rows → IsSchemaNumberFault wanted rows e → IsNumberFault wanted db e
number_refused wanted db rows NotABook told none = told.none none
number_refused wanted db rows (WrongSchema n) told other = (other.1, told.one n other.0)
number_refused wanted db rows PlansDiffer told never = never
number_refused wanted db rows Unavailable told it = tt

pub unknown_refused : (wanted : ℤ) (rows : List Row) (e : SqlBookError)
    → IsSchemaNumberFault wanted rows e → IsUnknownFault wanted e
unknown_refused wanted rows NotABook it = tt
unknown_refused wanted rows (WrongSchema n) other = other.1
unknown_refused wanted rows PlansDiffer never = never
unknown_refused wanted rows Unavailable it = tt

pub other_refused : (plans : List Plan) (db : Database) (e : SqlBookError)
    → db.schema ≢ book_schema → IsUnknownFault own_number e → IsRefusedAs plans db e
other_refused plans db NotABook other it = λ has. absurd (other has)
other_refused plans db (WrongSchema n) other it = (it, λ has. absurd (other has))
other_refused plans db PlansDiffer other never = absurd never
other_refused plans db Unavailable other it = tt

-- what is wrong with the number of a book is why it is refused
pub book_refused : (plans : List Plan) (db : Database) (e : SqlBookError)
    → IsNumberFault own_number db.trees e → IsRefusedAs plans db e
book_refused plans db NotABook none = λ _. none
book_refused plans db (WrongSchema n) other = (other.0, λ _. other.1)
book_refused plans db PlansDiffer never = absurd never
book_refused plans db Unavailable it = tt
