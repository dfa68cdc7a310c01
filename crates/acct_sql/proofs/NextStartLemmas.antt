-- Why the next start takes what a crash left of a book.
use Rattle.std.proofs.Common.{◌≡◌, ⊎_elim, List, refl, sym, subst, arith}
use Rattle.sqlite.specs.Tree.{Trees}
use Rattle.sqlite.specs.Effect.{Database}
use Rattle.sqlite.specs.State.{State, HasCleanDisk}
use Rattle.sqlite_rules.specs.Lists.{Has}
use Rattle.acct_model.specs.declared.plan.Plan.{Plan}
use Rattle.acct_sql_tables.specs.Tables.{book_schema, own_number, meta}
use Rattle.acct_sql_tables.specs.Make.{HasNumber}
use Rattle.acct_sql_tables.specs.Look.{IsRefusedAs}
use Rattle.acct_sql_tables.specs.Book.{IsOpenBook, LeavesPlans, HasSamePlans}
use Rattle.acct_sql_tables.specs.declared.sql_book_error.SqlBookError.{SqlBookError}
use Rattle.acct_sql_tables.specs.declared.sql_book_error.SqlBookError.TheVariants.{NotABook}
use Rattle.acct_sql_tables.specs.declared.sql_book_error.SqlBookError.TheVariants.{PlansDiffer}
use Rattle.acct_sql_tables.specs.declared.sql_book_error.SqlBookError.TheVariants.{WrongSchema}
use Rattle.acct_sql_tables.specs.declared.sql_book_error.SqlBookError.TheVariants.{Unavailable}
use Rattle.acct_sql.specs.NextStart.{AreOf, IsOf, NextStartTakes}

-- tables with the same rows of number, plans and counts say the same
same_number : (n : _) (old new : Trees) → new meta.tree ≡ old meta.tree → HasNumber n old
    → HasNumber n new
same_number n old new same (row, there, name, says) =
    (row, subst (λ rows. Has rows row) (sym same) there, name, says)

are_same : (plans : List Plan) (old new : Trees) → HasSamePlans old new → AreOf plans old
    → AreOf plans new
are_same plans old new same are = record {
  number = record {
    has = same_number own_number old new same.number are.number.has;
    alone = λ m has. are.number.alone m (same_number m new old (sym same.number) has);
  };
  kept = record {
    prices = record {
      each = λ plan among.
          let (row, there, says) = are.kept.prices.each plan among in
          (row, subst (λ rows. Has rows row) (sym same.prices) there, says);
      only = λ row there. are.kept.prices.only row (subst (λ rows. Has rows row) same.prices there);
    };
    counts = record {
      each = λ plan among.
          let (row, there, says) = are.kept.counts.each plan among in
          (row, subst (λ rows. Has rows row) (sym same.counts) there, says);
      only = λ row there. are.kept.counts.only row (subst (λ rows. Has rows row) same.counts there);
    };
  };
}

still_of : (plans : List Plan) (old new : State) → (IsOpenBook new → IsOpenBook old)
    → LeavesPlans old new → IsOf plans old → IsOf plans new
still_of plans old new was_open leaves was = record {
  shows = λ open_now.
      are_same plans old.now.trees new.now.trees (leaves.shows open_now)
      (was.shows (was_open open_now));
  leaves = λ clean db may.
      let before : HasCleanDisk old = omega (arith, leaves.survives.clean, clean) in
      ⊎_elim (λ left. was.leaves before db left)
      (λ wrote. are_same plans old.now.trees db wrote.1 (was.shows wrote.0))
      (leaves.survives.crash clean db may);
}

no_refusal : (plans : List Plan) (db : Database) (why : SqlBookError) → db.schema ≡ book_schema
    → AreOf plans db.trees → IsRefusedAs plans db why → why ≡ Unavailable
no_refusal plans db NotABook is are refused =
    absurd (refused is own_number are.number.has)
no_refusal plans db (WrongSchema n) is are (other, alone) =
    absurd (other (sym ((alone is).alone own_number are.number.has)))
no_refusal plans db PlansDiffer is are (same, number, differ) = absurd (differ are.kept)
no_refusal plans db Unavailable is are refused = refl

pub takes_next : (plans : List Plan) (old new : State) → NextStartTakes plans old new
takes_next plans old new = record {
  begun = λ are only. record {
    shows = λ open_now. are;
    leaves = λ clean db may. subst (AreOf plans) (sym (only clean db may)) are;
  };
  kept = still_of plans old new;
  taken = no_refusal plans;
}
