-- What UPDATE, DELETE and INSERT do to any table of the book.
use Rattle.std.proofs.Common.{◌≡◌, ◌⊎◌, inl, inr, ℕ, ◌/◌, List, [], ◌∷◌, length, Some, None, Ok}
use Rattle.std.proofs.Common.{Err, Result, slice_get, sym, ap, subst, subst₂, ◌∙◌, unwrap_or}
use Rattle.std.proofs.lemmas.List.{length-map}
use Rattle.sqlite.specs.declared.types.Value.TheVariants.{Null}
use Rattle.sqlite.specs.Order.{Row, column}
use Rattle.sqlite.specs.Tree.{Trees, rowid}
use Rattle.sqlite.specs.Term.{Term, eval_all}
use Rattle.sqlite.specs.Query.{IsAnswerAs}
use Rattle.sqlite.specs.Program.{overlay}
use Rattle.sqlite.specs.Table.{Table}
use Rattle.sqlite.specs.Source.TheVariants.{Values}
use Rattle.sqlite.specs.Command.TheVariants.{Insert, Update, Delete}
use Rattle.sqlite.specs.Edit.{edit_of, taken_by, Applies}
use Rattle.sqlite_schema.specs.declared.program.Program.{Program}
use Rattle.sqlite.specs.Rowids.TheVariants.{Given, Chosen}
use Rattle.sqlite_schema.specs.declared.schema.Keys.TheVariants.{Enforced}
use Rattle.sqlite_schema.specs.declared.schema.Column.{Column}
use Rattle.sqlite_rules.specs.Calls.{ids_of}
use Rattle.sqlite_rules.specs.Action.{works}
use Rattle.sqlite_rules.proofs.RowLemmas.{length-numbered}
use Rattle.sqlite.specs.Does.{Tally, Does, AtPlace, OnRows}
use Rattle.sqlite.specs.Rows.{Part, Written, Task}
use Rattle.sqlite.specs.Effect.{Database, IsDatabase, value_rows}
use Rattle.sqlite.specs.Listing.{understood}
use Rattle.sqlite.specs.State.{State, mode_of, Executes}
use Rattle.sqlite.proofs.Callers.{IsPlain, command_of, statement_of, runs_as, one_step}
use Rattle.acct_sql_tables.specs.Tables.{book_schema, table_of}
use Rattle.acct_sql_tables.proofs.QueryLemmas.{over_table, all_rows, seen_unhidden}

-- a part that returned a value did not stop early
pub went : {B E R : Type 0} {b : B} {Stops : E → Type 0}
    → ((stop : E) × Stops stop × (Ok b ≡ Err stop)) ⊎ R → R
went (inl stopped) = absurd (let e = stopped.2 in cc)
went (inr on) = on

pub same_value : {B E : Type 0} {a b : B} → ◌≡◌ {A = Result B E} (Ok a) (Ok b) → a ≡ b
same_value e = cc

module _ (at : ℕ) (name : List ℕ) (tree : ℕ) (columns : List Column) (key : List ℕ)
    (place : slice_get book_schema.tables at ≡ Some (table_of name tree columns key))
    (seen : (db : Trees) → overlay db [] tree ≡ db tree)
    (acts : (taken news : List Row) → works book_schema Enforced 0 tree taken news ≡ []) where
  abbrev table : Table
  table = table_of name tree columns key

  -- what UPDATE did: the rows of the answer, and the step that rewrote them
  pub record HasUpdated (filter project : List Term) (params : Row) (old new : State) (count : ℕ) :
      Type 0 where
    pub answer : List Row
    pub selects : IsAnswerAs Null (over_table tree filter project [] all_rows) old.now.trees params
        answer
    pub applies : Applies book_schema Enforced old.now.trees
        (edit_of old.now.trees table (ids_of answer) Given 1 answer) new.now.trees
    pub schema : new.now.schema ≡ book_schema
    pub counted : count ≡ length answer
    pub sound : IsDatabase new.now

  pub updates : (text : List ℕ) (filter project : List Term) (params : Row) (old new : State)
      (count : ℕ)
      → command_of (understood book_schema text) ≡ Update at
      (record { lets = []; body = over_table tree filter project [] all_rows })
      → IsPlain (understood book_schema text)
      → old.now.schema ≡ book_schema → Executes text params old new (Ok count)
      → HasUpdated filter project params old new count
  updates text filter project params old new count is plain has h =
      let q : Program = record { lets = []; body = over_table tree filter project [] all_rows } in
      let command = Update at q in
      let db = old.now.trees in
      let w = runs_as text params old new book_schema has command is plain count h in
      let words = statement_of text (understood book_schema text) in
      let out = Ok (w.tally, new.now) in
      let all = subst (λ s. Does old.step_limit (mode_of old) params (record old.now { schema = s })
      words None command out) has w.changed in
      let done = went (subst (λ o. AtPlace (λ t. OnRows (record {
        limit = old.step_limit;
        keys = Enforced;
        schema = book_schema;
        table = t;
        params = params;
      }) (mode_of old) None command db) o out) place all) in
      let now = ap (λ (p : Tally × Database). p.1) (same_value (went (went done.2).2).2) in
      let read = went done.1 in
      let wrote = went read.2 in
      let trees : done.0.trees ≡ wrote.0 = ap (λ (it : Written). it.trees) (same_value wrote.2) in
      let edit = edit_of db table (ids_of read.0) Given 1 read.0 in
      let step = one_step book_schema Enforced db wrote.0 edit (acts (taken_by db edit) edit.news)
      wrote.1 in
      let after : new.now.trees ≡ wrote.0 = ap (λ (d : Database). d.trees) now ∙ trees in
      record {
        answer = read.0;
        selects = seen_unhidden tree filter project [] all_rows Null (overlay db []) db params
            read.0 (seen db) (read.1.answer Null);
        applies = subst (Applies book_schema Enforced db edit) (sym after) step;
        schema = ap (λ (d : Database). d.schema) now;
        sound = w.sound;
        counted = w.counted ∙ (ap (λ (p : Tally × Database). unwrap_or p.0.rows 0)
            (same_value (went (went done.2).2).2)
            ∙ (ap (λ (it : Written). length it.rows) (same_value wrote.2)
            ∙ (length-numbered Given _ _ ∙ length-map read.0 _)));
      }

  -- what DELETE did: the rows of the answer, and the step that removed those that they name
  pub record HasDeleted (filter project : List Term) (params : Row) (old new : State) : Type 0 where
    pub answer : List Row
    pub selects : IsAnswerAs Null (over_table tree filter project [] all_rows) old.now.trees params
        answer
    pub applies : Applies book_schema Enforced old.now.trees
        (edit_of old.now.trees table (ids_of answer) Given 0 []) new.now.trees
    pub schema : new.now.schema ≡ book_schema
    pub sound : IsDatabase new.now

  pub deletes : (text : List ℕ) (filter project : List Term) (params : Row) (old new : State)
      (count : ℕ)
      → command_of (understood book_schema text) ≡ Delete at
      (record { lets = []; body = over_table tree filter project [] all_rows })
      → IsPlain (understood book_schema text)
      → old.now.schema ≡ book_schema → Executes text params old new (Ok count)
      → HasDeleted filter project params old new
  deletes text filter project params old new count is plain has h =
      let q : Program = record { lets = []; body = over_table tree filter project [] all_rows } in
      let command = Delete at q in
      let db = old.now.trees in
      let w = runs_as text params old new book_schema has command is plain count h in
      let words = statement_of text (understood book_schema text) in
      let out = Ok (w.tally, new.now) in
      let all = subst (λ s. Does old.step_limit (mode_of old) params (record old.now { schema = s })
      words None command out) has w.changed in
      let done = went (subst (λ o. AtPlace (λ t. OnRows (record {
        limit = old.step_limit;
        keys = Enforced;
        schema = book_schema;
        table = t;
        params = params;
      }) (mode_of old) None command db) o out) place all) in
      let now = ap (λ (p : Tally × Database). p.1) (same_value (went (went done.2).2).2) in
      let read = went done.1 in
      let wrote = went read.2 in
      let trees : done.0.trees ≡ wrote.0 = ap (λ (it : Written). it.trees) (same_value wrote.2) in
      let edit = edit_of db table (ids_of read.0) Given 0 [] in
      let step = one_step book_schema Enforced db wrote.0 edit (acts (taken_by db edit) edit.news)
      wrote.1 in
      let after : new.now.trees ≡ wrote.0 = ap (λ (d : Database). d.trees) now ∙ trees in
      record {
        answer = read.0;
        selects = seen_unhidden tree filter project [] all_rows Null (overlay db []) db params
            read.0 (seen db) (read.1.answer Null);
        applies = subst (Applies book_schema Enforced db edit) (sym after) step;
        schema = ap (λ (d : Database). d.schema) now;
        sound = w.sound;
      }

  -- what INSERT did
  pub record HasInserted (source : Row) (old new : State) : Type 0 where
    pub applies : Applies book_schema Enforced old.now.trees
        (edit_of old.now.trees table [] Chosen 0 (source ∷ [])) new.now.trees
    pub schema : new.now.schema ≡ book_schema
    pub sound : IsDatabase new.now

  pub inserts : (text : List ℕ) (terms : List Term) (width : ℕ) (params source : Row)
      (old new : State) (count : ℕ)
      → command_of (understood book_schema text) ≡ Insert at (Values terms width)
      → IsPlain (understood book_schema text)
      → value_rows (Rattle.sqlite.specs.Rows.stamped table params) width (length terms / width)
      terms ≡ source ∷ []
      → old.now.schema ≡ book_schema → Executes text params old new (Ok count)
      → HasInserted source old new
  inserts text terms width params source old new count is plain one has h =
      let db = old.now.trees in
      let command = Insert at (Values terms width) in
      let w = runs_as text params old new book_schema has command is plain count h in
      let words = statement_of text (understood book_schema text) in
      let out = Ok (w.tally, new.now) in
      let all = subst (λ s. Does old.step_limit (mode_of old) params (record old.now { schema = s })
      words None command out) has w.changed in
      let done = went (subst (λ o. AtPlace (λ t. OnRows (record {
        limit = old.step_limit;
        keys = Enforced;
        schema = book_schema;
        table = t;
        params = params;
      }) (mode_of old) None command db) o out) place all) in
      let now = ap (λ (p : Tally × Database). p.1) (same_value (went (went done.2).2).2) in
      let given = went done.1 in
      let written = went (went given.2).2 in
      let counted = went written.2 in
      let trees : done.0.trees ≡ written.0 = ap (λ (it : Written). it.trees) (same_value counted.2)
      ∙ same_value counted.1 in
      let after : new.now.trees ≡ written.0 = ap (λ (d : Database). d.trees) now ∙ trees in
      let edit = edit_of db table [] Chosen 0 given.0 in
      let step = one_step book_schema Enforced db written.0 edit (acts (taken_by db edit) edit.news)
      written.1 in
      let rows : given.0 ≡ source ∷ [] = given.1.1 ∙ one in
      record {
        applies = subst₂ (λ rows next. Applies book_schema Enforced db
            (edit_of db table [] Chosen 0 rows) next) rows (sym after) step;
        schema = ap (λ (d : Database). d.schema) now;
        sound = w.sound;
      }
