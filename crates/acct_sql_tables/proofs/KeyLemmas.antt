-- Each key has one row.
use Rattle.std.proofs.Common.{◌≡◌, ℕ, List, [], ◌∷◌, true, false, ◌&&◌, refl, sym, ap, subst, ◌∙◌}
use Rattle.std.specs.List.{list_any}
use Rattle.std.proofs.lemmas.Bool.{and_parts, not-true}
use Rattle.sqlite.specs.declared.types.Value.TheVariants.{Int}
use Rattle.sqlite.specs.Order.{Row, column}
use Rattle.sqlite.specs.Tree.{rowid}
use Rattle.sqlite.specs.Edit.{id_in}
use Rattle.sqlite_value.specs.Keys.{first_key, plain}
use Rattle.sqlite_schema.specs.Rules.{differ, agree, passes, Keeps}
use Rattle.sqlite_schema.specs.declared.schema.Constraint.TheVariants.{Unique}
use Rattle.sqlite_rules.specs.Lists.{Has}
use Rattle.sqlite_rules.proofs.ListLemmas.{all_has}
use Rattle.sqlite.specs.Effect.{Database}
use Rattle.acct_book.specs.declared.key.Key.{Key}
use Rattle.acct_sql_tables.specs.Tables.{book_schema, account, voucher, session, session_plan}
use Rattle.acct_sql_tables.specs.Tidy.{IsTidy}
use Rattle.acct_sql_tables.specs.Content.{is_session, is_account, is_voucher}
use Rattle.acct_sql_tables.specs.Book.{IsBook}
use Rattle.acct_sql_tables.proofs.FindLemmas.{IsOne}
use Rattle.acct_sql_tables.proofs.ValueLemmas.{blob_is, text_is, blob_equal, text_equal, not_differ}
use Rattle.acct_sql_tables.proofs.ValueLemmas.{and_false}
use Rattle.acct_sql_tables.proofs.WriteLemmas.{any_false}

-- two rows that agree at the places of a key are one
one_row : (rows : List Row) → IsTidy rows → (places : List ℕ) (r s : Row) → Has rows r → Has rows s
    → list_any (λ other. agree plain places other places r && differ (rowid other) (rowid r)) rows
    ≡ false → agree plain places s places r ≡ true → r ≡ s
one_row rows tidy places r s here there clash agrees =
    let both = any_false (λ other. agree plain places other places r && differ (rowid other)
    (rowid r)) rows s clash there in
    let same = and_false _ _ agrees both in
    let ids = not_differ (id_in (rowid s)) (id_in (rowid r))
    (rw (← tidy.ints s there, ← tidy.ints r here) same) in
    tidy.keyed r s here there (tidy.ints r here ∙ (ap Int (sym ids) ∙ sym (tidy.ints s there)))

pub one_account : (db : Database) → IsBook db → (name : List ℕ)
    → IsOne (is_account name) (db.trees account.tree)
unfolding first_key
one_account db book name r s here there first second =
    let rules = subst (λ schema. Keeps Unique schema db.trees) book.schema
    (book.sound.obeys.rules Unique) in
    let row : passes Unique book_schema db.trees account r
    ≡ true = all_has (λ row. passes Unique book_schema db.trees account row
    ≡ true) (db.trees account.tree)
    r rules.1.1.0 here in
    let agrees : agree plain (1 ∷ []) s (1 ∷ []) r ≡ true = rw
    (blob_is name (column s 1) second, blob_is name (column r 1) first, blob_equal name) refl in
    one_row (db.trees account.tree) book.accounts (1 ∷ []) r s here there (not-true _
    (and_parts _ _ row).0) agrees

pub one_voucher : (db : Database) → IsBook db → (number : List ℕ)
    → IsOne (is_voucher number) (db.trees voucher.tree)
unfolding first_key
one_voucher db book number r s here there first second =
    let rules = subst (λ schema. Keeps Unique schema db.trees) book.schema
    (book.sound.obeys.rules Unique) in
    let row : passes Unique book_schema db.trees voucher r
    ≡ true = all_has (λ row. passes Unique book_schema db.trees voucher row
    ≡ true) (db.trees voucher.tree)
    r rules.1.1.1.0 here in
    let agrees : agree plain (1 ∷ []) s (1 ∷ []) r ≡ true = rw
    (text_is number (column s 1) second, text_is number (column r 1) first, text_equal number)
    refl in
    one_row (db.trees voucher.tree) book.vouchers (1 ∷ []) r s here there (not-true _
    (and_parts _ _ row).0) agrees

pub one_session : (db : Database) → IsBook db → (key : Key) → IsOne (is_session key)
    (db.trees session.tree)
unfolding first_key
one_session db book key r s here there first second =
    let rules = subst (λ schema. Keeps Unique schema db.trees) book.schema
    (book.sound.obeys.rules Unique) in
    let row : passes Unique book_schema db.trees session r
    ≡ true = all_has (λ row. passes Unique book_schema db.trees session row
    ≡ true) (db.trees session.tree)
    r rules.1.1.1.1.0 here in
    let f = and_parts _ _ first in
    let s' = and_parts _ _ second in
    let agrees : agree plain (1 ∷ 2 ∷ []) s (1 ∷ 2 ∷ []) r ≡ true =
    rw (
      text_is key.client (column s 1) s'.0,
      text_is key.client (column r 1) f.0,
      blob_is key.session (column s 2) s'.1,
      blob_is key.session (column r 2) f.1,
      text_equal key.client,
      blob_equal key.session,
    ) refl in
    one_row (db.trees session.tree) book.sessions (1 ∷ 2 ∷ []) r s here there
    (not-true _ (and_parts _ _ row).0) agrees

pub one_session_plan : (db : Database) → IsBook db → (key : Key) → IsOne (is_session key)
    (db.trees session_plan.tree)
unfolding first_key
one_session_plan db book key r s here there first second =
    let rules = subst (λ schema. Keeps Unique schema db.trees) book.schema
    (book.sound.obeys.rules Unique) in
    let row : passes Unique book_schema db.trees session_plan r
    ≡ true = all_has (λ row. passes Unique book_schema db.trees session_plan row
    ≡ true) (db.trees session_plan.tree)
    r rules.1.1.1.1.1.1.0 here in
    let f = and_parts _ _ first in
    let s' = and_parts _ _ second in
    let agrees : agree plain (1 ∷ 2 ∷ []) s (1 ∷ 2 ∷ []) r ≡ true =
    rw (
      text_is key.client (column s 1) s'.0,
      text_is key.client (column r 1) f.0,
      blob_is key.session (column s 2) s'.1,
      blob_is key.session (column r 2) f.1,
      text_equal key.client,
      blob_equal key.session,
    ) refl in
    one_row (db.trees session_plan.tree) book.plans (1 ∷ 2 ∷ []) r s here there
    (not-true _ (and_parts _ _ row).0) agrees
