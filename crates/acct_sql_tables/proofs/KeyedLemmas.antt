-- Each row of a book's tables has its key.
use Rattle.std.proofs.Common.{◌≡◌, ℕ, List, drop, true, not, refl, sym, ap, subst, ◌∙◌, true≢false}
use Rattle.std.proofs.lemmas.Bool.{and_parts, and_from}
use Rattle.sqlite.specs.declared.types.Value.{Value}
use Rattle.sqlite.specs.declared.types.Value.TheVariants.{Null, Int, Real, Text, Blob}
use Rattle.sqlite.specs.Order.{Row, column}
use Rattle.sqlite.specs.Kind.TheVariants as kind
use Rattle.sqlite.specs.Effect.{Database}
use Rattle.sqlite_sql.specs.Ops.{is_null}
use Rattle.sqlite_schema.specs.declared.schema.Constraint.TheVariants.{Datatype, NotNull}
use Rattle.sqlite_schema.specs.Rules.{is_of, passes, Keeps}
use Rattle.sqlite_rules.specs.Lists.{Has}
use Rattle.sqlite_rules.proofs.ListLemmas.{all_has}
use Rattle.acct_book.specs.declared.key.Key.{Key}
use Rattle.acct_sql_tables.specs.Tables.{book_schema, account, voucher, session}
use Rattle.acct_sql_tables.specs.Columns.{is_text, is_blob}
use Rattle.acct_sql_tables.specs.Content.{is_session, is_account, is_voucher}
use Rattle.acct_sql_tables.specs.Book.{IsBook}
use Rattle.acct_sql_tables.proofs.ValueLemmas.{is_its_blob, is_its_text}
use Rattle.acct_sql_tables.proofs.CloseLemmas.{AreStrict, typed_at, shifted}

text_there : (v : Value) → is_of kind.Text v ≡ true → not (is_null v) ≡ true → (t : List ℕ)
    × (v ≡ Text t)
text_there Null h there = absurd (true≢false (sym there))
text_there (Int n) h there = absurd (true≢false (sym h))
text_there (Real x) h there = absurd (true≢false (sym h))
text_there (Text t) h there = (t, refl)
text_there (Blob b) h there = absurd (true≢false (sym h))

blob_there : (v : Value) → is_of kind.Blob v ≡ true → not (is_null v) ≡ true → (b : List ℕ)
    × (v ≡ Blob b)
blob_there Null h there = absurd (true≢false (sym there))
blob_there (Int n) h there = absurd (true≢false (sym h))
blob_there (Real x) h there = absurd (true≢false (sym h))
blob_there (Text t) h there = absurd (true≢false (sym h))
blob_there (Blob b) h there = (b, refl)

module _ (db : Database) (book : IsBook db) (r : Row) where
  pub keyed_account : Has (db.trees account.tree) r → (name : List ℕ) × (is_account name r ≡ true)
  keyed_account h =
      let types = subst (λ schema. Keeps Datatype schema db.trees) book.schema
      (book.sound.obeys.rules Datatype) in
      let there = subst (λ schema. Keeps NotNull schema db.trees) book.schema
      (book.sound.obeys.rules NotNull) in
      let typed : passes Datatype book_schema db.trees account r
      ≡ true = all_has (λ row. passes Datatype book_schema db.trees account row ≡ true)
      (db.trees account.tree) r types.1.1.0 h in
      let present : passes NotNull book_schema db.trees account r
      ≡ true = all_has (λ row. passes NotNull book_schema db.trees account row ≡ true)
      (db.trees account.tree) r there.1.1.0 h in
      let kind_is = subst (λ v. is_of kind.Blob v ≡ true) (shifted r 0)
      (typed_at account.columns 0 (drop 1 r) (refl, (refl, tt)) (and_parts _ _ typed).0 0 _
      refl) in
      let name = blob_there (column r 1) kind_is (and_parts _ _ present).0 in
      (name.0, ap (is_blob name.0) name.1 ∙ is_its_blob name.0)

  pub keyed_voucher : Has (db.trees voucher.tree) r → (number : List ℕ) × (is_voucher number r
      ≡ true)
  keyed_voucher h =
      let types = subst (λ schema. Keeps Datatype schema db.trees) book.schema
      (book.sound.obeys.rules Datatype) in
      let there = subst (λ schema. Keeps NotNull schema db.trees) book.schema
      (book.sound.obeys.rules NotNull) in
      let typed : passes Datatype book_schema db.trees voucher r
      ≡ true = all_has (λ row. passes Datatype book_schema db.trees voucher row ≡ true)
      (db.trees voucher.tree) r types.1.1.1.0 h in
      let present : passes NotNull book_schema db.trees voucher r
      ≡ true = all_has (λ row. passes NotNull book_schema db.trees voucher row ≡ true)
      (db.trees voucher.tree) r there.1.1.1.0 h in
      let kind_is = subst (λ v. is_of kind.Text v ≡ true) (shifted r 0)
      (typed_at voucher.columns 0 (drop 1 r) (refl, (refl, (refl, (refl, tt))))
      (and_parts _ _ typed).0 0 _ refl) in
      let number = text_there (column r 1) kind_is (and_parts _ _ present).0 in
      (number.0, ap (is_text number.0) number.1 ∙ is_its_text number.0)

  pub keyed_session : Has (db.trees session.tree) r → (key : Key) × (is_session key r ≡ true)
  keyed_session h =
      let types = subst (λ schema. Keeps Datatype schema db.trees) book.schema
      (book.sound.obeys.rules Datatype) in
      let there = subst (λ schema. Keeps NotNull schema db.trees) book.schema
      (book.sound.obeys.rules NotNull) in
      let typed : passes Datatype book_schema db.trees session r
      ≡ true = all_has (λ row. passes Datatype book_schema db.trees session row ≡ true)
      (db.trees session.tree) r types.1.1.1.1.0 h in
      let present : passes NotNull book_schema db.trees session r
      ≡ true = all_has (λ row. passes NotNull book_schema db.trees session row ≡ true)
      (db.trees session.tree) r there.1.1.1.1.0 h in
      let strict : AreStrict session.columns = (
        refl,
        (
          refl,
          (
            refl,
            (
              refl,
              (
                refl,
                (
                  refl,
                  (
                    refl,
                    (
                      refl,
                      (
                        refl,
                        (refl, (refl, (refl, (refl, tt)))),
                      ),
                    ),
                  ),
                ),
              ),
            ),
          ),
        ),
      ) in
      let first = subst (λ v. is_of kind.Text v ≡ true) (shifted r 0)
      (typed_at session.columns 0 (drop 1 r) strict (and_parts _ _ typed).0 0 _ refl) in
      let second = subst (λ v. is_of kind.Blob v ≡ true) (shifted r 1)
      (typed_at session.columns 0 (drop 1 r) strict (and_parts _ _ typed).0 1 _ refl) in
      let client = text_there (column r 1) first (and_parts _ _ present).0 in
      let id = blob_there (column r 2) second (and_parts _ _ (and_parts _ _ present).1).0 in
      let key : Key = record { client = client.0; session = id.0 } in (
        key,
        and_from _ _ (ap (is_text client.0) client.1 ∙ is_its_text client.0)
            (ap (is_blob id.0) id.1 ∙ is_its_blob id.0),
      )

  -- the account that pays
  pub session_account : Has (db.trees session.tree) r → (account : List ℕ) × (column r 3
      ≡ Blob account)
  session_account h =
      let types = subst (λ schema. Keeps Datatype schema db.trees) book.schema
      (book.sound.obeys.rules Datatype) in
      let there = subst (λ schema. Keeps NotNull schema db.trees) book.schema
      (book.sound.obeys.rules NotNull) in
      let typed : passes Datatype book_schema db.trees session r
      ≡ true = all_has (λ row. passes Datatype book_schema db.trees session row ≡ true)
      (db.trees session.tree) r types.1.1.1.1.0 h in
      let present : passes NotNull book_schema db.trees session r
      ≡ true = all_has (λ row. passes NotNull book_schema db.trees session row ≡ true)
      (db.trees session.tree) r there.1.1.1.1.0 h in
      let strict : AreStrict session.columns = (
        refl,
        (
          refl,
          (
            refl,
            (
              refl,
              (
                refl,
                (
                  refl,
                  (
                    refl,
                    (
                      refl,
                      (
                        refl,
                        (refl, (refl, (refl, (refl, tt)))),
                      ),
                    ),
                  ),
                ),
              ),
            ),
          ),
        ),
      ) in
      let kind_is = subst (λ v. is_of kind.Blob v ≡ true) (shifted r 2)
      (typed_at session.columns 0 (drop 1 r) strict (and_parts _ _ typed).0 2 _ refl) in
      blob_there (column r 3) kind_is (and_parts _ _ (and_parts _ _ (and_parts _ _ present).1).1).0

  pub voucher_account : Has (db.trees voucher.tree) r → (account : List ℕ) × (column r 2
      ≡ Blob account)
  voucher_account h =
      let types = subst (λ schema. Keeps Datatype schema db.trees) book.schema
      (book.sound.obeys.rules Datatype) in
      let there = subst (λ schema. Keeps NotNull schema db.trees) book.schema
      (book.sound.obeys.rules NotNull) in
      let typed : passes Datatype book_schema db.trees voucher r
      ≡ true = all_has (λ row. passes Datatype book_schema db.trees voucher row ≡ true)
      (db.trees voucher.tree) r types.1.1.1.0 h in
      let present : passes NotNull book_schema db.trees voucher r
      ≡ true = all_has (λ row. passes NotNull book_schema db.trees voucher row ≡ true)
      (db.trees voucher.tree) r there.1.1.1.0 h in
      let kind_is = subst (λ v. is_of kind.Blob v ≡ true) (shifted r 1)
      (typed_at voucher.columns 0 (drop 1 r) (refl, (refl, (refl, (refl, tt))))
      (and_parts _ _ typed).0 1 _ refl) in
      blob_there (column r 2) kind_is (and_parts _ _ (and_parts _ _ present).1).0
