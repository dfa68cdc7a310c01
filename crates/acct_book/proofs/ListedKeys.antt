-- The keys of the rows of an account.
use Rattle.std.proofs.Common.{◌≡◌, ℕ, List, map, sym, subst}
use Rattle.std.specs.Prelude.{Some, Contains}
use Rattle.acct_model.proofs.Lists.{from_map, to_map}
use Rattle.acct_model.proofs.Same.{Decides-bytes_eq}
use Rattle.acct_book.specs.declared.key.Key.{Key}
use Rattle.acct_book.specs.Row.{RowFacts}
use Rattle.acct_book.specs.Content.{Content, key_of}
use Rattle.acct_book.specs.Walk.{AreRowsOf, AreKeysOf}
use Rattle.acct_book.proofs.Keys.{octets_are}

-- the keys of the rows that an account has, each of which is under its own key
pub keys_listed : (content : Content) (account : List ℕ) (rows : List RowFacts)
    → ((key : Key) (row : RowFacts) → content.rows key ≡ Some row → key_of row ≡ key)
    → AreRowsOf content account rows → AreKeysOf content account (map key_of rows)
keys_listed content account rows own are = record {
  in_order = are.in_order;
  each = λ key. (
    λ there.
        let row = from_map key_of rows key there in
        let is = (are.each row.0).0 row.1 in (
          row.0,
          subst (λ k. content.rows k ≡ Some row.0) row.2 is.0,
          sym (octets_are account row.0.account is.1),
        ),
    λ there.
        let row = there.0 in
        let same : key_of row ≡ key = own key row there.1 in
        subst (Contains (map key_of rows)) same
        (to_map key_of rows row ((are.each row).1 (
          subst (λ k. content.rows k ≡ Some row) (sym same) there.1,
          (Decides-bytes_eq account row.account).1 (sym there.2),
        ))),
  );
}
