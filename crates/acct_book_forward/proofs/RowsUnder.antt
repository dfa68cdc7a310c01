-- The rows of an account that were found under keys in order, one key after another.
use Rattle.std.proofs.Common.{◌≡◌, ℕ, ◌+◌, ◌<◌, ◌≤◌, List, [], ◌∷◌, ◌++◌, map, length, get_or, drop}
use Rattle.std.proofs.Common.{inl, inr, sym, ap, ◌∙◌, subst}
use Rattle.std.specs.Prelude.{Contains, Option, Some, None, IfSome}
use Rattle.std.specs.List.Sorted.{IsStrictlySortedBy}
use Rattle.std.proofs.lemmas.List.{append_assoc, append-nil, map-append, drop_more, drop_all}
use Rattle.acct_model.proofs.Lists.{nowhere}
use Rattle.std.proofs.lemmas.List.Elements.{Contains-push_cases}
use Rattle.acct_book.specs.declared.key.Key.{Key}
use Rattle.acct_book.specs.Row.{RowFacts}
use Rattle.acct_book.specs.Content.{Content, HasOwnKeys, key_of}
use Rattle.acct_book.specs.Maps.{key_cmp}
use Rattle.acct_book_forward.specs.inner.Forwarding.{IsUnder, AreAmong, with_found}
use Rattle.acct_book_forward.proofs.InOrder.{order_less}

-- these were found, under keys before these later ones
pub record AreFound (content : Content) (account : List ℕ) (rows : List RowFacts)
    (later : List Key) : Type 0 where
  pub in_order : IsStrictlySortedBy key_cmp (map key_of rows ++ later)
  pub each : (row : RowFacts) → Contains rows row → IsUnder content account (key_of row) row

pub none_found : (content : Content) (account : List ℕ) (keys : List Key)
    → IsStrictlySortedBy key_cmp keys → AreFound content account [] keys
none_found content account keys sorted = record {
  in_order = sorted;
  each = λ row there. absurd (nowhere row there);
}

pub all_found : (content : Content) (account : List ℕ) (rows : List RowFacts) (keys : List Key)
    (at : ℕ) → length keys ≤ at → AreFound content account rows (drop at keys)
    → AreAmong content account rows
all_found content account rows keys at past found = record {
  in_order = subst (IsStrictlySortedBy key_cmp)
      (ap (λ later. map key_of rows ++ later) (drop_all at keys past)
      ∙ append-nil (map key_of rows)) found.in_order;
  each = found.each;
}

-- there is none under the next key
pub no_more : (content : Content) (account : List ℕ) (rows : List RowFacts) (key : Key)
    (later : List Key) → AreFound content account rows (key ∷ later)
    → AreFound content account rows later
no_more content account rows key later found = record {
  in_order = order_less key_cmp (map key_of rows) key later found.in_order;
  each = found.each;
}

-- there is one
one_more : (content : Content) (account : List ℕ) (rows : List RowFacts) (row : RowFacts)
    (later : List Key) → AreFound content account rows (key_of row ∷ later)
    → IsUnder content account (key_of row) row
    → AreFound content account (rows ++ row ∷ []) later
one_more content account rows row later found is = record {
  in_order = subst (IsStrictlySortedBy key_cmp) (sym
      (ap (λ keys. keys ++ later) (map-append key_of rows (row ∷ []))
      ∙ append_assoc (map key_of rows) (key_of row ∷ []) later)) found.in_order;
  each = λ other there. elim (Contains-push_cases rows row other there) [
    | inl before ↦ found.each other before
    | inr same ↦ subst (λ r. IsUnder content account (key_of r) r) same is
  ];
}

found_next : (content : Content) (account : List ℕ) (rows : List RowFacts) (key : Key)
    (later : List Key) (found : Option RowFacts) → HasOwnKeys content
    → IfSome found (IsUnder content account key) → AreFound content account rows (key ∷ later)
    → AreFound content account (with_found rows found) later
found_next content account rows key later None own is before =
    no_more content account rows key later before
found_next content account rows key later (Some row) own is before =
    let same : key_of row ≡ key = own.rows key row is.there in
    one_more content account rows row later
    (subst (λ k. AreFound content account rows (k ∷ later)) (sym same) before)
    (subst (λ k. IsUnder content account k row) (sym same) is)

-- after one more key of a list
pub found_more : (content : Content) (account : List ℕ) (rows : List RowFacts) (keys : List Key)
    (at : ℕ) (key : Key) (found : Option RowFacts) → HasOwnKeys content → at < length keys
    → key ≡ get_or keys at key → IfSome found (IsUnder content account key)
    → AreFound content account rows (drop at keys)
    → AreFound content account (with_found rows found) (drop (at + 1) keys)
found_more content account rows keys at key found own within is under before =
    let split : drop at keys ≡ key ∷ drop (at + 1) keys =
    drop_more keys at key within ∙ ap (λ k. k ∷ drop (at + 1) keys) (sym is) in
    found_next content account rows key (drop (at + 1) keys) found own under
    (subst (AreFound content account rows) split before)
