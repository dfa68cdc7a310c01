-- The rows of an account that were counted under its keys, one key after another.
use Rattle.std.proofs.Common.{◌≡◌, ℕ, ◌+◌, ◌<◌, ◌≤◌, ◌^◌, Bool, true, false, cond, arith}
use Rattle.std.proofs.Common.{List, [], ◌∷◌, ◌++◌, map, length, take, get_or, inl, inr, refl, sym, ap}
use Rattle.std.proofs.Common.{◌∙◌, subst}
use Rattle.std.specs.Prelude.{Option, Some, None, Contains, ◌==◌}
use Rattle.std.specs.List.{filter}
use Rattle.std.specs.List.Sorted.{IsStrictlySortedBy}
use Rattle.std.proofs.lemmas.List.{map-append, take_more, length-map, length-take-le}
use Rattle.std.proofs.lemmas.List.Elements.{Contains-push_cases}
use Rattle.acct_model.proofs.Lists.{nowhere, from_map, to_map}
use Rattle.acct_model.proofs.Same.{Decides-bytes_eq}
use Rattle.acct_book.specs.declared.key.Key.{Key}
use Rattle.acct_book.specs.Row.{RowFacts}
use Rattle.acct_book.specs.Content.{Content, key_of}
use Rattle.acct_book.specs.Maps.{key_cmp}
use Rattle.acct_book.specs.Walk.{AreRowsOf, AreKeysOf}
use Rattle.acct_book.proofs.Keys.{octets_are}
use Rattle.acct_book_forward.specs.declared.forwarding.Tally.{Tally}
use Rattle.acct_book_forward.specs.declared.selection.Stay.{Stay}
use Rattle.acct_book_forward.specs.declared.selection.Stay.TheVariants.{Line, Kept, Open, Recent}
use Rattle.acct_book_forward.specs.Carrying.{SelectionFacts, stay_of, stay_number, staying}
use Rattle.acct_book_forward.specs.Carrying.{IsTallyOf, with_stay, HasRoom}
use Rattle.acct_book_forward.specs.inner.Forwarding.{IsCounted}

-- ---- one more row in a tally

length_at : (m : ℕ) (b : Bool) (x : RowFacts) (xs : List RowFacts) → length xs ≡ m
    → length (cond b (x ∷ xs) xs) ≡ m + cond b 1 0
length_at m true x xs is = omega (arith, is)
length_at m false x xs is = omega (arith, is)

length_more : (p : RowFacts → Bool) (xs : List RowFacts) (x : RowFacts)
    → length (filter p (xs ++ x ∷ [])) ≡ length (filter p xs) + cond (p x) 1 0
length_more p [] x = length_at 0 (p x) x [] refl
length_more p (y ∷ ys) x =
    elim (p y) as (λ b. length (cond b (y ∷ filter p (ys ++ x ∷ [])) (filter p (ys ++ x ∷ [])))
    ≡ length (cond b (y ∷ filter p ys) (filter p ys)) + cond (p x) 1 0) [
      | true ↦ let more = length_more p ys x in omega (arith, more)
      | false ↦ length_more p ys x
    ]

filter_few : (p : RowFacts → Bool) (xs : List RowFacts) → length (filter p xs) ≤ length xs
filter_few p [] = omega arith
filter_few p (y ∷ ys) =
    elim (p y) as (λ b. length (cond b (y ∷ filter p ys) (filter p ys)) ≤ length (y ∷ ys)) [
      | true ↦ let few = filter_few p ys in omega (arith, few)
      | false ↦ let few = filter_few p ys in omega (arith, few)
    ]

-- a count that has the row, and one that has not
one_more : (a n m : ℕ) → a ≡ n → m ≡ n + 1 → a + 1 ≡ m
one_more a n m is more = omega (arith, is, more)

as_many : (a n m : ℕ) → a ≡ n → m ≡ n + 0 → a ≡ m
as_many a n m is same = omega (arith, is, same)

module _ (selection : SelectionFacts) (rows : List RowFacts) (row : RowFacts) where
  now : (why : Option Stay) (s : Option Stay) → stay_of selection row ≡ s
      → length (staying selection why (rows ++ row ∷ []))
      ≡ length (staying selection why rows) + cond (stay_number s == stay_number why) 1 0
  now why s is =
      length_more (λ r. stay_number (stay_of selection r) == stay_number why) rows row
      ∙ ap (λ t. length (staying selection why rows) + cond (stay_number t == stay_number why) 1 0)
      is

  tally_at : (tally : Tally) (s : Option Stay) → stay_of selection row ≡ s
      → IsTallyOf selection rows tally
      → IsTallyOf selection (rows ++ row ∷ []) (with_stay s tally)
  tally_at tally None is was = record {
    too_large = one_more _ _ _ was.too_large (now None None is);
    of_kept = as_many _ _ _ was.of_kept (now (Some Kept) None is);
    still_open = as_many _ _ _ was.still_open (now (Some Open) None is);
    recent = as_many _ _ _ was.recent (now (Some Recent) None is);
  }
  tally_at tally (Some Line) is was = record {
    too_large = as_many _ _ _ was.too_large (now None (Some Line) is);
    of_kept = as_many _ _ _ was.of_kept (now (Some Kept) (Some Line) is);
    still_open = as_many _ _ _ was.still_open (now (Some Open) (Some Line) is);
    recent = as_many _ _ _ was.recent (now (Some Recent) (Some Line) is);
  }
  tally_at tally (Some Kept) is was = record {
    too_large = as_many _ _ _ was.too_large (now None (Some Kept) is);
    of_kept = one_more _ _ _ was.of_kept (now (Some Kept) (Some Kept) is);
    still_open = as_many _ _ _ was.still_open (now (Some Open) (Some Kept) is);
    recent = as_many _ _ _ was.recent (now (Some Recent) (Some Kept) is);
  }
  tally_at tally (Some Open) is was = record {
    too_large = as_many _ _ _ was.too_large (now None (Some Open) is);
    of_kept = as_many _ _ _ was.of_kept (now (Some Kept) (Some Open) is);
    still_open = one_more _ _ _ was.still_open (now (Some Open) (Some Open) is);
    recent = as_many _ _ _ was.recent (now (Some Recent) (Some Open) is);
  }
  tally_at tally (Some Recent) is was = record {
    too_large = as_many _ _ _ was.too_large (now None (Some Recent) is);
    of_kept = as_many _ _ _ was.of_kept (now (Some Kept) (Some Recent) is);
    still_open = as_many _ _ _ was.still_open (now (Some Open) (Some Recent) is);
    recent = one_more _ _ _ was.recent (now (Some Recent) (Some Recent) is);
  }

-- a tally of fewer rows than 2^64 - 1 has room
few_room : (count : ℕ) (p : RowFacts → Bool) (rows : List RowFacts) → count ≡ length (filter p rows)
    → length rows + 1 < 2 ^ 64 → count + 1 < 2 ^ 64
few_room count p rows is few = let most = filter_few p rows in omega (arith, is, few, most)

has_room : (selection : SelectionFacts) (rows : List RowFacts) (tally : Tally)
    → IsTallyOf selection rows tally → length rows + 1 < 2 ^ 64 → HasRoom tally
has_room selection rows tally is few = record {
  too_large = few_room _ _ rows is.too_large few;
  of_kept = few_room _ _ rows is.of_kept few;
  still_open = few_room _ _ rows is.still_open few;
  recent = few_room _ _ rows is.recent few;
}

-- ---- the rows under the keys so far

pub record AreCounted (content : Content) (selection : SelectionFacts) (keys : List Key)
    (tally : Tally) : Type 0 where
  pub rows : List RowFacts
  pub keys_are : map key_of rows ≡ keys
  pub there : (row : RowFacts) → Contains rows row → content.rows (key_of row) ≡ Some row
  pub counts : IsTallyOf selection rows tally

pub none_counted : (content : Content) (selection : SelectionFacts) (tally : Tally)
    → IsTallyOf selection [] tally → AreCounted content selection [] tally
none_counted content selection tally counts = record {
  rows = [];
  keys_are = refl;
  there = λ row there. absurd (nowhere row there);
  counts = counts;
}

pub one_counted : (content : Content) (account : List ℕ) (selection : SelectionFacts)
    (keys : List Key) (at : ℕ) (key : Key) (old new : Tally)
    → ((k : Key) (row : RowFacts) → content.rows k ≡ Some row → key_of row ≡ k)
    → AreKeysOf content account keys → at < length keys → length keys < 2 ^ 64
    → key ≡ get_or keys at key → AreCounted content selection (take at keys) old
    → IsCounted content selection key old new → AreCounted content selection (take (at + 1) keys) new
one_counted content account selection keys at key old new own are within few is before counted =
    let found = (are.each key).0 (at, within, sym is) in
    let row = found.0 in
    let same : key_of row ≡ key = own key row found.1 in
    let so_many : length before.rows ≡ at =
    sym (length-map before.rows key_of) ∙ ap length before.keys_are
    ∙ length-take-le at keys (omega (arith, within)) in
    let small : length before.rows + 1 < 2 ^ 64 = omega (arith, so_many, within, few) in
    let tally = counted row found.1 (has_room selection before.rows old before.counts small) in
    record {
      rows = before.rows ++ row ∷ [];
      keys_are = map-append key_of before.rows (row ∷ [])
          ∙ (λ i. before.keys_are i ++ same i ∷ [])
          ∙ ap (λ k. take at keys ++ k ∷ []) is ∙ sym (take_more keys at key within);
      there = λ other there. elim (Contains-push_cases before.rows row other there) [
        | inl earlier ↦ before.there other earlier
        | inr last ↦ subst (λ r. content.rows (key_of r) ≡ Some r) last
            (ap content.rows same ∙ found.1)
      ];
      counts = subst (IsTallyOf selection (before.rows ++ row ∷ [])) (sym tally)
          (tally_at selection before.rows row old (stay_of selection row) refl before.counts);
    }

same_row : (one other : RowFacts) → Some one ≡ Some other → one ≡ other
same_row one other e = cc

-- in the end they are the rows of the account
pub all_counted : (content : Content) (account : List ℕ) (selection : SelectionFacts)
    (keys : List Key) (tally : Tally)
    → ((k : Key) (row : RowFacts) → content.rows k ≡ Some row → key_of row ≡ k)
    → AreKeysOf content account keys → AreCounted content selection keys tally
    → (rows : List RowFacts) × AreRowsOf content account rows × IsTallyOf selection rows tally
all_counted content account selection keys tally own are counted = (
  counted.rows,
  record {
    in_order = subst (IsStrictlySortedBy key_cmp) (sym counted.keys_are) are.in_order;
    each = λ row. (
      λ there.
          let at = subst (λ ks. Contains ks (key_of row)) counted.keys_are
          (to_map key_of counted.rows row there) in
          let found = (are.each (key_of row)).0 at in
          let one = same_row found.0 row (sym found.1 ∙ counted.there row there) in (
            counted.there row there,
            (Decides-bytes_eq account row.account).1
                (sym (ap (λ (r : RowFacts). r.account) (sym one) ∙ found.2)),
          ),
      λ there.
          let at = (are.each (key_of row)).1
          (row, there.0, sym (octets_are account row.account there.1)) in
          let other = from_map key_of counted.rows (key_of row)
          (subst (λ ks. Contains ks (key_of row)) (sym counted.keys_are) at) in
          let one = same_row other.0 row
          (sym (counted.there other.0 other.1) ∙ ap content.rows other.2 ∙ there.0) in
          subst (Contains counted.rows) one other.1,
    );
  },
  counted.counts,
)
