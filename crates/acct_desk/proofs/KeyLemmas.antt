-- The faults of keys, and the places of their tokens.
use Rattle.std.proofs.Common.{◌≡◌, ℕ, suc, ◌+◌, ◌-◌, ◌<◌, ◌≤◌, Bool, true, false, cond, ◌||◌, List}
use Rattle.std.proofs.Common.{[], ◌∷◌, ◌++◌, length, get_or, refl, sym, ◌∙◌, ap, subst}
use Rattle.std.proofs.Common.{arith}
use Rattle.std.specs.Prelude.{Result, Ok, Err, OnOk, OnErr, is_err, Option, Some, None, is_some}
use Rattle.std.specs.Prelude.{Vec}
use Rattle.std.specs.Prelude.{bytes_eq}
use Rattle.std.specs.Global.{Global}
use Rattle.std.specs.List.{list_any, find, position_from}
use Rattle.std.specs.Option.{option_or}
use Rattle.std.specs.Ordering.{is_eq, eq_by_cmp}
use Rattle.std.specs.Cmp.{eq_by_cmp_equiv}
use Rattle.std.specs.Cmp.Lexicographic.{nat_list_cmp_total, nat_list_eq_equiv}
use Rattle.std.specs.BTreeMap as tree
use Rattle.std.specs.BTreeMap.{BTreeMap, is_at}
use Rattle.std.specs.Map.{lookup, IsKeyTest, AreApart, KeepsOthers}
use Rattle.std.proofs.lemmas.Map.Text.{is_eq-slice_cmp}
use Rattle.acct_book.specs.Maps.{octets_cmp}
use Rattle.acct_book.proofs.Keys.{octets_are, octets_sym}
use Rattle.acct_book.proofs.MapSteps.{vec_cmp}
use Rattle.acct_model.proofs.Faults.{faultless_more}
use Rattle.acct_desk.specs.declared.keys.DeskKey.{DeskKey}
use Rattle.acct_desk.specs.declared.keys.KeysError.TheVariants.{TwiceKeyed}
use Rattle.std.proofs.lemmas.List.Folds.{list_any-append}
use Rattle.acct_desk.specs.Keys.{has_token, is_token_text, is_for_logins}
use Rattle.acct_desk.specs.KeyFaults.{key_fault, keys_fault, place_at, ArePlaces}

-- ---- faults

-- a key whose token is in order and new has no fault
pub no_fault : (earlier : List DeskKey) (key : DeskKey) → is_token_text key.token ≡ true
    → list_any (has_token key.token) earlier ≡ false → key_fault earlier key ≡ None
no_fault earlier key is fresh = rw (is, fresh) refl

pub twice_keyed : (earlier : List DeskKey) (key : DeskKey) → is_token_text key.token ≡ true
    → list_any (has_token key.token) earlier ≡ true → key_fault earlier key ≡ Some TwiceKeyed
twice_keyed earlier key is twice = rw (is, twice) refl

-- ---- places

-- one more element
pub position_from-more : {X : Type 0} (test : X → Bool) (i : ℕ) (xs : List X) (x : X)
    → position_from test i (xs ++ x ∷ [])
    ≡ option_or (position_from test i xs) (cond (test x) (Some (i + length xs)) None)
position_from-more test i [] x =
    ap (λ n. cond (test x) (Some n) None) (let e : i ≡ i + 0 = omega arith in e)
position_from-more test i (y ∷ ys) x =
    elim (test y) as (λ b. cond b (Some i) (position_from test (i + 1) (ys ++ x ∷ []))
    ≡ option_or (cond b (Some i) (position_from test (i + 1) ys))
    (cond (test x) (Some (i + length (y ∷ ys))) None)) [
      | true ↦ refl
      | false ↦ position_from-more test (i + 1) ys x
          ∙ ap (λ n. option_or (position_from test (i + 1) ys) (cond (test x) (Some n) None))
          (let e : i + 1 + length ys ≡ i + length (y ∷ ys) = omega arith in e)
    ]

-- there is a place exactly if some element passes
pub is_some-position_from : {X : Type 0} (test : X → Bool) (i : ℕ) (xs : List X)
    → is_some (position_from test i xs) ≡ list_any test xs
is_some-position_from test i [] = refl
is_some-position_from test i (y ∷ ys) =
    elim (test y) as (λ b. is_some (cond b (Some i) (position_from test (i + 1) ys))
    ≡ (b || list_any test ys)) [
      | true ↦ refl
      | false ↦ is_some-position_from test (i + 1) ys
    ]

-- what is at the place
pub record StandsAt {X : Type 0} (found : Option X) (i : ℕ) (xs : List X) (j : ℕ) : Type 0 where
  pub from : i ≤ j
  pub within : j < i + length xs
  pub is : (d : X) → found ≡ Some (get_or xs (j - i) d)

at_first : {X : Type 0} (i j : ℕ) (y : X) (ys : List X) → Some i ≡ Some j
    → StandsAt (Some y) i (y ∷ ys) j
at_first i j y ys e =
    let same : i ≡ j = cc in
    record {
      from = omega arith;
      within = omega arith;
      is =
          λ d. ap (λ n. Some (get_or (y ∷ ys) n d)) (let z : 0 ≡ j - i = omega arith in z);
    }

at_later : {X : Type 0} (found : Option X) (i j : ℕ) (y : X) (ys : List X)
    → StandsAt found (i + 1) ys j → StandsAt found i (y ∷ ys) j
at_later found i j y ys at =
    let from = at.from in
    let within = at.within in
    record {
      from = omega arith;
      within = omega arith;
      is = λ d. at.is d
          ∙ ap (λ n. Some (get_or (y ∷ ys) n d)) (let z : suc (j - (i + 1)) ≡ j - i = omega arith in
          z);
    }

stands_by : {X : Type 0} (b : Bool) (i j : ℕ) (y : X) (ys : List X) (place : Option ℕ)
    (found : Option X) → (place ≡ Some j → StandsAt found (i + 1) ys j)
    → cond b (Some i) place ≡ Some j → StandsAt (cond b (Some y) found) i (y ∷ ys) j
stands_by true i j y ys place found rest e = at_first i j y ys e
stands_by false i j y ys place found rest e = at_later found i j y ys (rest e)

pub stands_at : {X : Type 0} (test : X → Bool) (i : ℕ) (xs : List X) (j : ℕ)
    → position_from test i xs ≡ Some j → StandsAt (find test xs) i xs j
stands_at test i [] j e = absurd (cc)
stands_at test i (y ∷ ys) j e =
    stands_by (test y) i j y ys (position_from test (i + 1) ys) (find test ys)
    (stands_at test (i + 1) ys j) e

none_by : {X : Type 0} (b : Bool) (i : ℕ) (y : X) (place : Option ℕ) (found : Option X)
    → (place ≡ None → found ≡ None) → cond b (Some i) place ≡ None → cond b (Some y) found ≡ None
none_by true i y place found rest e = absurd (cc)
none_by false i y place found rest e = rest e

pub none_stands : {X : Type 0} (test : X → Bool) (i : ℕ) (xs : List X)
    → position_from test i xs ≡ None → find test xs ≡ None
none_stands test i [] e = refl
none_stands test i (y ∷ ys) e =
    none_by (test y) i y (position_from test (i + 1) ys) (find test ys)
    (none_stands test (i + 1) ys) e

-- a token is among keys exactly if it has a place
pub is_among : (places : BTreeMap (Vec ℕ Global) ℕ) (keys : List DeskKey) (token : List ℕ)
    (b : Bool) → ArePlaces places keys → is_some (place_at places token) ≡ b
    → list_any (has_token token) keys ≡ b
is_among places keys token b placed is = sym (is_some-position_from (has_token token) 0 keys)
    ∙ ap is_some (sym (placed token)) ∙ is

pub on_ok : {T E : Type 0} (r : Result T E) (P : Type 0) → is_err r ≡ false → OnOk r P → P
on_ok (Ok x) P is h = h
on_ok (Err e) P is h = absurd (cc)

-- ---- one more key

or_nothing : (b : Bool) → b ≡ (b || false)
or_nothing true = refl
or_nothing false = refl

-- whether one of the keys is for logins
pub told_more : (keys : List DeskKey) (key : DeskKey) (told : Bool)
    → told ≡ list_any is_for_logins keys
    → (told || is_for_logins key) ≡ list_any is_for_logins (keys ++ key ∷ [])
told_more keys key told is =
    (λ i. is i || or_nothing (is_for_logins key) i)
    ∙ sym (list_any-append is_for_logins keys (key ∷ []))

-- ---- one more place

apart : (bs cs ks : List ℕ) → bytes_eq bs cs ≡ false → bytes_eq bs ks ≡ true
    → bytes_eq cs ks ≡ false
apart bs cs ks n y = nat_list_eq_equiv.symm cs ks ∙ sym (nat_list_eq_equiv.congr bs ks cs y) ∙ n

apart_in_order : (bs cs ks : List ℕ) → bytes_eq bs cs ≡ false → is_eq (octets_cmp bs ks) ≡ true
    → is_eq (octets_cmp cs ks) ≡ false
apart_in_order bs cs ks n y = is_eq-slice_cmp cs ks
    ∙ apart bs cs ks n (sym (is_eq-slice_cmp bs ks) ∙ y)

other_entries : {K X : Type 0} (eq : K → K → Bool) (test : K → Bool) (old new : List (K × X))
    → KeepsOthers eq test old new → (other : K → Bool) → IsKeyTest eq other → AreApart test other
    → lookup other new ≡ lookup other old
unfolding KeepsOthers
other_entries eq test old new h = h

at_octets : (f g : List ℕ → Option ℕ) (bs : List ℕ) (w : Option ℕ) → g bs ≡ w
    → (cs : List ℕ) (b : Bool) → bytes_eq bs cs ≡ b → (bytes_eq bs cs ≡ false → g cs ≡ f cs)
    → g cs ≡ cond b w (f cs)
at_octets f g bs w here cs true e other = subst (λ l. g l ≡ w) (octets_are bs cs e) here
at_octets f g bs w here cs false e other = other e

-- what a map of places has for each token after one more
pub place-updates : (m n : BTreeMap (Vec ℕ Global) ℕ) (bs : List ℕ) (w : Option ℕ)
    → tree.UpdatesBy vec_cmp (λ k. octets_cmp bs k.items) m n w
    → (cs : List ℕ) → place_at n cs ≡ cond (bytes_eq bs cs) w (place_at m cs)
place-updates m n bs w h cs =
    at_octets (place_at m) (place_at n) bs w h.1 cs (bytes_eq bs cs) refl
    (λ e. other_entries (eq_by_cmp vec_cmp) (is_at (λ k. octets_cmp bs k.items)) m.entries n.entries
    h.3 (is_at (λ k. octets_cmp cs k.items))
    (λ x y. (eq_by_cmp_equiv nat_list_cmp_total).congr cs x.items y.items)
    (λ k. apart_in_order bs cs k.items e))

place_by : (b c : Bool) (o p : Option ℕ) (w : Option ℕ) → b ≡ c → (b ≡ true → o ≡ None) → o ≡ p
    → cond b w o ≡ option_or p (cond c w None)
place_by true true o p w e fresh same = ap (λ x. option_or x w) (sym (fresh refl) ∙ same)
place_by true false o p w e fresh same = absurd (cc)
place_by false true o p w e fresh same = absurd (cc)
place_by false false None p w e fresh same = ap (λ x. option_or x None) same
place_by false false (Some n) p w e fresh same = ap (λ x. option_or x None) same

nothing : (o : Option ℕ) → is_some o ≡ false → o ≡ None
nothing None e = refl
nothing (Some n) e = absurd (cc)

-- a new token's place, behind the keys before it
pub places-more : (m n : BTreeMap (Vec ℕ Global) ℕ) (keys : List DeskKey) (key : DeskKey)
    (bs : List ℕ) (place : ℕ) → bs ≡ key.token → place ≡ length keys → ArePlaces m keys
    → list_any (has_token key.token) keys ≡ false
    → tree.UpdatesBy vec_cmp (λ k. octets_cmp bs k.items) m n (Some place)
    → ArePlaces n (keys ++ key ∷ [])
places-more m n keys key bs place token behind placed new updates cs =
    let same : bytes_eq bs cs ≡ has_token cs key = octets_sym bs cs ∙ ap (bytes_eq cs) token in
    let fresh = ap is_some (placed key.token) ∙ is_some-position_from (has_token key.token) 0 keys
    ∙ new in
    let absent : bytes_eq bs cs ≡ true
    → place_at m cs ≡ None = λ e. ap (place_at m) (sym (octets_are bs cs e) ∙ token)
    ∙ nothing (place_at m key.token) fresh in
    let count : place ≡ 0 + length keys = omega arith in
    place-updates m n bs (Some place) updates cs
    ∙ place_by (bytes_eq bs cs) (has_token cs key) (place_at m cs)
    (position_from (has_token cs) 0 keys) (Some place) same absent (placed cs)
    ∙ ap (λ k. option_or (position_from (has_token cs) 0 keys)
    (cond (has_token cs key) (Some k) None)) count
    ∙ sym (position_from-more (has_token cs) 0 keys key)

-- if one more key was pushed, or none, there is still no fault
pub faultless_still : {T E : Type 0} (r : Result T E) (old new : List DeskKey) (key : DeskKey)
    → OnOk r (new ≡ old ++ key ∷ []) → OnErr r (new ≡ old) → keys_fault old ≡ None
    → key_fault old key ≡ None → keys_fault new ≡ None
faultless_still (Ok x) old new key pushed same none alone =
    subst (λ keys. keys_fault keys ≡ None) (sym pushed)
    (faultless_more key_fault old key none alone)
faultless_still (Err e) old new key pushed same none alone =
    subst (λ keys. keys_fault keys ≡ None) (sym same) none

-- if nothing of a map has changed, the places are the same
pub places-kept : (m n : BTreeMap (Vec ℕ Global) ℕ) (keys : List DeskKey)
    → tree.IsUnchanged m n → ArePlaces m keys → ArePlaces n keys
places-kept m n keys same placed cs =
    ap (λ entries. lookup (is_at (λ k. octets_cmp cs k.items)) entries) same ∙ placed cs
