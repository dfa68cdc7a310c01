-- Rows that are removed from a map.
use Rattle.std.proofs.Common.{◌≡◌, ℕ, ◌+◌, ◌<◌, Bool, true, false, ◌||◌, cond, List, [], ◌∷◌, ◌++◌}
use Rattle.std.proofs.Common.{refl, sym, ap, ◌∙◌, take, get_or, length}
use Rattle.std.proofs.lemmas.List.{take_more}
use Rattle.std.specs.Prelude.{Option, Some, None, Result, Ok, Err, OnOk, OnErr}
use Rattle.std.specs.List.{list_any}
use Rattle.std.specs.BTreeMap as tree
use Rattle.std.specs.BTreeMap.{BTreeMap, IsUnchanged}
use Rattle.std.specs.Map.{update, lookup}
use Rattle.acct_model.proofs.Lists.{here, deeper}
use Rattle.acct_model.proofs.Same.{Decides-false}
use Rattle.acct_book.specs.declared.key.Key.{Key}
use Rattle.acct_book.specs.Row.{RowFacts}
use Rattle.acct_book.specs.Content.{Content, HasOwnKeys, same_key, key_of}
use Rattle.acct_book.specs.Maps.{key_cmp, content_from}
use Rattle.acct_book.specs.Content.{rows_without, with_forward, IsNone}
use Rattle.acct_book.proofs.Keys.{key_is, Decides-same_key}
use Rattle.acct_book.proofs.MapSteps.{key-updates}
use Rattle.acct_book.proofs.MemSteps.{Put, Topups, Balances}

-- one of these keys
abbrev pub is_gone : List Key → Key → Bool
is_gone gone k = list_any (λ g. same_key g k) gone

cond_or : {X : Type 0} (a b : Bool) (x y : X) → cond b x (cond a x y) ≡ cond (a || b) x y
cond_or true true x y = refl
cond_or true false x y = refl
cond_or false b x y = refl

-- the rows without those of some keys, all at once
pub without-at : (rows : Key → Option RowFacts) (gone : List Key) (k : Key)
    → rows_without rows gone k ≡ cond (is_gone gone k) None (rows k)
without-at rows [] k = refl
without-at rows (g ∷ gone) k =
    without-at (update same_key rows g None) gone k
    ∙ cond_or (same_key g k) (is_gone gone k) None (rows k)

-- one key more
pub without-more : (rows : Key → Option RowFacts) (gone : List Key) (g k : Key)
    → rows_without rows (gone ++ g ∷ []) k ≡ cond (same_key g k) None (rows_without rows gone k)
without-more rows [] g k = refl
without-more rows (x ∷ gone) g k = without-more (update same_key rows x None) gone g k

-- a step of the loop that removes them
pub removed_one : (m n o : BTreeMap Key RowFacts) (gone : List Key) (i : ℕ) (d : Key)
    → i < length gone
    → ((k : Key) → tree.get key_cmp n k ≡ rows_without (tree.get key_cmp m) (take i gone) k)
    → tree.Updates key_cmp n o (get_or gone i d) None
    → (k : Key) → tree.get key_cmp o k ≡ rows_without (tree.get key_cmp m) (take (i + 1) gone) k
removed_one m n o gone i d within before step k =
    key-updates n o (get_or gone i d) None step k
    ∙ ap (λ x. cond (same_key (get_or gone i d) k) None x) (before k)
    ∙ sym (without-more (tree.get key_cmp m) (take i gone) (get_or gone i d) k)
    ∙ ap (λ ks. rows_without (tree.get key_cmp m) ks k) (sym (take_more gone i d within))

-- a key that is none of them is not gone
not_gone : (gone : List Key) (key k : Key) → IsNone gone key → same_key key k ≡ true
    → is_gone gone k ≡ false
not_gone [] key k none e = refl
not_gone (g ∷ gone) key k none e =
    let differs : same_key g k ≡ false = Decides-false (same_key g k) (Decides-same_key g k)
    (λ is. none g (here g gone) (key_is key k e ∙ sym is)) in
    ap (λ b. b || is_gone gone k) differs
    ∙ not_gone gone key k (λ other there. none other (deeper g other gone there)) e

set_at : {X : Type 0} (here_is any : Bool) (x y : Option X) → (here_is ≡ true → any ≡ false)
    → cond any None (cond here_is x y) ≡ cond here_is x (cond any None y)
set_at true any x y none = ap (λ b. cond b None x) (none refl)
set_at false any x y none = refl

-- what was set and then had others removed, is what had others removed and then was set
pub set_then_removed : (m n o : BTreeMap Key RowFacts) (gone : List Key) (key : Key)
    (row : RowFacts) → IsNone gone key → tree.Updates key_cmp m n key (Some row)
    → ((k : Key) → tree.get key_cmp o k ≡ rows_without (tree.get key_cmp n) gone k)
    → (k : Key) → tree.get key_cmp o k
    ≡ update same_key (rows_without (tree.get key_cmp m) gone) key (Some row) k
set_then_removed m n o gone key row none put took k =
    took k ∙ without-at (tree.get key_cmp n) gone k
    ∙ ap (λ x. cond (is_gone gone k) None x) (key-updates m n key (Some row) put k)
    ∙ set_at (same_key key k) (is_gone gone k) (Some row) (tree.get key_cmp m k)
    (λ e. not_gone gone key k none e)
    ∙ ap (λ x. cond (same_key key k) (Some row) x) (sym (without-at (tree.get key_cmp m) gone k))

-- ---- the content

some_is : {A : Type 0} (x y : A) → Some x ≡ Some y → x ≡ y
some_is x y e = cc

left_own : (key : Key) (r : RowFacts) (o : Option RowFacts) (b : Bool)
    → cond b None o ≡ Some r → (o ≡ Some r → key_of r ≡ key) → key_of r ≡ key
left_own key r o true is old = absurd (cc)
left_own key r o false is old = old is

set_own : (row r : RowFacts) (key : Key) (o : Option RowFacts) (b : Bool)
    → same_key (key_of row) key ≡ b → cond b (Some row) o ≡ Some r → (o ≡ Some r → key_of r ≡ key)
    → key_of r ≡ key
set_own row r key o true e is old =
    ap key_of (sym (some_is row r is)) ∙ key_is (key_of row) key e
set_own row r key o false e is old = old is

pub own-forward : (c : Content) (gone : List Key) (row : RowFacts) → HasOwnKeys c
    → HasOwnKeys (with_forward c gone row)
own-forward c gone row own = record {
  rows = λ key r is. set_own row r key (rows_without c.rows gone key)
      (same_key (key_of row) key) refl is
      (λ left. left_own key r (c.rows key) (is_gone gone key)
      (sym (without-at c.rows gone key) ∙ left) (own.rows key r));
  topups = own.topups;
}

forward_at : {T E : Type 0} (r : Result T E) (P N : Type 0) (old new written : Content)
    → OnOk r P → OnErr r N → (P → new ≡ written) → (N → new ≡ old) → Put r old new written
forward_at (Ok x) P N old new written p n ok err = record { ok = ok p; err = tt }
forward_at (Err e) P N old new written p n ok err = record { ok = tt; err = err n }

pub put-forward : {T E : Type 0} (r : Result T E) (m n : BTreeMap Key RowFacts) (b : Balances)
    (t : Topups) (gone : List Key) (row copy : RowFacts) (key : Key) → key ≡ key_of row
    → copy ≡ row
    → OnOk r ((k : Key) → tree.get key_cmp n k
    ≡ update same_key (rows_without (tree.get key_cmp m) gone) key (Some copy) k)
    → OnErr r (IsUnchanged m n)
    → Put r (content_from m b t) (content_from n b t)
    (with_forward (content_from m b t) gone row)
put-forward r m n b t gone row copy key k c put same =
    forward_at r _ _ (content_from m b t) (content_from n b t)
    (with_forward (content_from m b t) gone row) put same
    (λ rows. (λ i. record {
      rows = λ q. rows q i;
      balances = (content_from m b t).balances;
      topups = (content_from m b t).topups;
      plans = (content_from m b t).plans;
    }) ∙ (λ i. record {
      rows = update same_key (rows_without (tree.get key_cmp m) gone) (k i) (Some (c i));
      balances = (content_from m b t).balances;
      topups = (content_from m b t).topups;
      plans = (content_from m b t).plans;
    }))
    (λ rows i. record {
      rows = λ q. lookup (tree.is_at (key_cmp q)) (rows i);
      balances = (content_from m b t).balances;
      topups = (content_from m b t).topups;
      plans = (content_from m b t).plans;
    })
