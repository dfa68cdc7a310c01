-- What a cache knows by names after `put`.
use Rattle.std.proofs.Common.{◌≡◌, ◌≢◌, ℕ, zero, suc, ◌-◌, List, [], ◌∷◌, take, Bool, true}
use Rattle.std.proofs.Common.{false, cond, true≢false, Option, Some, None, IfSome, IsSome}
use Rattle.std.proofs.Common.{Ok, Err, Result, OnOk, OnErr, IsOk, IfOk, refl, sym, ap, subst, ◌∙◌}
use Rattle.std.specs.Bool.{Decides}
use Rattle.std.specs.Cmp.{IsEquivalence, on_equiv}
use Rattle.std.specs.Map.{lookup, lookup_entry, remove_entry}
use Rattle.std.specs.Borrow.{Bor}
use Rattle.std.specs.Option.{option_map_or, option_copied}
use Rattle.std.specs.Result.{result_ok}
use Rattle.lru.specs.LruCache.{LruCache, lru_cache, put_entries}
use Rattle.lru.proofs.CallerLemmas.{Contains-lookup_entry, lookup-put_entries}
use Rattle.acct_book.proofs.Keys.{alike}
use Rattle.acct_sql.specs.inner.Known.{entries_of, found_among, Learns}

skip_first : {V : Type 0} (b : Bool) (v w : V) (rest : Option V) → b ≡ false
    → cond b (Some v) rest ≡ Some w → rest ≡ Some w
skip_first true v w rest not_it h = absurd (true≢false not_it)
skip_first false v w rest not_it h = h

-- what is found among the first entries is found among all
take_finds : {K V : Type 0} (test : K → Bool) (n : ℕ) (es : List (K × V)) (v : V)
    → lookup test (take n es) ≡ Some v → lookup test es ≡ Some v
take_finds test zero es v h = absurd cc
take_finds test (suc n) [] v h = absurd cc
take_finds test (suc n) (e ∷ es) v h = go (test e.0) (take_finds test n es v) h
  where
    go : (b : Bool) → (lookup test (take n es) ≡ Some v → lookup test es ≡ Some v)
        → cond b (Some e.1) (lookup test (take n es)) ≡ Some v
        → cond b (Some e.1) (lookup test es) ≡ Some v
    go true next h = h
    go false next h = next h

-- without an entry the same is found for another key
others_found : {K V : Type 0} (test other : K → Bool)
    → ((x : K) → test x ≡ true → other x ≡ false) → (es : List (K × V))
    → lookup other (remove_entry test es) ≡ lookup other es
others_found test other apart [] = refl
others_found test other apart (e ∷ es) = go (test e.0) refl (others_found test other apart es)
  where
    go : (b : Bool) → test e.0 ≡ b → lookup other (remove_entry test es) ≡ lookup other es
        → lookup other (cond b es (e ∷ remove_entry test es)) ≡ lookup other (e ∷ es)
    go true is next = ap (λ c. cond c (Some e.1) (lookup other es)) (sym (apart e.0 is))
    go false is next = ap (cond (other e.0) (Some e.1)) next

module _ {K V : Type 0} (eq : K → K → Bool) (cache : LruCache K V) (k : K) (v : V) where
  -- what is found for another key after `put` was found before
  pub others_put : (other : K → Bool) → ((x : K) → eq k x ≡ true → other x ≡ false)
      → other k ≡ false → (w : V) → lookup other (put_entries eq cache k v) ≡ Some w
      → lookup other cache.entries ≡ Some w
  others_put other apart not_k w = go (lookup_entry (eq k) cache.entries) refl
    where
      go : (o : Option (K × V)) → lookup_entry (eq k) cache.entries ≡ o
          → lookup other (option_map_or (λ e. (e.0, v) ∷ remove_entry (eq k) cache.entries) o
          ((k, v) ∷ take (cache.cap - 1) cache.entries)) ≡ Some w
          → lookup other cache.entries ≡ Some w
      go None is h = take_finds other (cache.cap - 1) cache.entries w
          (skip_first (other k) v w (lookup other (take (cache.cap - 1) cache.entries)) not_k h)
      go (Some e) is h = sym (others_found (eq k) other apart cache.entries)
          ∙ skip_first (other e.0) v w (lookup other (remove_entry (eq k) cache.entries))
          (apart e.0 (Contains-lookup_entry (eq k) cache.entries e is).1) h

if_some : {V : Type 0} (o : Option V) (P : V → Type 0) → ((v : V) → o ≡ Some v → P v)
    → IfSome o P
if_some None P h = tt
if_some (Some v) P h = h v refl

none_known : {V : Type 0} (o : Option V) (v : V) → (IsSome o → true ≡ false)
    → IfSome o (λ w. w ≡ v)
none_known None v h = tt
none_known (Some w) v h = absurd (true≢false (h refl))

-- A cache whose keys are distinguished by their names.
module _ {K N : Type 0} (same : N → N → Bool) (decides : (a b : N) → Decides (same a b) (a ≡ b))
    (name : K → N) where
  laws : IsEquivalence (λ a b. same (name a) (name b))
  laws = on_equiv name (record {
    refl = λ a. (decides a a).1 refl;
    symm = λ a b. alike (same a b) (same b a) (λ is. (decides b a).1 (sym ((decides a b).0 is)))
        (λ is. (decides a b).1 (sym ((decides b a).0 is)));
    congr = λ a b c is. ap (λ n. same n c) ((decides a b).0 is);
  })

  apart : (k : K) (n : N) → name k ≢ n → (x : K) → same (name k) (name x) ≡ true
      → same n (name x) ≡ false
  apart k n other x is = go (same n (name x)) refl
    where
      go : (b : Bool) → same n (name x) ≡ b → b ≡ false
      go false differs = refl
      go true equal = absurd (other ((decides (name k) (name x)).0 is
          ∙ sym ((decides n (name x)).0 equal)))

  -- after `put`, for any result
  pub learned : {V T E : Type 0} (old new : LruCache K V) (k : K) (v : V) (result : Result T E)
      → OnOk result (new
      ≡ lru_cache (put_entries (λ a b. same (name a) (name b)) old k v) old.cap)
      → OnErr result (new ≡ old)
      → (IsSome (lookup (λ x. same (name k) (name x)) old.entries) → IsOk result)
      → Learns (name k) v (found_among same name (Some old)) (found_among same name (Some new))
  learned {V} old new k v (Ok x) ok err fits = record {
    here = subst (λ o. IfSome o (λ w. w ≡ v))
        (sym (ap (λ (c : LruCache K V). lookup (λ x. same (name k) (name x)) c.entries) ok
        ∙ lookup-put_entries (λ a b. same (name a) (name b)) old k v laws)) refl;
    others = λ n other. if_some (found_among same name (Some new) n)
        (λ w. found_among same name (Some old) n ≡ Some w)
        (λ w is. others_put (λ a b. same (name a) (name b)) old k v (λ x. same n (name x))
        (apart k n other) (apart k n other k ((decides (name k) (name k)).1 refl)) w
        (ap (λ (c : LruCache K V). lookup (λ x. same n (name x)) c.entries) (sym ok) ∙ is));
  }
  learned {V} old new k v (Err e) ok err fits = record {
    here = subst (λ o. IfSome o (λ w. w ≡ v))
        (sym (ap (λ (c : LruCache K V). lookup (λ x. same (name k) (name x)) c.entries) err))
        (none_known (lookup (λ x. same (name k) (name x)) old.entries) v (λ is. sym (fits is)));
    others = λ n other. if_some (found_among same name (Some new) n)
        (λ w. found_among same name (Some old) n ≡ Some w)
        (λ w is. ap (λ (c : LruCache K V). lookup (λ x. same n (name x)) c.entries) (sym err)
        ∙ is);
  }

  -- into a cache that was there, or was made
  pub learned_in : {V T E : Type 0} (cache : Option (LruCache K V)) (old new : LruCache K V) (k : K)
      (n : N) (v : V) (result : Result T E) → old.entries ≡ entries_of cache → name k ≡ n
      → OnOk result (new
      ≡ lru_cache (put_entries (λ a b. same (name a) (name b)) old k v) old.cap)
      → OnErr result (new ≡ old)
      → (IsSome (lookup (λ x. same (name k) (name x)) old.entries) → IsOk result)
      → Learns n v (found_among same name cache) (found_among same name (Some new))
  learned_in cache old new k n v result there named ok err fits =
      subst (λ n. Learns n v (found_among same name cache) (found_among same name (Some new)))
      named (subst (λ es. Learns (name k) v (λ m. lookup (λ x. same m (name x)) es)
      (found_among same name (Some new))) there (learned old new k v result ok err fits))

  -- it is kept, or nothing is if an allocation failed
  pub kept_or_none : {V E : Type 0} (n : N) (v : V) (old taken kept : Option (LruCache K V))
      (result : Result (LruCache K V) E) → taken ≡ old → kept ≡ result_ok result
      → IfOk result (λ after. Learns n v (found_among same name taken)
      (found_among same name (Some after)))
      → Learns n v (found_among same name old) (found_among same name kept)
  kept_or_none n v old taken kept (Ok after) is_old is learns =
      subst (λ o. Learns n v (found_among same name o) (found_among same name kept)) is_old
      (subst (λ o. Learns n v (found_among same name taken) (found_among same name o)) (sym is)
      learns)
  kept_or_none n v old taken kept (Err e) is_old is learns =
      subst (λ o. Learns n v (found_among same name old) (found_among same name o)) (sym is)
      (record { here = tt; others = λ n other. tt })

-- what `peek` shows of a cache is known
pub peeked : {X : Type 0} (shown : Option (Bor X)) (known : Option X)
    → option_copied shown ≡ known → IfSome shown (λ x. known ≡ Some x.now)
peeked None known is = tt
peeked (Some x) known is = sym is
