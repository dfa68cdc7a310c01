-- Changes of maps by octets and by keys.
use Rattle.std.proofs.Common.{◌≡◌, ℕ, Bool, true, false, ◌&&◌, cond, List, refl, sym, ap, ◌∙◌}
use Rattle.std.proofs.Common.{subst}
use Rattle.std.specs.Prelude.{ℤ, Option, Some, None, Vec, bytes_eq}
use Rattle.std.specs.Global.{Global}
use Rattle.std.specs.declared.cmp.Ordering.{Ordering}
use Rattle.std.specs.declared.cmp.Ordering.TheVariants.{Less, Equal, Greater}
use Rattle.std.specs.Ordering.{is_eq, ordering_then, eq_by_cmp}
use Rattle.std.specs.Cmp.{eq_by_cmp_equiv}
use Rattle.std.specs.Cmp.Lexicographic.{nat_list_cmp_total, nat_list_eq_equiv}
use Rattle.std.specs.BTreeMap as tree
use Rattle.std.specs.BTreeMap.{BTreeMap, is_at}
use Rattle.std.specs.Map.{update, lookup, IsKeyTest, AreApart, KeepsOthers}
use Rattle.std.proofs.lemmas.Map.Text.{is_eq-slice_cmp}
use Rattle.acct_book.specs.declared.key.Key.{Key}
use Rattle.acct_book.specs.Content.{same_key}
use Rattle.acct_book.specs.Maps.{octets_cmp, key_cmp, balance_at}
use Rattle.acct_book.proofs.Keys.{octets_are}

then_ties : (o p : Ordering) → is_eq (ordering_then o p) ≡ (is_eq o && is_eq p)
then_ties Less p = refl
then_ties Equal p = refl
then_ties Greater p = refl

-- the order ties exactly the same keys
pub ties-key : (a b : Key) → is_eq (key_cmp a b) ≡ same_key a b
ties-key a b =
    then_ties (octets_cmp a.client b.client) (octets_cmp a.session b.session)
    ∙ (λ i. is_eq-slice_cmp a.client b.client i && is_eq-slice_cmp a.session b.session i)

-- what a map has at each key after a change at one
pub key-updates : {X : Type 0} (m n : BTreeMap Key X) (k : Key) (w : Option X)
    → tree.Updates key_cmp m n k w → (q : Key) → tree.get key_cmp n q ≡ update same_key
    (tree.get key_cmp m) k w q
key-updates m n k w h q = h.0 q ∙ ap (λ b. cond b w (tree.get key_cmp m q)) (ties-key k q)

apart : (bs cs ks : List ℕ) → bytes_eq bs cs ≡ false → bytes_eq bs ks ≡ true
    → bytes_eq cs ks ≡ false
apart bs cs ks n y = nat_list_eq_equiv.symm cs ks ∙ sym (nat_list_eq_equiv.congr bs ks cs y) ∙ n

apart_in_order : (bs cs ks : List ℕ) → bytes_eq bs cs ≡ false → is_eq (octets_cmp bs ks) ≡ true
    → is_eq (octets_cmp cs ks) ≡ false
apart_in_order bs cs ks n y = is_eq-slice_cmp cs ks ∙ apart bs cs ks n
    (sym (is_eq-slice_cmp bs ks) ∙ y)

other_entries : {K X : Type 0} (eq : K → K → Bool) (test : K → Bool) (old new : List (K × X))
    → KeepsOthers eq test old new → (other : K → Bool) → IsKeyTest eq other → AreApart test other
    → lookup other new ≡ lookup other old
unfolding KeepsOthers
other_entries eq test old new h = h

at_octets : (f g : List ℕ → Option ℤ) (bs : List ℕ) (w : Option ℤ) → g bs ≡ w
    → (cs : List ℕ) (b : Bool) → bytes_eq bs cs ≡ b → (bytes_eq bs cs ≡ false → g cs ≡ f cs)
    → g cs ≡ cond b w (f cs)
at_octets f g bs w here cs true e other = subst (λ l. g l ≡ w) (octets_are bs cs e) here
at_octets f g bs w here cs false e other = other e

abbrev pub vec_cmp : Vec ℕ Global → Vec ℕ Global → Ordering
vec_cmp a b = octets_cmp a.items b.items

-- what a map of balances has for each account after a change at one
pub balance-updates : (m n : BTreeMap (Vec ℕ Global) ℤ) (bs : List ℕ) (w : Option ℤ)
    → tree.UpdatesBy vec_cmp (λ k. octets_cmp bs k.items) m n w → (cs : List ℕ)
    → balance_at n cs ≡ update bytes_eq (balance_at m) bs w cs
balance-updates m n bs w h cs =
    at_octets (balance_at m) (balance_at n) bs w h.1 cs (bytes_eq bs cs) refl
    (λ e. other_entries (eq_by_cmp vec_cmp) (is_at (λ k. octets_cmp bs k.items)) m.entries n.entries
    h.3 (is_at (λ k. octets_cmp cs k.items))
    (λ x y. (eq_by_cmp_equiv nat_list_cmp_total).congr cs x.items y.items)
    (λ k. apart_in_order bs cs k.items e))

-- what was put for an account that had nothing, and taken back
pub taken-back : (m n o : BTreeMap (Vec ℕ Global) ℤ) (bs : List ℕ) (z : ℤ) → balance_at m bs ≡ None
    → ((cs : List ℕ) → balance_at n cs ≡ update bytes_eq (balance_at m) bs (Some z) cs)
    → ((cs : List ℕ) → balance_at o cs ≡ update bytes_eq (balance_at n) bs None cs)
    → (cs : List ℕ) → balance_at o cs ≡ balance_at m cs
taken-back m n o bs z absent put took cs = took cs ∙ ap (λ x. cond (bytes_eq bs cs) None x) (put cs)
    ∙ back (bytes_eq bs cs) (balance_at m cs) (λ e. ap (balance_at m) (sym (octets_are bs cs e))
    ∙ absent)
  where
    back : (b : Bool) (x : Option ℤ) → (b ≡ true → x ≡ None) → cond b None (cond b (Some z) x) ≡ x
    back true x h = sym (h refl)
    back false x h = refl
