-- Sets of stations, by their octets.
use Rattle.std.proofs.Common.{◌≡◌, ℕ, List, [], ◌∷◌, map, refl, ap, cond, true, false}
use Rattle.std.specs.Prelude.{Vec, Result, Ok, Err, OnOk, is_err}
use Rattle.std.specs.Global.{Global}
use Rattle.std.specs.Ordering.{match_ordering}
use Rattle.std.specs.declared.cmp.Ordering.{Ordering}
use Rattle.std.specs.declared.cmp.Ordering.TheVariants.{Less, Equal, Greater}
use Rattle.std.specs.BTreeSet.{insert_key}
use Rattle.acct_book.specs.Maps.{octets_cmp}
use Rattle.acct_book.specs.Row.{RowFacts}
use Rattle.acct_book.proofs.MapSteps.{vec_cmp}
use Rattle.acct_desk_pages.specs.declared.login.Heard.{Heard}
use Rattle.acct_desk_pages.specs.Logins.{is_other, with_station}

abbrev pub octets_of : Vec ℕ Global → List ℕ
octets_of k = k.items

by_order : (o : Ordering) (k x : Vec ℕ Global) (xs : List (Vec ℕ Global)) (more : List (List ℕ))
    (rest : List (Vec ℕ Global)) → map octets_of rest ≡ more
    → map octets_of (match_ordering o (k ∷ x ∷ xs) (x ∷ xs) (x ∷ rest))
    ≡ match_ordering o (k.items ∷ x.items ∷ map octets_of xs) (x.items ∷ map octets_of xs)
    (x.items ∷ more)
by_order Less k x xs more rest is = refl
by_order Equal k x xs more rest is = refl
by_order Greater k x xs more rest is = ap (λ ys. x.items ∷ ys) is

-- the octets of a set with one more key
pub map-insert_key : (ks : List (Vec ℕ Global)) (k : Vec ℕ Global)
    → map octets_of (insert_key vec_cmp ks k) ≡ insert_key octets_cmp (map octets_of ks) k.items
map-insert_key [] k = refl
map-insert_key (x ∷ xs) k =
    by_order (vec_cmp k x) k x xs (insert_key octets_cmp (map octets_of xs) k.items)
    (insert_key vec_cmp xs k) (map-insert_key xs k)

-- a row whose station counts, and one whose station does not
pub with_other : (heard : Heard) (stations : List (List ℕ)) (row : RowFacts)
    → is_other heard row ≡ true
    → with_station heard stations row ≡ insert_key octets_cmp stations row.calling
with_other heard stations row is =
    ap (λ b. cond b (insert_key octets_cmp stations row.calling) stations) is

pub without_other : (heard : Heard) (stations : List (List ℕ)) (row : RowFacts)
    → is_other heard row ≡ false → with_station heard stations row ≡ stations
without_other heard stations row is =
    ap (λ b. cond b (insert_key octets_cmp stations row.calling) stations) is

pub on_ok : {T E : Type 0} (r : Result T E) (P : Type 0) → is_err r ≡ false → OnOk r P → P
on_ok (Ok x) P is h = h
on_ok (Err e) P is h = absurd (cc)
