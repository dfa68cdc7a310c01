-- A table of `toml`, and what is read of it.
use Rattle.std.proofs.Common.{◌≡◌, ◌<◌, ◌≤◌, ℕ, false, ◌&&◌, ◌||◌, List, [], ◌∷◌, length, map}
use Rattle.std.proofs.Common.{Some, None, String, Global, string_bytes, refl, ◌∙◌, ap, Bor}
use Rattle.std.proofs.Common.{arith, le-leb}
use Rattle.std.proofs.lemmas.Bool.Decides.{nat_tests}
use Rattle.std.specs.Prelude.{nat_le, bytes_eq}
use Rattle.std.specs.List.{list_all, list_any}
use Rattle.std.specs.Map.{keys_of}
use Rattle.toml.specs.Data.{Data, table, string, integer, float, boolean, datetime, array}
use Rattle.toml.specs.Data.{as_array, Items}
use Rattle.toml.specs.View.{view, members_view, items_view}
use Rattle.toml.specs.declared.value.Value.{Value}
use Rattle.acct_site_config.specs.Tables.{is_one_of, has_only, elements, elements_at, list_at_most}

-- whether a name is one of some words
any_now : (name : List ℕ) (words : List (Bor (List ℕ)))
    → list_any (λ word. bytes_eq name word.now) words
    ≡ is_one_of (map (λ word. word.now) words) name
any_now name [] = refl
any_now name (word ∷ words) = ap (λ b. bytes_eq name word.now || b) (any_now name words)

-- a test of each name of a table
pub names_all : (words : List (Bor (List ℕ))) (es : List (String Global × Value))
    → list_all (λ k. list_any (λ word. bytes_eq (string_bytes k) word.now) words) (keys_of es)
    ≡ has_only (map (λ word. word.now) words) (members_view es)
names_all words [] = refl
names_all words (e ∷ es) =
    ap (λ b. b && list_all (λ k. list_any (λ word. bytes_eq (string_bytes k) word.now) words)
    (keys_of es)) (any_now (string_bytes e.0) words)
    ∙ ap (λ b. is_one_of (map (λ word. word.now) words) (string_bytes e.0) && b)
    (names_all words es)

-- the elements of an array as data
pub elements-view : (values : List Value) → elements (items_view values) ≡ map view values
elements-view [] = refl
elements-view (v ∷ values) = ap (λ ds. view v ∷ ds) (elements-view values)

pub elements_of_array : (d : Data) (items : Items) → Some items ≡ as_array d
    → elements_at (Some d) ≡ Some (elements items)
elements_of_array (string s) items e = cc e
elements_of_array (integer z) items e = cc e
elements_of_array (float x) items e = cc e
elements_of_array (boolean b) items e = cc e
elements_of_array (datetime t) items e = cc e
elements_of_array (array es) items e = cc e
elements_of_array (table ns) items e = cc e

pub elements_of_other : (d : Data) → None ≡ as_array d → elements_at (Some d) ≡ None
elements_of_other (string s) e = refl
elements_of_other (integer z) e = refl
elements_of_other (float x) e = refl
elements_of_other (boolean b) e = refl
elements_of_other (datetime t) e = refl
elements_of_other (array es) e = cc e
elements_of_other (table ns) e = refl

-- ---- limits

pub at_most_within : (limit : ℕ) (list : List Data) → length list ≤ limit
    → list_at_most limit (Some list) ≡ Some list
at_most_within limit list within = rw (le-leb (length list) limit within)

pub at_most_past : (limit : ℕ) (list : List Data) → limit < length list
    → list_at_most limit (Some list) ≡ None
at_most_past limit list past =
    let more : nat_le (length list) limit ≡ false = grind (arith, nat_tests) in
    rw more
