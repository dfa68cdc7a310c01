-- The text that is written on a walk, and what it says of the whole content.
use Rattle.std.proofs.Common.{◌≡◌, ℕ, List, [], ◌∷◌, ◌++◌, Option, Some, None, Result, Ok, Err}
use Rattle.std.proofs.Common.{map, refl, sym, ◌∙◌, ap, subst, append_assoc}
use Rattle.std.specs.Prelude.{flat_map, length, IfOk}
use Rattle.std.specs.Io.KnownBytes.{Appends, Keeps}
use Rattle.std.specs.declared.cmp.Ordering.{Ordering}
use Rattle.std.proofs.lemmas.Grind.{flat_map-append}
use Rattle.std.proofs.lemmas.List.{append-nil, length-map}
use Rattle.acct_book.specs.Walk.{AreAllPast, IsNext, IsWalk}
use Rattle.acct_book.specs.Meets.{Meets}
use Rattle.acct_book.proofs.Walking.{walk_of}
use Rattle.acct_files.specs.Exporting.{export_text, line}
use Rattle.acct_files.specs.Vouchers.{Fields}

-- ---- text

pub appends_then : (a b c : Option (List ℕ)) (x y : List ℕ) → Appends a b x → Appends b c y
    → Appends a c (x ++ y)
appends_then None b c x y g h = tt
appends_then (Some a) None c x y g h = absurd g
appends_then (Some a) (Some b) None x y g h = absurd h
appends_then (Some a) (Some b) (Some c) x y g h = h ∙ ap (λ t. t ++ y) g ∙ append_assoc a x y

pub appends_kept : (a b c : Option (List ℕ)) (x : List ℕ) → Appends a b x → Keeps b c
    → Appends a c x
appends_kept None b c x g h = tt
appends_kept (Some a) None c x g h = absurd g
appends_kept (Some a) (Some b) None x g h = absurd h
appends_kept (Some a) (Some b) (Some c) x g h = h ∙ g

pub appends_nothing : (a : Option (List ℕ)) → Appends a a []
appends_nothing None = tt
appends_nothing (Some a) = sym (append-nil a)

-- one entry more was written
pub grown : {E : Type 0} (text : E → List ℕ) (entries : List E) (e : E) (a b c : Option (List ℕ))
    → Appends a b (flat_map text entries) → Appends b c (text e)
    → Appends a c (flat_map text (entries ++ e ∷ []))
grown text entries e a b c before here =
    subst (λ t. Appends a c t) (ap (λ t. flat_map text entries ++ t) (sym (append-nil (text e)))
    ∙ sym (flat_map-append text entries (e ∷ [])))
    (appends_then a b c (flat_map text entries) (text e) before here)

pub if_ok : {T E : Type 0} (r : Result T E) (P Q : T → Type 0) → ((x : T) → P x → Q x) → IfOk r P
    → IfOk r Q
if_ok (Ok x) P Q f h = f x h
if_ok (Err e) P Q f h = tt

-- ---- an export, by the members of a content

pub texts_of : {E M : Type 0} (text : E → List ℕ) (entry : M → E) (members : List M)
    → flat_map (λ m. text (entry m)) members ≡ flat_map text (map entry members)
texts_of text entry [] = refl
texts_of text entry (m ∷ rest) = ap (λ t. text (entry m) ++ t) (texts_of text entry rest)

module _ {J K M X : Type 0} (cmp : K → K → Ordering) (at : K → Option X)
    (next : Option J → Option M → Type 0) (key_of : M → J) (shown : Option J → Option K)
    (key : M → K) (value : M → X)
    (finds : (after : Option J) (m : M) → next after (Some m)
    → IsNext cmp at (shown after) (Some (key m, value m)))
    (ends : (after : Option J) → next after None → IsNext cmp at (shown after) None)
    (goes_on : (m : M) → shown (Some (key_of m)) ≡ Some (key m)) where
  -- what was written of the members was written of the whole content, and there are as many
  pub exported : {W E : Type 0} (contents : W → Option (List ℕ)) (count : W → ℕ) (is_open : Type 0)
      (from : Option (List ℕ)) (header : Fields) (text : K × X → List ℕ)
      → ((entries : List (K × X)) → IsWalk cmp at None entries → AreAllPast cmp at None entries)
      → shown None ≡ None → (result : Result W E)
      → IfOk result (λ w. (members : List M)
      × Appends from (contents w) (export_text header (λ m. text (key m, value m)) members)
      × (length members ≡ count w)
      × (is_open → Meets next key_of None members))
      → IfOk result (λ w. (entries : List (K × X))
      × Appends from (contents w) (export_text header text entries)
      × (length entries ≡ count w)
      × (is_open → AreAllPast cmp at None entries))
  exported contents count is_open from header text all starts result wrote =
      let entry : M → K × X = λ m. (key m, value m) in
      if_ok result _ _ (λ w told. (
        map entry told.0,
        subst (λ t. Appends from (contents w) (line header ++ t)) (texts_of text entry told.0)
            told.1,
        length-map told.0 entry ∙ told.2,
        λ opens. all (map entry told.0) (subst (λ a. IsWalk cmp at a (map entry told.0)) starts
            (walk_of cmp at next key_of shown entry finds ends goes_on None told.0
            (told.3 opens))),
      )) wrote
