-- A walk by a call that returns the next member: how far it got, and what a whole walk met.
use Rattle.std.proofs.Common.{◌≡◌, List, [], ◌∷◌, ◌++◌, Option, Some, None, map, refl, subst}
use Rattle.std.specs.declared.cmp.Ordering.{Ordering}
use Rattle.acct_book.specs.Walk.{IsNext, IsWalk}
use Rattle.acct_book.specs.Meets.{Meets}

module _ {K M : Type 0} (next : Option K → Option M → Type 0) (key_of : M → K) where
  -- from a start these are the next members, one after the other, and the walk is now here
  abbrev pub Walked : Option K → List M → Option K → Type 0
  Walked after [] now = now ≡ after
  Walked after (member ∷ rest) now =
      next after (Some member) × Walked (Some (key_of member)) rest now

  pub walked_more : (after : Option K) (members : List M) (now : Option K) (member : M)
      → Walked after members now → next now (Some member)
      → Walked after (members ++ member ∷ []) (Some (key_of member))
  walked_more after [] now member walked here =
      (subst (λ a. next a (Some member)) walked here, refl)
  walked_more after (m ∷ rest) now member walked here =
      (walked.0, walked_more (Some (key_of m)) rest now member walked.1 here)

  pub walked_all : (after : Option K) (members : List M) (now : Option K)
      → Walked after members now → next now None → Meets next key_of after members
  walked_all after [] now walked end = subst (λ a. next a None) walked end
  walked_all after (m ∷ rest) now walked end =
      (walked.0, walked_all (Some (key_of m)) rest now walked.1 end)

-- what is next of the content at the start
pub next_here : {B C : Type 0} (content : B → C) (is_open : B → Type 0)
    (IsNextHere : C → Type 0) (start now new : B)
    → (is_open now → content now ≡ content start) → (is_open new → is_open now)
    → (is_open new → IsNextHere (content now)) → is_open new → IsNextHere (content start)
next_here content is_open IsNextHere start now new same was found opens =
    subst IsNextHere (same (was opens)) (found opens)

module _ {J K M X : Type 0} (cmp : K → K → Ordering) (at : K → Option X)
    (next : Option J → Option M → Type 0) (key_of : M → J) (shown : Option J → Option K)
    (entry : M → K × X)
    (finds : (after : Option J) (m : M) → next after (Some m)
    → IsNext cmp at (shown after) (Some (entry m)))
    (ends : (after : Option J) → next after None → IsNext cmp at (shown after) None)
    (goes_on : (m : M) → shown (Some (key_of m)) ≡ Some ((entry m).0)) where
  -- the members of a whole walk are those of a map
  pub walk_of : (after : Option J) (members : List M) → Meets next key_of after members
      → IsWalk cmp at (shown after) (map entry members)
  walk_of after [] meets = ends after meets
  walk_of after (m ∷ rest) meets = (
    finds after m meets.0,
    subst (λ a. IsWalk cmp at a (map entry rest)) (goes_on m)
        (walk_of (Some (key_of m)) rest meets.1),
  )

-- a walk over entries
pub entries_walk : {K X : Type 0} (cmp : K → K → Ordering) (at : K → Option X) (after : Option K)
    (entries : List (K × X)) → Meets (IsNext cmp at) (λ entry. entry.0) after entries
    → IsWalk cmp at after entries
entries_walk cmp at after [] meets = meets
entries_walk cmp at after ((key, member) ∷ rest) meets =
    (meets.0, entries_walk cmp at (Some key) rest meets.1)
