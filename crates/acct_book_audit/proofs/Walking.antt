-- What was found on a walk, and what holds of each member that a whole walk met.
use Rattle.std.proofs.Common.{◌≡◌, ℕ, ◌+◌, List, [], ◌∷◌, ◌++◌, length, sym, ◌∙◌, ap, subst}
use Rattle.std.specs.Prelude.{flat_map, Option, Some, Contains}
use Rattle.std.proofs.Common.{inl, inr}
use Rattle.acct_model.proofs.Lists.{nowhere, front_or_behind}
use Rattle.std.proofs.lemmas.Grind.{flat_map-append}
use Rattle.std.proofs.lemmas.List.{append-nil}
use Rattle.std.proofs.Common.{length-append}
use Rattle.std.specs.Io.KnownBytes.{Appends}
use Rattle.std.proofs.KnownBytes.{Appends-trans}
use Rattle.acct_book.specs.Meets.{Meets}
use Rattle.acct_book_audit.specs.declared.auditor.Seen.{Seen}
use Rattle.acct_book_audit.specs.Finding.{Finding}
use Rattle.acct_book_audit.specs.Audit.{Counts}

-- ---- what was reported

-- what is found of one more member
pub found_more : {M : Type 0} (found : M → List Finding) (members : List M) (m : M)
    → flat_map found (members ++ m ∷ []) ≡ flat_map found members ++ found m
found_more found members m =
    flat_map-append found members (m ∷ [])
    ∙ ap (λ t. flat_map found members ++ t) (append-nil (found m))

-- first these findings were told, and then those
pub told_then : (words : Finding → List ℕ) (a b c : Option (List ℕ)) (these those : List Finding)
    → Appends a b (flat_map words these) → Appends b c (flat_map words those)
    → Appends a c (flat_map words (these ++ those))
told_then words a b c these those first then =
    subst (Appends a c) (sym (flat_map-append words these those))
    (Appends-trans a b c (flat_map words these) (flat_map words those) first then)

-- the findings of one more member were told
pub told_more : {M : Type 0} (words : Finding → List ℕ) (found : M → List Finding)
    (members : List M) (m : M) (a b c d : Option (List ℕ))
    → Appends a b (flat_map words (flat_map found members)) → Appends b c (flat_map words (found m))
    → d ≡ c → Appends a d (flat_map words (flat_map found (members ++ m ∷ [])))
told_more words found members m a b c d before here same =
    subst (λ it. Appends a it (flat_map words (flat_map found (members ++ m ∷ [])))) (sym same)
    (subst (λ it. Appends a c (flat_map words it)) (sym (found_more found members m))
    (told_then words a b c (flat_map found members) (found m) before here))

-- one more member was counted
pub counts_more : {M : Type 0} (found : M → List Finding) (members : List M) (m : M)
    (before after : Seen) (wrong : ℕ)
    → Counts before (length members) (length (flat_map found members))
    → wrong ≡ length (found m) → after.all ≡ before.all + 1 → after.wrong ≡ before.wrong + wrong
    → Counts after (length (members ++ m ∷ [])) (length (flat_map found (members ++ m ∷ [])))
counts_more found members m before after wrong counts more all sum = record {
  all = all ∙ ap (λ n. n + 1) counts.all ∙ sym (length-append members (m ∷ []));
  wrong = sum ∙ (λ i. counts.wrong i + more i)
      ∙ sym (ap length (found_more found members m)
      ∙ length-append (flat_map found members) (found m));
}

-- ---- the walk

-- each member of a whole walk was the next after some start
pub each_met : {K M : Type 0} (next : Option K → Option M → Type 0) (key_of : M → K)
    (Holds : M → Type 0) → ((after : Option K) (m : M) → next after (Some m) → Holds m)
    → (after : Option K) (members : List M) → Meets next key_of after members
    → (m : M) → Contains members m → Holds m
each_met next key_of Holds holds after [] meets m there = absurd (nowhere m there)
each_met next key_of Holds holds after (x ∷ rest) meets m there =
    elim (front_or_behind x m rest there) [
      | inl is ↦ subst Holds is (holds after x meets.0)
      | inr behind ↦ each_met next key_of Holds holds (Some (key_of x)) rest meets.1 m behind
    ]
