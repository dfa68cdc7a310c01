-- What a walk has counted, and which rows it met.
use Rattle.std.proofs.Common.{◌≡◌, ◌+◌, ◌++◌, ◌∷◌, [], ℕ, Bool, List, None, map, refl, ◌∙◌, ap}
use Rattle.std.proofs.Common.{sym, subst}
use Rattle.std.specs.Prelude.{cond}
use Rattle.std.specs.List.{count_by}
use Rattle.std.proofs.lemmas.List.Sums.{sum_by_push}
use Rattle.acct_book.specs.Content.{Content, key_of}
use Rattle.acct_book.specs.Maps.{key_cmp}
use Rattle.acct_book.specs.Meets.{Meets}
use Rattle.acct_book.specs.Row.{RowFacts}
use Rattle.acct_book.specs.Walk.{AreAllPast, IsNextRow}
use Rattle.acct_book.proofs.WalkLaws.{walks-meet-all}
use Rattle.acct_book.proofs.Walking.{walk_of}

-- one row more was looked at
pub one_more : {X : Type 0} (p : X → Bool) (xs : List X) (x : X) (count : ℕ)
    (one : ℕ) → count ≡ count_by p xs → one ≡ cond (p x) 1 0
    → count + one ≡ count_by p (xs ++ x ∷ [])
one_more p xs x count one is one_is =
    subst (λ n. count + n ≡ count_by p (xs ++ x ∷ [])) (sym one_is)
    (ap (λ n. n + cond (p x) 1 0) is ∙ sym (sum_by_push (λ y. cond (p y) 1 0) xs x))

-- a whole walk met each row
pub rows_met : (content : Content) (rows : List RowFacts)
    → Meets (IsNextRow content) key_of None rows
    → AreAllPast key_cmp content.rows None (map (λ row. (key_of row, row)) rows)
rows_met content rows meets =
    (walks-meet-all content).rows None (map (λ row. (key_of row, row)) rows)
    (walk_of key_cmp content.rows (IsNextRow content) key_of (λ after. after)
    (λ row. (key_of row, row)) (λ _ _ found. found) (λ _ end. end) (λ _. refl) None rows meets)
