-- How the words of a text are cut.
use Rattle.std.proofs.Common.{Option, None, Some, MatchOption, ◌≡◌, ◌≢◌, ℕ, suc, ◌<◌, ◌==◌}
use Rattle.std.proofs.Common.{if◌then◌else◌, Bool, true, false, List, [], ◌∷◌, ◌++◌, length, get_or}
use Rattle.std.proofs.Common.{append_assoc, append-nil, sym, ◌∙◌, ap, arith}
use Rattle.std.proofs.lemmas.Bool.Decides.{nat_tests}
use Rattle.std.specs.Borrow.{Bor}
use Rattle.acct_program_feed.specs.Words.{words, words_after}

-- no element of the list is c
abbrev pub Lacks : ℕ → List ℕ → Type 0
Lacks c xs = (k : ℕ) → k < length xs → get_or xs k 0 ≢ c

later : (c x : ℕ) (xs : List ℕ) → Lacks c (x ∷ xs) → Lacks c xs
later c x xs h = λ k lt e. h (suc k) (omega arith) e

first : (c x : ℕ) (xs : List ℕ) → Lacks c (x ∷ xs) → (x == c) ≡ false
first c x xs h =
    let other : x ≢ c = λ e. h 0 (omega arith) e in
    grind (arith, nat_tests)

-- the first word ends at the first space
cut_after : (word before rest : List ℕ) → Lacks 32 word
    → words_after before (word ++ 32 ∷ rest) ≡ (before ++ word) ∷ words rest
cut_after [] before rest h = ap (λ w. w ∷ words rest) (sym (append-nil before))
cut_after (x ∷ word) before rest h =
    let after = cut_after word (before ++ x ∷ []) rest (later 32 x word h) in
    rw (first 32 x word h) (after ∙ ap (λ w. w ∷ words rest) (append_assoc before (x ∷ []) word))

-- a text without a space is one word
whole_after : (word before : List ℕ) → Lacks 32 word
    → words_after before word ≡ (before ++ word) ∷ []
whole_after [] before h = ap (λ w. w ∷ []) (sym (append-nil before))
whole_after (x ∷ word) before h =
    let after = whole_after word (before ++ x ∷ []) (later 32 x word h) in
    rw (first 32 x word h) (after ∙ ap (λ w. w ∷ []) (append_assoc before (x ∷ []) word))

-- the words of a text by its parts
pub words_of_parts : (text : List ℕ) (r : Option (Bor (List ℕ) × Bor (List ℕ)))
    → MatchOption r ((i : ℕ) → i < length text → get_or text i 0 ≢ 32)
    (λ x. (text ≡ x.0.now ++ (32 ∷ x.1.now)) × ((i : ℕ) → i < length x.0.now
    → get_or x.0.now i 0 ≢ 32))
    → MatchOption r (words text ≡ text ∷ []) (λ x. words text ≡ x.0.now ∷ words x.1.now)
words_of_parts text None h = whole_after text [] h
words_of_parts text (Some x) h = ap words h.0 ∙ cut_after x.0.now [] x.1.now h.1

ends_or_goes_on : (b : Bool) (word : List ℕ) (others later : List (List ℕ)) → (later ≡ [] → ⊥)
    → (if b then word ∷ others else later) ≡ [] → ⊥
ends_or_goes_on true word others later none h = cc h
ends_or_goes_on false word others later none h = none h

-- there is a word at least
some_word : (before text : List ℕ) → words_after before text ≡ [] → ⊥
some_word before [] h = cc h
some_word before (x ∷ text) h =
    ends_or_goes_on (x == 32) before (words text) (words_after (before ++ x ∷ []) text)
    (some_word (before ++ x ∷ []) text) h

-- a word and the words of a text are two words at least
pub two_at_least : (all : List (List ℕ)) (word rest a : List ℕ) → all ≡ word ∷ words rest
    → all ≡ a ∷ [] → ⊥
two_at_least all word rest a e h =
    let none : words rest ≡ [] = cc (e, h) in
    some_word [] rest none
