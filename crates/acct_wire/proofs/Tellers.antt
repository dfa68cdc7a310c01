-- Why a device behind a proxy is none of another client's.
use Rattle.std.proofs.Common.{◌≡◌, ◌⊎◌, inl, inr, ℕ, Bool, true, false, cond, List, [], ◌∷◌, ◌++◌}
use Rattle.std.proofs.Common.{refl, sym, ◌∙◌, ap, subst, codes}
use Rattle.std.proofs.lemmas.List.Elements.{All-head, All-tail}
use Rattle.std.specs.Prelude.{Option, Some, None, All}
use Rattle.std.specs.List.{concat}
use Rattle.acct_model.specs.Entries.{Attributes}
use Rattle.acct_wire.specs.declared.hearing.StampedClient.{StampedClient}
use Rattle.acct_wire.specs.Hearing.{device, told_of}
use Rattle.acct_wire.specs.Laws.{TellersDiffer}

abbrev Lacks : List ℕ → Type 0
Lacks list = All (λ o. o ≡ 47 → ⊥) list

head_same : (o u : ℕ) (xs ys : List ℕ) → o ∷ xs ≡ u ∷ ys → o ≡ u
head_same o u xs ys e = cc

tail_same : (o u : ℕ) (xs ys : List ℕ) → o ∷ xs ≡ u ∷ ys → xs ≡ ys
tail_same o u xs ys e = cc

behind : (b xs : List ℕ) → Lacks (b ++ xs) → Lacks xs
behind [] xs lacks = lacks
behind (o ∷ b) xs lacks = behind b xs (All-tail (λ k. k ≡ 47 → ⊥) o (b ++ xs) lacks)

lacks_in : (x b y : List ℕ) → Lacks x → x ≡ b ++ 47 ∷ y → ⊥
lacks_in x b y lacks e =
    All-head (λ o. o ≡ 47 → ⊥) 47 y (behind b (47 ∷ y) (subst Lacks e lacks)) refl

first_mark : (a b x y : List ℕ) → Lacks a → Lacks b → a ++ 47 ∷ x ≡ b ++ 47 ∷ y → a ≡ b
first_mark [] [] x y a_lacks b_lacks e = refl
first_mark [] (o ∷ b) x y a_lacks b_lacks e =
    absurd (All-head (λ k. k ≡ 47 → ⊥) o b b_lacks (sym (head_same 47 o x (b ++ 47 ∷ y) e)))
first_mark (o ∷ a) [] x y a_lacks b_lacks e =
    absurd (All-head (λ k. k ≡ 47 → ⊥) o a a_lacks (head_same o 47 (a ++ 47 ∷ x) y e))
first_mark (o ∷ a) (u ∷ b) x y a_lacks b_lacks e =
    ap (λ k. k ∷ a) (head_same o u (a ++ 47 ∷ x) (b ++ 47 ∷ y) e)
    ∙ ap (λ k. u ∷ k) (first_mark a b x y (All-tail (λ k. k ≡ 47 → ⊥) o a a_lacks)
    (All-tail (λ k. k ≡ 47 → ⊥) u b b_lacks) (tail_same o u (a ++ 47 ∷ x) (b ++ 47 ∷ y) e))

-- the name, or the name with a `/` and more behind it
abbrev IsTold : List ℕ → List ℕ → Type 0
IsTold name told = (told ≡ name) ⊎ ((x : List ℕ) × (told ≡ name ++ 47 ∷ x))

told_if : (name : List ℕ) (ps : Attributes) (b : Bool)
    → IsTold name (cond b (concat (name ∷ codes "/" ∷ device ps ∷ [])) name)
told_if name ps true = inr (device ps ++ [], refl)
told_if name ps false = inl refl

told_by : (name : List ℕ) (ps : Attributes) (c : Option StampedClient)
    → IsTold name (told_of name ps c)
told_by name ps None = inl refl
told_by name ps (Some c) = told_if name ps c.proxy

same_names : (name other told : List ℕ) → Lacks name → Lacks other → IsTold name told
    → IsTold other told → name ≡ other
same_names name other told n_lacks o_lacks (inl e) (inl f) = sym e ∙ f
same_names name other told n_lacks o_lacks (inl e) (inr f) =
    absurd (lacks_in name other f.0 n_lacks (sym e ∙ f.1))
same_names name other told n_lacks o_lacks (inr e) (inl f) =
    absurd (lacks_in other name e.0 o_lacks (sym f ∙ e.1))
same_names name other told n_lacks o_lacks (inr e) (inr f) =
    first_mark name other e.0 f.0 n_lacks o_lacks (sym e.1 ∙ f.1)

pub tellers_differ : TellersDiffer
tellers_differ name other ps qs c d n_lacks o_lacks e =
    same_names name other (told_of name ps c) n_lacks o_lacks (told_by name ps c)
    (subst (IsTold other) (sym e) (told_by other qs d))
