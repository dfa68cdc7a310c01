-- What a query over one table shows.
use Rattle.std.proofs.Common.{◌≡◌, ℕ, pos, negsuc, List, [], ◌∷◌, map, flat_map, true, false, cond}
use Rattle.std.proofs.Common.{Bool, None, refl, sym, ap, subst, ◌∙◌, true≢false, inl, inr}
use Rattle.std.specs.List.{list_all}
use Rattle.std.specs.List.Sorted.{IsPermutation}
use Rattle.std.proofs.lemmas.List.Sorted.{IsPermutation-sym}
use Rattle.sqlite_value.specs.declared.value.Value.{Value}
use Rattle.sqlite_value.specs.declared.value.Value.TheVariants.{Null, Int}
use Rattle.sqlite_value.specs.declared.keys.Key.{Key}
use Rattle.sqlite.specs.Order.{Row}
use Rattle.sqlite.specs.Tree.{Trees}
use Rattle.sqlite.specs.Term.{Term, Env, lit, eval_all, holds}
use Rattle.sqlite.specs.Query.{Query, Output, inner, end, output, matches_as, IsAnswerAs}
use Rattle.sqlite.specs.Command.TheVariants.{Select}
use Rattle.sqlite.specs.Program.{overlay}
use Rattle.sqlite.specs.Listing.{understood, reads_listing}
use Rattle.sqlite.specs.State.{State, Shown}
use Rattle.sqlite.proofs.Callers.{IsPlain, command_of, reads_as}
use Rattle.sqlite_rules.specs.Lists.{Has}
use Rattle.sqlite_rules.proofs.ListLemmas.{all_has, all_from, has_either, has_left, has_right}
use Rattle.sqlite_trees.proofs.ListLemmas.{all-permutation}
use Rattle.sqlite.specs.Schema.{Schema}
use Rattle.acct_sql_tables.specs.Tables.{book_schema}

pub has_mapped : {A B : Type 0} (f : A → B) (xs : List A) (y : B) → Has (map f xs) y → (x : A)
    × Has xs x × (y ≡ f x)
has_mapped f [] y h = absurd h
has_mapped f (x ∷ xs) y (inl same) = (x, inl refl, same)
has_mapped f (x ∷ xs) y (inr later) = let r = has_mapped f xs y later in (r.0, inr r.1, r.2)

pub map_has : {A B : Type 0} (f : A → B) (xs : List A) (x : A) → Has xs x → Has (map f xs) (f x)
map_has f [] x h = absurd h
map_has f (y ∷ xs) x (inl same) = inl (ap f same)
map_has f (y ∷ xs) x (inr later) = inr (map_has f xs x later)

pub has_flat : {A B : Type 0} (f : A → List B) (xs : List A) (y : B) → Has (flat_map f xs) y
    → (x : A) × Has xs x × Has (f x) y
has_flat f [] y h = absurd h
has_flat f (x ∷ xs) y h = elim (has_either (f x) (flat_map f xs) y h) [
  | inl here ↦ (x, inl refl, here)
  | inr later ↦ let r = has_flat f xs y later in
      (r.0, inr r.1, r.2)
]

pub flat_has : {A B : Type 0} (f : A → List B) (xs : List A) (x : A) (y : B) → Has xs x
    → Has (f x) y → Has (flat_map f xs) y
flat_has f [] x y h k = absurd h
flat_has f (z ∷ xs) x y (inl same) k = has_left (f z) (flat_map f xs) y
    (subst (λ w. Has (f w) y) same k)
flat_has f (z ∷ xs) x y (inr later) k = has_right (f z) (flat_map f xs) y
    (flat_has f xs x y later k)

pub has_permuted : {A : Type 0} (xs ys : List A) → IsPermutation xs ys → (x : A) → Has ys x
    → Has xs x
has_permuted xs ys same x h = all_has (Has xs) ys x (all-permutation (Has xs) xs ys same
    (all_from (Has xs) xs (λ y k. k))) h

abbrev pub over_table : ℕ → List Term → List Term → List (Term × Key) → Term → Query
over_table t filter project order limit = record {
  from = inner t end;
  filter = filter;
  group = None;
  project = project;
  distinct = false;
  collations = [];
  order = order;
  limit = limit;
  offset = lit (Int (pos 0));
}

abbrev pub all_rows : Term
all_rows = lit (Int (negsuc 0))

module _ (t : ℕ) (filter project : List Term) (order : List (Term × Key)) (lost : Value)
    (db : Trees) (params : Row) where
  -- the row is met
  abbrev pub meets : Row → Bool
  meets r = list_all (holds (params ∷ r ∷ [])) filter

  kept_if : (b : Bool) (env e : Env) → Has (cond b (env ∷ []) []) e → (b ≡ true) × (e ≡ env)
  kept_if true env e (inl same) = (refl, same)
  kept_if true env e (inr none) = absurd none
  kept_if false env e h = absurd h

  if_kept : (b : Bool) (env : Env) → b ≡ true → Has (cond b (env ∷ []) []) env
  if_kept true env h = inl refl
  if_kept false env h = absurd (true≢false (sym h))

  module _ (limit : Term) (rows : List Row) (a : IsAnswerAs lost
      (over_table t filter project order limit) db params rows) where
    abbrev q : Query
    q = over_table t filter project order limit

    pub ordered_has : (o : Output) → Has a.ordered o → (r : Row) × Has (db t) r × (meets r ≡ true)
        × (o ≡ output q (params ∷ r ∷ []))
    ordered_has o h =
        let kept = has_permuted a.kept a.ordered a.same o h in
        let staged = has_mapped (output q) a.staged o (subst (λ k. Has k o) a.distinct kept) in
        let matched = subst (λ k. Has k staged.0) a.grouped staged.1 in
        let found = has_flat _ (db t) staged.0 matched in
        let passed = kept_if (meets found.0) (params ∷ found.0 ∷ []) staged.0 found.2 in
        (found.0, found.1, passed.0, staged.2 ∙ ap (output q) passed.1)

    pub has_ordered : (r : Row) → Has (db t) r → meets r ≡ true
        → Has a.ordered (output q (params ∷ r ∷ []))
    has_ordered r h passes =
        let env : Env = params ∷ r ∷ [] in
        let matched : Has (matches_as lost db filter (inner t end) (params ∷ [])) env = flat_has _
        (db t) r env h (if_kept (meets r) env passes) in
        let staged = subst (λ k. Has k env) (sym a.grouped) matched in
        let kept = subst (λ k. Has k (output q env)) (sym a.distinct)
        (map_has (output q) a.staged env staged) in
        has_permuted a.ordered a.kept (IsPermutation-sym a.kept a.ordered a.same) (output q env)
        kept

  module _ (rows : List Row) (a : IsAnswerAs lost (over_table t filter project order all_rows) db
      params rows) where
    pub shown_has : (row : Row) → Has rows row → (r : Row) × Has (db t) r × (meets r ≡ true)
        × (row ≡ eval_all project (params ∷ r ∷ []))
    shown_has row h =
        let o = has_mapped (λ (o : Output). o.1) a.ordered row (subst (λ k. Has k row) a.shown h) in
        let r = ordered_has all_rows rows a o.0 o.1 in
        (r.0, r.1, r.2, o.2 ∙ ap (λ (o : Output). o.1) r.3)

    pub has_shown : (r : Row) → Has (db t) r → meets r ≡ true
        → Has rows (eval_all project (params ∷ r ∷ []))
    has_shown r h passes =
        let e : Env = params ∷ r ∷ [] in
        subst (λ k. Has k (eval_all project e)) (sym a.shown)
        (map_has (λ (o : Output). o.1) a.ordered (output
        (over_table t filter project order all_rows) e)
        (has_ordered all_rows rows a r h passes))

-- tables that were computed before the query do not hide one with a small number
pub seen_unhidden : (t : ℕ) (filter project : List Term) (order : List (Term × Key)) (limit : Term)
    (lost : Value) (seen db : Trees) (params : Row) (rows : List Row) → seen t ≡ db t
    → IsAnswerAs lost (over_table t filter project order limit) seen params rows
    → IsAnswerAs lost (over_table t filter project order limit) db params rows
seen_unhidden t filter project order limit lost seen db params rows same a =
    record {
      staged = a.staged;
      grouped = a.grouped ∙ ap (flat_map (λ r. cond (list_all (holds (params ∷ r ∷ [])) filter)
          ((params ∷ r ∷ []) ∷ []) [])) same;
      kept = a.kept;
      distinct = a.distinct;
      ordered = a.ordered;
      same = a.same;
      sorted = a.sorted;
      shown = a.shown;
    }

-- ---- a statement that is such a query

-- under this schema the text means this query, and nothing else
pub record IsQueryIn (schema : Schema) (text : List ℕ) (t : ℕ) (filter project : List Term)
    (order : List (Term × Key)) (limit : Term) : Type 0 where
  pub names : List (List ℕ)
  pub is : command_of (understood schema text)
      ≡ Select (record { lets = []; body = over_table t filter project order limit }) names
  pub unlisted : reads_listing schema text ≡ false
  pub plain : IsPlain (understood schema text)
  pub unhidden : (db : Trees) → overlay db [] t ≡ db t

-- the same under the schema of the book
abbrev pub IsQuery : List ℕ → ℕ → List Term → List Term → List (Term × Key) → Term → Type 0
IsQuery = IsQueryIn book_schema

-- what was shown is an answer of the query
pub answer_of : {schema : Schema} {text : List ℕ} {t : ℕ} {filter project : List Term}
    {order : List (Term × Key)} {limit : Term}
    → IsQueryIn schema text t filter project order limit → (params : Row) (old new : State)
    (rows : List Row) → old.now.schema ≡ schema → Shown text params old new rows
    → IsAnswerAs Null (over_table t filter project order limit) old.now.trees params rows
answer_of {schema} {text} {t} {filter} {project} {order} {limit} query params old new rows has h =
    seen_unhidden t filter project order limit Null (overlay old.now.trees []) old.now.trees params
    rows (query.unhidden old.now.trees) ((reads_as text params old new schema has _ query.is
    query.plain query.unlisted rows h).answer Null)
