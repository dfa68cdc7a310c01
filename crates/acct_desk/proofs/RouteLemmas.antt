-- A router whose routes have no parameters answers by equality of the whole path.
use Rattle.std.proofs.Common.{◌≡◌, ℕ, zero, suc, ◌-◌, Bool, true, false, cond, ◌==◌, ◌&&◌, nat_lt}
use Rattle.std.proofs.Common.{◌≤◌, arith, option_map, Option, Some, None, List, [], ◌∷◌, length}
use Rattle.std.proofs.Common.{refl, ap, ◌∙◌}
use Rattle.std.specs.Str.{bytes_eq}
use Rattle.std.specs.List.{list_all}
use Rattle.std.proofs.lemmas.Bool.Decides.{nat_tests}
use Rattle.matchit.specs.Rows.{RowsOf, param_token, catch_all_token}
use Rattle.matchit.specs.Router.{RouteOf}
use Rattle.acct_desk.specs.declared.routes.Endpoint.{Endpoint}
use Rattle.acct_desk.specs.Routes.{desk_rows, fixed_endpoint}
use Rattle.matchit.specs.Seek.{own, step, or_else, has_slash, param_step, seek, first}

-- the first row whose pattern is this path
abbrev pub exact : {K : Type 0} → List ℕ → RowsOf K → Option K
exact path [] = None
exact path ((t, key) ∷ rest) = cond (bytes_eq t path) (Some key) (exact path rest)

-- no pattern has a parameter
abbrev pub is_literal : {K : Type 0} → RowsOf K → Bool
is_literal [] = true
is_literal ((t, key) ∷ rest) = list_all (λ x. nat_lt x 256) t && is_literal rest

own_exact : {K : Type 0} → (rs : RowsOf K) → own rs ≡ exact [] rs
own_exact [] = refl
own_exact (([], key) ∷ rest) = refl
own_exact ((x ∷ t, key) ∷ rest) = own_exact rest

and_left : (a b : Bool) → (a && b) ≡ true → a ≡ true
and_left true b h = refl
and_left false b h = h

pub and_right : (a b : Bool) → (a && b) ≡ true → b ≡ true
and_right true b h = h
and_right false b h = absurd (cc)

not_wild : (x token : ℕ) → 256 ≤ token → nat_lt x 256 ≡ true → (x == token) ≡ false
not_wild x token big small = grind (arith, nat_tests)

cond_nothing : {A : Type 0} → (b : Bool) (xs ys : List A) → b ≡ false → ys ≡ [] → cond b xs ys ≡ []
cond_nothing true xs ys h e = absurd (cc)
cond_nothing false xs ys h e = e

step_wild : {K : Type 0} → (token : ℕ) (big : 256 ≤ token) (rs : RowsOf K) → is_literal rs ≡ true
    → step token rs ≡ []
step_wild token big [] lit = refl
step_wild token big (([], key) ∷ rest) lit = step_wild token big rest lit
step_wild token big ((x ∷ t, key) ∷ rest) lit =
    cond_nothing (x == token) _ _ (not_wild x token big (and_left _ _ (and_left _ _ lit)))
    (step_wild token big rest (and_right _ _ lit))

literal_cond : {K : Type 0} → (b : Bool) (t : List ℕ) (key : K) (rs : RowsOf K)
    → list_all (λ x. nat_lt x 256) t ≡ true
    → is_literal rs ≡ true → is_literal (cond b ((t, key) ∷ rs) rs) ≡ true
literal_cond true t key rs lit rest = rw (lit, rest) refl
literal_cond false t key rs lit rest = rest

step_literal : {K : Type 0} → (b : ℕ) (rs : RowsOf K) → is_literal rs ≡ true
    → is_literal (step b rs) ≡ true
step_literal b [] lit = refl
step_literal b (([], key) ∷ rest) lit = step_literal b rest lit
step_literal b ((x ∷ t, key) ∷ rest) lit =
    literal_cond (x == b) t key (step b rest) (and_right _ _ (and_left _ _ lit))
    (step_literal b rest (and_right _ _ lit))

exact_cond : {K : Type 0} → (b : Bool) (path t : List ℕ) (key : K) (rs : RowsOf K)
    → exact path (cond b ((t, key) ∷ rs) rs)
    ≡ cond (b && bytes_eq t path) (Some key) (exact path rs)
exact_cond true path t key rs = refl
exact_cond false path t key rs = refl

step_exact : {K : Type 0} → (b : ℕ) (path : List ℕ) (rs : RowsOf K)
    → exact path (step b rs) ≡ exact (b ∷ path) rs
step_exact b path [] = refl
step_exact b path (([], key) ∷ rest) = step_exact b path rest
step_exact b path ((x ∷ t, key) ∷ rest) =
    exact_cond (x == b) path t key (step b rest)
    ∙ ap (λ o. cond ((x == b) && bytes_eq t path) (Some key) o) (step_exact b path rest)

param_nothing : {K : Type 0} → (path : List ℕ) → (param_step {K = K} [] path).1 ≡ []
unfolding param_step
param_nothing path = go (has_slash path)
  where
    go : {K : Type 0} (slash : Bool) → (cond {A = ℕ × RowsOf K} slash (0, []) (length path, [])).1
        ≡ []
    go true = refl
    go false = refl

or_nothing : {K : Type 0} → (a b : Option K) → a ≡ None → b ≡ None
    → or_else a (or_else b None) ≡ None
or_nothing a b x y = rw (x, y) refl

seek_nothing : {K : Type 0} → (skip : ℕ) (path : List ℕ) → seek {K = K} skip [] path ≡ None
unfolding seek
seek_nothing skip [] = refl
seek_nothing (suc skip) (b ∷ path) = seek_nothing skip path
seek_nothing zero (b ∷ path) =
    or_nothing _ _ (seek_nothing 0 path) (rw param_nothing (seek_nothing _ path))

wild_none : {K : Type 0} → (b : ℕ) (path : List ℕ) (rs : RowsOf K) → rs ≡ []
    → seek ((param_step rs (b ∷ path)).0 - 1) (param_step rs (b ∷ path)).1 path ≡ None
wild_none b path rs e = rw (e, param_nothing) (seek_nothing _ path)

own_none : {K : Type 0} → (rs : RowsOf K) → rs ≡ [] → own rs ≡ None
own_none rs e = rw e refl

or_only : {K : Type 0} → (a b c : Option K) → b ≡ None → c ≡ None → or_else a (or_else b c) ≡ a
or_only None b c x y = rw (x, y) refl
or_only (Some key) b c x y = refl

pub seek_literal : {K : Type 0} → (path : List ℕ) (rs : RowsOf K) → is_literal rs ≡ true
    → seek 0 rs path ≡ exact path rs
unfolding seek
seek_literal [] rs lit = own_exact rs
seek_literal (b ∷ path) rs lit =
    or_only (seek 0 (step b rs) path) _ _
    (wild_none b path (step param_token rs) (step_wild param_token (omega arith) rs lit))
    (own_none (step catch_all_token rs) (step_wild catch_all_token (omega arith) rs lit))
    ∙ seek_literal path (step b rs) (step_literal b rs lit)
    ∙ step_exact b path rs

map_cond : {A B : Type 0} → (f : A → B) (b : Bool) (x : A) (rest : Option A)
    → option_map f (cond b (Some x) rest) ≡ cond b (Some (f x)) (option_map f rest)
map_cond f true x rest = refl
map_cond f false x rest = refl

pub endpoint_of_first : (path : List ℕ)
    → option_map (λ r. r.value) (first desk_rows path) ≡ fixed_endpoint path
endpoint_of_first path =
    ap (option_map (λ (r : RouteOf Endpoint). r.value)) (seek_literal path desk_rows refl)
    ∙ simp map_cond
