-- Attribute lists and the octets that spell them.
use Rattle.std.proofs.lemmas.Bool.{true≢false}
use Rattle.std.specs.Prelude.{◌==◌}
use Rattle.std.proofs.Common.{◌≡◌, ◌≢◌, ◌↔◌, Bool, false, ℕ, zero, suc, ◌+◌, ◌-◌, ◌<◌, ◌≤◌, List}
use Rattle.std.proofs.Common.{[], ◌∷◌, ◌++◌, length, get_or, take, drop, refl, sym, ◌∙◌, ap, subst}
use Rattle.std.proofs.Common.{arith, length-append}
use Rattle.std.proofs.lemmas.List.{take_at, drop_at, length-drop, length-take-le, drop-drop}
use Rattle.std.proofs.lemmas.List.{take_rest, take-append-drop}
use Rattle.radius_codec.specs.Packet.{Framed, front_of}
use Rattle.radius_codec.specs.Attributes.{spelling, spellings, IsShort, Spells, Fits}
use Rattle.radius_codec.specs.Attributes.{attributes_within, attributes_in, AreAttributes}

-- equal lists whose fronts have one length have equal fronts and equal rests
pub append_parts : {A : Type 0} (ps qs xs ys : List A) → length ps ≡ length qs → ps ++ xs ≡ qs ++ ys
    → (ps ≡ qs) × (xs ≡ ys)
append_parts [] [] xs ys same joined = (refl, joined)
append_parts [] (b ∷ qs) xs ys same joined = absurd (omega (arith, same))
append_parts (a ∷ ps) [] xs ys same joined = absurd (omega (arith, same))
append_parts (a ∷ ps) (b ∷ qs) xs ys same joined =
    let heads : a ≡ b = cc in
    let tails : ps ++ xs ≡ qs ++ ys = cc in
    let parts = append_parts ps qs xs ys (omega (arith, same)) tails in
    (cc (parts.0), parts.1)

-- octets begin with one attribute at most
pub spelling_parts : (a b : ℕ × List ℕ) (xs ys : List ℕ) → spelling a ++ xs ≡ spelling b ++ ys
    → (a ≡ b) × (xs ≡ ys)
spelling_parts (m, ps) (n, qs) xs ys joined =
    let heads : m ≡ n = cc in
    let lengths : length ps + 2 ≡ length qs + 2 = cc in
    let tails : ps ++ xs ≡ qs ++ ys = cc in
    let parts = append_parts ps qs xs ys (omega (arith, lengths)) tails in
    (cc (parts.0), parts.1)

-- some list of attributes is spelled
abbrev pub IsSpelled : List ℕ → Type 0
IsSpelled octets = (attributes : List (ℕ × List ℕ)) × Spells octets attributes

pub Spells-cons : (octets rest : List ℕ) (a : ℕ × List ℕ) (ps : List (ℕ × List ℕ)) → IsShort a
    → octets ≡ spelling a ++ rest → Spells rest ps → Spells octets (a ∷ ps)
Spells-cons octets rest a ps short joined tail =
    record {
      short = (short, tail.short);
      joined = joined
          ∙ ap (λ xs. spelling a ++ xs) tail.joined;
    }

pub Spells-nil : (octets : List ℕ) → octets ≡ [] → Spells octets []
Spells-nil octets empty = record { short = tt; joined = empty }

-- what is spelled after the first attribute
pub IsSpelled-rest : (octets rest : List ℕ) (a : ℕ × List ℕ) → octets ≡ spelling a ++ rest
    → IsSpelled octets → IsSpelled rest
IsSpelled-rest octets rest a joined ([], spells) =
    let e : spelling a ++ rest ≡ [] = sym joined ∙ spells.joined in cc
IsSpelled-rest octets rest a joined (b ∷ qs, spells) =
    let parts = spelling_parts a b rest (spellings qs) (sym joined ∙ spells.joined) in
    (qs, record { short = spells.short.1; joined = parts.1 })

pub IsSpelled_step : (all octets rest : List ℕ) (a : ℕ × List ℕ) → IsShort a
    → octets ≡ spelling a ++ rest → (IsSpelled all ↔ IsSpelled octets)
    → (IsSpelled all ↔ IsSpelled rest)
IsSpelled_step all octets rest a short joined same = (
  λ spelled. IsSpelled-rest octets rest a joined (same.0 spelled),
  λ spelled.
      same.1 (a ∷ spelled.0, Spells-cons octets rest a spelled.0 short joined spelled.1),
)

-- octets that begin with no attribute spell no list but the empty one
pub IsSpelled_none : (octets : List ℕ) → octets ≢ []
    → ((a : ℕ × List ℕ) (rest : List ℕ) → octets ≡ spelling a ++ rest → ⊥) → IsSpelled octets → ⊥
IsSpelled_none octets some none ([], spells) = some spells.joined
IsSpelled_none octets some none (a ∷ ps, spells) = none a (spellings ps) spells.joined

-- Octets spell one list of attributes at most.
pub Spells_one : (octets : List ℕ) (ps qs : List (ℕ × List ℕ)) → Spells octets ps → Spells octets qs
    → ps ≡ qs
Spells_one octets [] [] x y = refl
Spells_one octets [] (b ∷ qs) x y =
    let e : spelling b ++ spellings qs ≡ [] = sym y.joined ∙ x.joined in cc
Spells_one octets (a ∷ ps) [] x y =
    let e : spelling a ++ spellings ps ≡ [] = sym x.joined ∙ y.joined in cc
Spells_one octets (a ∷ ps) (b ∷ qs) x y =
    let parts = spelling_parts a b (spellings ps) (spellings qs) (sym x.joined ∙ y.joined) in
    let tails = Spells_one (spellings ps) ps qs (record { short = x.short.1; joined = refl })
    (record { short = y.short.1; joined = parts.1 }) in
    cc (parts.0, tails)

-- the view of octets that spell a list is the list
attributes_within_spelled : (n : ℕ) (octets : List ℕ) (ps : List (ℕ × List ℕ)) → length octets ≤ n
    → Spells octets ps → attributes_within n octets ≡ ps
unfolding attributes_within
attributes_within_spelled zero [] [] few spells = refl
attributes_within_spelled zero [] (a ∷ ps) few spells =
    let e : spelling a ++ spellings ps ≡ [] = sym spells.joined in cc
attributes_within_spelled zero (x ∷ octets) ps few spells = absurd (omega (arith, few))
attributes_within_spelled (suc n) [] [] few spells = refl
attributes_within_spelled (suc n) [] (a ∷ ps) few spells =
    let e : spelling a ++ spellings ps ≡ [] = sym spells.joined in cc
attributes_within_spelled (suc n) (k ∷ []) [] few spells = let e : k ∷ [] ≡ [] = spells.joined in cc
attributes_within_spelled (suc n) (k ∷ []) (a ∷ ps) few spells =
    let e : k ∷ [] ≡ spelling a ++ spellings ps = spells.joined in cc
attributes_within_spelled (suc n) (k ∷ s ∷ rest) [] few spells =
    let e : k ∷ s ∷ rest ≡ [] = spells.joined in cc
attributes_within_spelled (suc n) (k ∷ s ∷ rest) ((kind, value) ∷ ps) few spells =
    let e : k ∷ s ∷ rest ≡ kind ∷ (length value + 2) ∷ (value ++ spellings ps) = spells.joined in
    let kinds : k ≡ kind = cc in
    let size : s ≡ length value + 2 = cc in
    let rests : rest ≡ value ++ spellings ps = cc in
    let long : length value ≡ s - 2 = omega (arith, size) in
    let front : take (s - 2) rest ≡ value = ap (take (s - 2)) rests
    ∙ take_at value (spellings ps) (s - 2) long in
    let back : drop (s - 2) rest ≡ spellings ps = ap (drop (s - 2)) rests
    ∙ drop_at value (spellings ps) (s - 2) long in
    let room : length (drop (s - 2) rest) ≤ n = omega (arith, few, length-drop (s - 2) rest) in
    let tails = attributes_within_spelled n (drop (s - 2) rest) ps room
    (record { short = spells.short.1; joined = back }) in
    cc (front, tails)

pub attributes_in_spelled : (octets : List ℕ) (ps : List (ℕ × List ℕ)) → Spells octets ps
    → attributes_in octets ≡ ps
attributes_in_spelled octets ps spells =
    attributes_within_spelled (length octets) octets ps (omega arith) spells

pub AreAttributes_spelled : (octets : List ℕ) → IsSpelled octets → length octets ≤ 4076
    → AreAttributes octets
AreAttributes_spelled octets (ps, spells) few =
    record {
      spelled = subst (λ qs. Spells octets qs)
          (sym (attributes_in_spelled octets ps spells)) spells;
      few = few;
    }

head_two : (xs : List ℕ) → 2 ≤ length xs → xs ≡ get_or xs 0 0 ∷ get_or xs 1 0 ∷ drop 2 xs
head_two [] two = absurd (omega (arith, two))
head_two (x ∷ []) two = absurd (omega (arith, two))
head_two (x ∷ y ∷ xs) two = refl

-- the attribute that the first two octets give, and what follows it
pub front_attribute : (xs : List ℕ) (size : ℕ) → size ≡ get_or xs 1 0 → 2 ≤ size → size ≤ length xs
    → xs ≡ get_or xs 0 0 ∷ (length (take (size - 2) (drop 2 xs)) + 2)
    ∷ (take (size - 2) (drop 2 xs) ++ take (length xs - size) (drop size xs))
front_attribute xs size is least most =
    let two : 2 ≤ length xs = omega arith in
    let fits : size - 2 ≤ length (drop 2 xs) = omega (arith, length-drop 2 xs) in
    let long : length (take (size - 2) (drop 2 xs)) + 2 ≡ get_or xs 1 0 =
    omega (arith, length-take-le (size - 2) (drop 2 xs) fits) in
    let sum : 2 + (size - 2) ≡ size = omega arith in
    let behind : drop (size - 2) (drop 2 xs) ≡ take (length xs - size) (drop size xs) =
    drop-drop (size - 2) 2 xs ∙ ap (λ n. drop n xs) sum ∙ sym (take_rest xs size) in
    let parts : take (size - 2) (drop 2 xs) ++ take (length xs - size) (drop size xs) ≡ drop 2 xs =
    ap (λ ys. take (size - 2) (drop 2 xs) ++ ys) (sym behind)
    ∙ take-append-drop (size - 2) (drop 2 xs) in
    rw (long, parts) (head_two xs two)

-- what follows an attribute is shorter
pub length_behind : (octets rest : List ℕ) (a : ℕ × List ℕ) → octets ≡ spelling a ++ rest
    → length rest < length octets
length_behind octets rest a joined = omega (arith, ap length joined, length-append a.1 rest)

pub some_from_test : (xs : List ℕ) (b : Bool) → b ≡ (length xs == 0) → b ≡ false → xs ≢ []
some_from_test [] b is not = λ empty. absurd (true≢false (sym is ∙ not))
some_from_test (x ∷ xs) b is not = λ empty. cc

-- what follows an attribute is attributes
pub AreAttributes-rest : (octets rest : List ℕ) (a : ℕ × List ℕ) → octets ≡ spelling a ++ rest
    → AreAttributes octets → AreAttributes rest
AreAttributes-rest octets rest a joined are =
    let long = length_behind octets rest a joined in
    AreAttributes_spelled rest
    (IsSpelled-rest octets rest a joined (attributes_in octets, are.spelled))
    (omega (arith, are.few, long))

pub attributes_in-cons : (octets rest : List ℕ) (a : ℕ × List ℕ) → IsShort a
    → octets ≡ spelling a ++ rest → AreAttributes octets
    → attributes_in octets ≡ a ∷ attributes_in rest
attributes_in-cons octets rest a short joined are =
    let behind = AreAttributes-rest octets rest a joined are in
    attributes_in_spelled octets (a ∷ attributes_in rest)
    (Spells-cons octets rest a (attributes_in rest) short joined behind.spelled)

pub attributes_in-none : (octets : List ℕ) → AreAttributes octets
    → ((a : ℕ × List ℕ) (rest : List ℕ) → octets ≡ spelling a ++ rest → ⊥)
    → attributes_in octets ≡ []
attributes_in-none octets are none =
    elim (attributes_in octets) as (λ found. Spells octets found → found ≡ []) [
      | [] ↦ λ spells. refl
      | a ∷ rest ↦ λ spells. absurd (none a (spellings rest) spells.joined)
    ] are.spelled

-- the attributes of a front are spelled after its first twenty octets
pub Spells-framed : (bytes : List ℕ) (code identifier : ℕ) (authenticator : List ℕ)
    (ps : List (ℕ × List ℕ)) → Framed bytes code identifier authenticator ps
    → Spells (drop 20 (front_of bytes)) ps
Spells-framed bytes code identifier authenticator ps framed =
    record {
      short = framed.short;
      joined = ap (drop 20) framed.front
          ∙ drop_at authenticator (spellings ps) 16 framed.sixteen;
    }

-- what an `Attributes` keeps fits into a packet
pub Fits-attributes_in : (octets : List ℕ) → AreAttributes octets → Fits (attributes_in octets)
Fits-attributes_in octets are =
    record { short = are.spelled.short; few = omega (arith, ap length are.spelled.joined, are.few) }
