-- Attributes written one after the other.
use Rattle.std.proofs.Common.{◌≡◌, ℕ, ◌+◌, ◌<◌, ◌≤◌, true, false, cond, List, [], ◌∷◌, ◌++◌, length}
use Rattle.std.proofs.Common.{take, drop, refl, sym, ◌∙◌, ap, eq-eqb, append_assoc, arith}
use Rattle.std.proofs.Common.{length-append}
use Rattle.std.proofs.lemmas.List.{take_at, drop_at, append-nil, length-take-le, drop-drop}
use Rattle.std.proofs.lemmas.List.{take-append-drop}
use Rattle.std.specs.Prelude.{◌==◌}
use Rattle.std.specs.Borrow.{Bor}
use Rattle.std.proofs.Common.{get_or}
use Rattle.std.proofs.lemmas.List.{drop_more, drop_all}
use Rattle.radius_codec.specs.Attributes.{spelling, spellings, AreShort, Fits, pairs}
use Rattle.radius_codec.specs.Packet.{proxy_states}

-- what out is once octets are written from a place on
abbrev pub finished : List ℕ → ℕ → List ℕ → List ℕ
finished out at octets = take at out ++ octets ++ drop (at + length octets) out

pub finished-nil : (out : List ℕ) (at : ℕ) → finished out at [] ≡ out
finished-nil out at =
    let zero_more : at + 0 ≡ at = omega arith in
    ap (λ n. (take at out ++ []) ++ drop n out) zero_more
    ∙ ap (λ xs. xs ++ drop at out) (append-nil (take at out)) ∙ take-append-drop at out

-- one piece written, the others are still to be written after it
pub finished_step : (out next : List ℕ) (at end : ℕ) (piece octets : List ℕ) → at ≤ length out
    → end ≡ at + length piece → next ≡ take at out ++ piece ++ drop end out
    → finished out at (piece ++ octets) ≡ finished next end octets
finished_step out next at end piece octets within is written =
    let long : length (take at out ++ piece) ≡ end =
    omega (arith, length-append (take at out) piece, length-take-le at out within, is) in
    let front : take end next ≡ take at out ++ piece = ap (take end) written
    ∙ take_at (take at out ++ piece) (drop end out) end long in
    let back : drop end next ≡ drop end out = ap (drop end) written
    ∙ drop_at (take at out ++ piece) (drop end out) end long in
    let behind : drop (end + length octets) next ≡ drop (at + length (piece ++ octets)) out =
    sym (drop-drop (length octets) end next) ∙ ap (drop (length octets)) back
    ∙ drop-drop (length octets) end out
    ∙ ap (λ n. drop n out)
    (let e : end + length octets ≡ at + length (piece ++ octets) =
    omega (arith, length-append piece octets, is) in e) in
    sym (ap (λ xs. xs ++ octets ++ drop (end + length octets) next) front
    ∙ ap (λ xs. ((take at out ++ piece) ++ octets) ++ xs) behind
    ∙ ap (λ xs. xs ++ drop (at + length (piece ++ octets)) out)
    (append_assoc (take at out) piece octets))

-- the proxy states are among the attributes
pub length-proxy_states : (attributes : List (ℕ × List ℕ))
    → length (spellings (proxy_states attributes)) ≤ length (spellings attributes)
length-proxy_states [] = omega arith
length-proxy_states (a ∷ rest) =
    elim (a.0 == 33) as (λ b.
    length (spellings (cond b (a ∷ proxy_states rest) (proxy_states rest)))
    ≤ length (spelling a ++ spellings rest)) [
      | true ↦ omega (
        arith,
        length-proxy_states rest,
        length-append (spelling a)
            (spellings rest),
        length-append (spelling a) (spellings (proxy_states rest)),
      )
      | false ↦ omega (arith, length-proxy_states rest, length-append (spelling a) (spellings rest))
    ]

-- the proxy states of short attributes are short
AreShort-proxy_states : (attributes : List (ℕ × List ℕ)) → AreShort attributes
    → AreShort (proxy_states attributes)
AreShort-proxy_states [] short = tt
AreShort-proxy_states (a ∷ rest) short =
    elim (a.0 == 33) as (λ b. AreShort (cond b (a ∷ proxy_states rest) (proxy_states rest))) [
      | true ↦ (short.0, AreShort-proxy_states rest short.1)
      | false ↦ AreShort-proxy_states rest short.1
    ]

-- the proxy states of attributes that fit into a packet fit into one
pub Fits-proxy_states : (attributes : List (ℕ × List ℕ)) → Fits attributes
    → Fits (proxy_states attributes)
Fits-proxy_states attributes fits =
    record {
      short = AreShort-proxy_states attributes fits.short;
      few =
          omega (arith, length-proxy_states attributes, fits.few);
    }

-- Out has the proxy states of all attributes but those that are left, and ends at a place.
pub record StatesLeft (first out : List ℕ) (at : ℕ) (left all : List (ℕ × List ℕ)) : Type 0 where
  pub done : finished out at (spellings (proxy_states left))
      ≡ finished first 20 (spellings (proxy_states all))
  pub end : at + length (spellings (proxy_states left)) ≡ 20 + length (spellings (proxy_states all))
  pub few : length (spellings (proxy_states all)) ≤ 4076
  pub short : AreShort left
  pub size : length out ≡ 4096

pub StatesLeft_start : (first : List ℕ) (all left : List (ℕ × List ℕ)) → left ≡ all → Fits all
    → length first ≡ 4096 → StatesLeft first first 20 left all
StatesLeft_start first all left is fits size =
    record {
      done = ap (λ xs. finished first 20 (spellings (proxy_states xs))) is;
      end = ap (λ xs. 20 + length (spellings (proxy_states xs))) is;
      few = (Fits-proxy_states all fits).few;
      short = rw is fits.short;
      size = size;
    }

-- a proxy state is the next, and is written
pub StatesLeft_step : (first out next : List ℕ) (at end : ℕ) (a : ℕ × List ℕ)
    (left now all : List (ℕ × List ℕ))
    → StatesLeft first out at left all → left ≡ a ∷ now → a.0 ≡ 33 → length next ≡ 4096
    → end ≡ at + length a.1 + 2 → next ≡ take at out ++ spelling a ++ drop end out
    → StatesLeft first next end now all
StatesLeft_step first out next at end a left now all before is state size ends written =
    let test : (a.0 == 33) ≡ true = eq-eqb a.0 33 state in
    let left_states : spellings (proxy_states left) ≡ spelling a ++ spellings (proxy_states now) =
    ap (λ xs. spellings (proxy_states xs)) is
    ∙ ap (λ b. spellings (cond b (a ∷ proxy_states now) (proxy_states now))) test in
    let long = length-append (spelling a) (spellings (proxy_states now)) in
    let sum = ap length left_states in
    let last : end ≡ at + length (spelling a) = omega (arith, ends) in
    record {
      done = sym (finished_step out next at end (spelling a) (spellings (proxy_states now))
          (omega (arith, before.end, before.few, before.size)) last written)
          ∙ ap (λ xs. finished out at xs) (sym left_states) ∙ before.done;
      end = omega (arith, before.end, long, sum, last);
      few = before.few;
      short = (rw is at before.short).1;
      size = size;
    }

-- ---- attributes given as pairs of references

pub pairs-drop_more : (xs : List (ℕ × Bor (List ℕ))) (i : ℕ) (d : ℕ × Bor (List ℕ)) → i < length xs
    → pairs (drop i xs) ≡ ((get_or xs i d).0, (get_or xs i d).1.now) ∷ pairs (drop (i + 1) xs)
pairs-drop_more xs i d within = ap pairs (drop_more xs i d within)

pub pairs-drop_all : (xs : List (ℕ × Bor (List ℕ))) (i : ℕ) → length xs ≤ i → pairs (drop i xs) ≡ []
pairs-drop_all xs i all = ap pairs (drop_all i xs all)

-- what is measured so far, if these attributes are left
pub record Measured (size : ℕ) (left all : List (ℕ × List ℕ)) : Type 0 where
  pub sum : size + length (spellings left) ≡ length (spellings all)
  pub few : size ≤ 4076
  pub short : AreShort left → AreShort all
  pub left_short : AreShort all → AreShort left

pub Measured_start : (all : List (ℕ × List ℕ)) → Measured 0 all all
Measured_start all =
    record { sum = omega arith; few = omega arith; short = λ h. h; left_short = λ h. h }

pub Measured_step : (size next : ℕ) (a : ℕ × List ℕ) (left now all : List (ℕ × List ℕ))
    → Measured size left all → left ≡ a ∷ now → length a.1 ≤ 253 → next ≡ size + (length a.1 + 2)
    → next ≤ 4076 → Measured next now all
Measured_step size next a left now all before is short sum few =
    let long = ap (λ xs. length (spellings xs)) is in
    record {
      sum = omega (arith, before.sum, long, sum, length-append (spelling a) (spellings now));
      few = few;
      short = λ h. before.short (rw is (short, h));
      left_short = λ h. (rw is at (before.left_short h)).1;
    }

pub Measured_long : (size : ℕ) (a : ℕ × List ℕ) (left now all : List (ℕ × List ℕ))
    → Measured size left all → left ≡ a ∷ now → 253 < length a.1 → Fits all → ⊥
Measured_long size a left now all before is long fits =
    let head : length a.1 ≤ 253 = (rw is at (before.left_short fits.short)).0 in
    omega (arith, head, long)

pub Measured_full : (size next : ℕ) (a : ℕ × List ℕ) (left now all : List (ℕ × List ℕ))
    → Measured size left all → left ≡ a ∷ now → next ≡ size + (length a.1 + 2) → 4076 < next
    → Fits all → ⊥
Measured_full size next a left now all before is sum full fits =
    let long = ap (λ xs. length (spellings xs)) is in
    omega (arith, before.sum, long, sum, full, fits.few, length-append (spelling a) (spellings now))

pub Measured_end : (size : ℕ) (left all : List (ℕ × List ℕ)) → Measured size left all → left ≡ []
    → Fits all × (size ≡ length (spellings all))
Measured_end size left all before is =
    let none = ap (λ xs. length (spellings xs)) is in (
      record { short = before.short (rw is tt); few = omega (arith, before.sum, before.few, none) },
      omega (arith, before.sum, none),
    )

-- Out has the attributes but those that are left, and ends at a place.
pub record AttributesLeft (first out : List ℕ) (at : ℕ)
    (left all : List (ℕ × List ℕ)) : Type 0 where
  pub done : finished out at (spellings left) ≡ finished first 20 (spellings all)
  pub end : at + length (spellings left) ≡ 20 + length (spellings all)
  pub few : length (spellings all) ≤ 4076
  pub short : AreShort left
  pub size : length out ≡ 4096

pub AttributesLeft_start : (first : List ℕ) (all : List (ℕ × List ℕ)) → Fits all
    → length first ≡ 4096 → AttributesLeft first first 20 all all
AttributesLeft_start first all fits size =
    record { done = refl; end = refl; few = fits.few; short = fits.short; size = size }

pub AttributesLeft_room : (first out : List ℕ) (at : ℕ) (a : ℕ × List ℕ)
    (left now all : List (ℕ × List ℕ)) → AttributesLeft first out at left all → left ≡ a ∷ now
    → (length a.1 ≤ 253) × (at + length a.1 + 2 ≤ 4096)
AttributesLeft_room first out at a left now all before is =
    let long = ap (λ xs. length (spellings xs)) is in (
      (rw is at before.short).0,
      omega
          (arith, before.end, before.few, long, length-append (spelling a) (spellings now)),
    )

pub AttributesLeft_step : (first out next : List ℕ) (at end : ℕ) (a : ℕ × List ℕ)
    (left now all : List (ℕ × List ℕ))
    → AttributesLeft first out at left all → left ≡ a ∷ now → length next ≡ 4096
    → end ≡ at + length a.1 + 2 → next ≡ take at out ++ spelling a ++ drop end out
    → AttributesLeft first next end now all
AttributesLeft_step first out next at end a left now all before is size ends written =
    let joined : spellings left ≡ spelling a ++ spellings now = ap spellings is in
    let long = length-append (spelling a) (spellings now) in
    let sum = ap length joined in
    let last : end ≡ at + length (spelling a) = omega (arith, ends) in
    record {
      done = sym (finished_step out next at end (spelling a) (spellings now)
          (omega (arith, before.end, before.few, before.size)) last written)
          ∙ ap (λ xs. finished out at xs) (sym joined) ∙ before.done;
      end = omega (arith, before.end, long, sum, last);
      few = before.few;
      short = (rw is at before.short).1;
      size = size;
    }
