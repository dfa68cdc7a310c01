-- How octets are cut behind the end of their first line.
use Rattle.std.proofs.Common.{◌≡◌, ℕ, ◌<◌, ◌≤◌, ◌+◌, ◌-◌, List, [], ◌∷◌, ◌++◌, length, take, drop}
use Rattle.std.proofs.Common.{get_or, true, ◌==◌, None, Some, inl, inr, refl, sym, arith, ◌∙◌, ap}
use Rattle.std.proofs.Common.{add-one}
use Rattle.std.proofs.lemmas.List.{take-append-drop, get_or-take, length-take-le}
use Rattle.std.proofs.lemmas.Slice.{between_to_end}
use Rattle.std.proofs.Math.Seq.{drop-cons}
use Rattle.std.proofs.lemmas.Bool.Decides.{nat_tests}
use Rattle.memchr.specs.Find.{IsFirstByte, is_byte}
use Rattle.acct_program_feed.specs.Lines.{IsCut}

is_ten : (n : ℕ) → (n == 10) ≡ true → n ≡ 10
is_ten n h = grind (arith, nat_tests)

is_found : (n : ℕ) → n ≡ 10 → (n == 10) ≡ true
is_found n h = grind (arith, nat_tests)

pub cut_behind : (octets : List ℕ) (end : ℕ) → IsFirstByte (is_byte 10) octets (Some end)
    → IsCut octets (take end octets) (take (length octets - (end + 1)) (drop (end + 1) octets))
cut_behind octets end h =
    let inside : end < length octets = h.0.high in
    let most : end ≤ length octets = omega arith in
    let size : length (take end octets) ≡ end = length-take-le end octets most in
    let ten : get_or octets end 0 ≡ 10 = is_ten _ h.1 in
    let behind : take (length octets - (end + 1)) (drop (end + 1) octets) ≡ drop
    (end + 1) octets = between_to_end octets (end + 1) (length octets) (omega arith) in
    let cons : drop end octets ≡ 10 ∷ drop (end + 1) octets = rw add-one (rw ten at
    (drop-cons octets end 0 inside)) in
    record {
      unbroken = λ k lt eq. let low : k < end = omega arith in
          h.0.before k (omega arith) low (is_found _ (sym (get_or-take end octets k 0 low) ∙ eq));
      whole = inl (sym (take-append-drop end octets) ∙ ap (λ xs. take end octets ++ xs) (cons
          ∙ ap (λ xs. 10 ∷ xs) (sym behind)));
    }

pub no_cut : (octets : List ℕ) → IsFirstByte (is_byte 10) octets None → IsCut octets octets []
no_cut octets h = record {
  unbroken = λ k lt eq. h k (omega arith) lt (is_found _ eq);
  whole = inr (refl, refl);
}
