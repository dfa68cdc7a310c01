-- The tests for equal octets, sessions and vouchers.
use Rattle.std.proofs.Common.{◌≡◌, ℕ, Bool, true, false, ◌&&◌, List, refl, sym, ap, true≢false}
use Rattle.std.specs.Prelude.{bytes_eq, ◌==◌}
use Rattle.std.specs.Bool.{Decides}
use Rattle.std.specs.Cmp.Lexicographic.{bytes_decides}
use Rattle.std.proofs.lemmas.Bool.Decides.{Decides-eqb}
use Rattle.acct_model.specs.History.{SessionName, same_session, Voucher, same_voucher}

pub Decides-bytes_eq : (a b : List ℕ) → Decides (bytes_eq a b) (a ≡ b)
Decides-bytes_eq a b = bytes_decides a b

pub and_both : (p q : Bool) → (p && q) ≡ true → (p ≡ true) × (q ≡ true)
and_both true q e = (refl, e)
and_both false q e = absurd (true≢false (sym e))

pub both_and : (p q : Bool) → p ≡ true → q ≡ true → (p && q) ≡ true
both_and p q e f = rw (e, f) refl

-- a test fails if the fact does not hold
pub Decides-false : {P : Type 0} (b : Bool) → Decides b P → (P → ⊥) → b ≡ false
Decides-false true d not = absurd (not (d.0 refl))
Decides-false false d not = refl

pub Decides-same_session : (a b : SessionName) → Decides (same_session a b) (a ≡ b)
Decides-same_session a b = (
  λ e. let both = and_both (bytes_eq a.client b.client) (bytes_eq a.session b.session) e in
      λ i. record {
        client =
            (Decides-bytes_eq a.client b.client).0 both.0 i;
        session =
            (Decides-bytes_eq a.session b.session).0 both.1 i;
      },
  λ e. both_and (bytes_eq a.client b.client) (bytes_eq a.session b.session)
      ((Decides-bytes_eq a.client b.client).1 (ap (λ (k : SessionName). k.client) e))
      ((Decides-bytes_eq a.session b.session).1 (ap (λ (k : SessionName). k.session) e)),
)

pub Decides-same_voucher : (a b : Voucher) → Decides (same_voucher a b) (a ≡ b)
Decides-same_voucher (a, x) (b, y) = (
  λ e. let both = and_both (bytes_eq a b) (x == y) e in
      cc ((Decides-bytes_eq a b).0 both.0, (Decides-eqb x y).0 both.1),
  λ e. let left : a ≡ b =
      ap (λ (k : Voucher). k.0) e in let right : x ≡ y = ap (λ (k : Voucher). k.1) e in
      both_and (bytes_eq a b) (x == y) ((Decides-bytes_eq a b).1 left) ((Decides-eqb x y).1 right),
)
