-- The tests for equal octets and equal keys.
use Rattle.std.proofs.Common.{◌≡◌, ℕ, Bool, true, false, List, refl, sym, ap}
use Rattle.std.specs.Prelude.{bytes_eq}
use Rattle.std.specs.Bool.{Decides}
use Rattle.acct_model.specs.History.{SessionName}
use Rattle.acct_model.proofs.Same.{Decides-bytes_eq, Decides-same_session}
use Rattle.acct_book.specs.declared.key.Key.{Key}
use Rattle.acct_book.specs.Content.{same_key}
use Rattle.acct_book.specs.Rows.{name_of}

pub octets_refl : (a : List ℕ) → bytes_eq a a ≡ true
octets_refl a = (Decides-bytes_eq a a).1 refl

pub octets_are : (a b : List ℕ) → bytes_eq a b ≡ true → a ≡ b
octets_are a b = (Decides-bytes_eq a b).0

abbrev key_for : SessionName → Key
key_for name = record { client = name.client; session = name.session }

pub Decides-same_key : (a b : Key) → Decides (same_key a b) (a ≡ b)
Decides-same_key a b =
    let d = Decides-same_session (name_of a) (name_of b) in
    (λ e. ap key_for (d.0 e), λ is. d.1 (ap name_of is))

pub key_is : (a b : Key) → same_key a b ≡ true → a ≡ b
key_is a b = (Decides-same_key a b).0

pub key_refl : (k : Key) → same_key k k ≡ true
key_refl k = (Decides-same_key k k).1 refl

-- one Bool is another, where each follows from the other
pub alike : (a b : Bool) → (a ≡ true → b ≡ true) → (b ≡ true → a ≡ true) → a ≡ b
alike true b f g = sym (f refl)
alike false true f g = g refl
alike false false f g = refl

pub octets_sym : (a b : List ℕ) → bytes_eq a b ≡ bytes_eq b a
octets_sym a b = alike _ _ (λ e. (Decides-bytes_eq b a).1 (sym (octets_are a b e)))
    (λ e. (Decides-bytes_eq a b).1 (sym (octets_are b a e)))

pub key_sym : (a b : Key) → same_key a b ≡ same_key b a
key_sym a b = alike _ _ (λ e. (Decides-same_key b a).1 (sym (key_is a b e)))
    (λ e. (Decides-same_key a b).1 (sym (key_is b a e)))
