-- The first top-up by a number, and what agrees with all top-ups.
use Rattle.std.proofs.Common.{◌≡◌, ◌≢◌, Bool, true, false, cond, ℕ, None, Some, List, [], ◌∷◌, ◌++◌}
use Rattle.std.proofs.Common.{refl, sym, ◌∙◌, ap, subst, true≢false}
use Rattle.std.proofs.lemmas.List.Elements.{All-cons, All-contains}
use Rattle.std.specs.Prelude.{bytes_eq, Contains}
use Rattle.std.specs.List.{filter}
use Rattle.std.specs.Option.{option_or}
use Rattle.acct_model.specs.declared.entry.Entry.TheVariants as entry
use Rattle.acct_model.specs.Vouchers.{TopUpFacts}
use Rattle.acct_model.specs.History.{Accepted, History, first_of, all_topups, topup_of, Agrees}
use Rattle.acct_model.specs.Laws.{TopUpIsFirst}
use Rattle.acct_model.proofs.Lists.{here, deeper, nowhere, all_listed, to_filter}
use Rattle.acct_model.proofs.Balances.{first_of-none}
use Rattle.acct_model.proofs.Same.{Decides-bytes_eq, Decides-false}

-- the place of the first that passes: none that follows it in the list passes
pub record IsFirst {X : Type 0} (p : X → Bool) (xs : List X) (first : X) : Type 0 where
  pub later : List X
  pub earlier : List X
  pub stands : xs ≡ later ++ first ∷ earlier
  pub passes : p first ≡ true
  pub none_before : (x : X) → Contains earlier x → p x ≡ false

module _ {X : Type 0} (p : X → Bool) where
  none_passes : (xs : List X) → first_of (filter p xs) ≡ None → (x : X) → Contains xs x
      → p x ≡ false
  none_passes xs e x there =
      elim (p x) as (λ b. p x ≡ b → b ≡ false) [
        | true ↦ λ is. absurd
            (nowhere x (subst (λ ys. Contains ys x) (first_of-none (filter p xs) e)
            (to_filter p xs x there is)))
        | false ↦ λ is. refl
      ] refl

  one_more : (x : X) (xs : List X) (first : X) → IsFirst p xs first → IsFirst p (x ∷ xs) first
  one_more x xs first is = record {
    later = x ∷ is.later;
    earlier = is.earlier;
    stands = ap (λ ys. x ∷ ys) is.stands;
    passes = is.passes;
    none_before = is.none_before;
  }

  pub first_passing : (xs : List X) (first : X) → first_of (filter p xs) ≡ Some first
      → IsFirst p xs first
  first_passing [] first e = cc
  first_passing (x ∷ xs) first e =
      elim (p x) as (λ b. p x ≡ b → first_of (cond b (x ∷ filter p xs) (filter p xs)) ≡ Some first
      → IsFirst p (x ∷ xs) first) [
        | true ↦ λ is. elim (first_of (filter p xs)) as (λ o. first_of (filter p xs) ≡ o
            → option_or o (Some x) ≡ Some first → IsFirst p (x ∷ xs) first) [
              | None ↦ λ none h. let same : x ≡ first = cc in
                  record {
                    later = [];
                    earlier = xs;
                    stands = ap (λ y. y ∷ xs) same;
                    passes =
                        ap p (sym same) ∙ is;
                    none_before = none_passes xs none;
                  }
              | Some y ↦ λ some h. one_more x xs first (first_passing xs first (some ∙ h))
            ] refl
        | false ↦ λ is h. one_more x xs first (first_passing xs first h)
      ] refl e

  pub none_passing : (xs : List X) → ((x : X) → Contains xs x → p x ≡ false)
      → first_of (filter p xs) ≡ None
  none_passing [] none = refl
  none_passing (x ∷ xs) none =
      ap (λ b. first_of (cond b (x ∷ filter p xs) (filter p xs))) (none x (here x xs))
      ∙ none_passing xs (λ y h. none y (deeper x y xs h))

by : List ℕ → TopUpFacts → Bool
by number topup = bytes_eq number topup.voucher

other : (number : List ℕ) (topup : TopUpFacts) → by number topup ≡ false → topup.voucher ≢ number
unfolding by
other number topup fails is =
    true≢false (sym ((Decides-bytes_eq number topup.voucher).1 (sym is)) ∙ fails)

pub topup_first : TopUpIsFirst
unfolding by
topup_first = record {
  first = λ history number topup is.
      let found = first_passing (by number) (all_topups history) topup is in (
        found.later,
        found.earlier,
        found.stands,
        sym ((Decides-bytes_eq number topup.voucher).0 found.passes),
        all_listed (λ t. t.voucher ≢ number) found.earlier
            (λ t h. other number t (found.none_before t h)),
      );
  none = λ history number. (
    λ is. all_listed (λ t. t.voucher ≢ number) (all_topups history)
        (λ t h. other number t (none_passes (by number) (all_topups history) is t h)),
    λ all. none_passing (by number) (all_topups history) (λ t h.
        Decides-false (by number t) (Decides-bytes_eq number t.voucher)
        (λ is. All-contains (λ t. t.voucher ≢ number) (all_topups history) t all h (sym is))),
  );
}

-- what a top-up by a number has to say for another by that number to agree with it
abbrev pub Fits : TopUpFacts → TopUpFacts → Type 0
Fits topup one = one.voucher ≡ topup.voucher → (one.account ≡ topup.account) × (one.sum ≡ topup.sum)

-- one more top-up, with which this one agrees
pub Agrees-topup : (topup one : TopUpFacts) (older : History) → Fits topup one
    → Agrees older topup → Agrees (Accepted (entry.TopUp one) ∷ older) topup
Agrees-topup topup one older says rest = All-cons (Fits topup) one (all_topups older) says rest

-- a top-up by a number that no other has agrees with all
pub Agrees-fresh : (history : History) (topup : TopUpFacts)
    → topup_of history topup.voucher ≡ None → Agrees history topup
Agrees-fresh history topup fresh =
    all_listed (Fits topup) (all_topups history) (λ one h is.
    absurd (All-contains (λ t. t.voucher ≢ topup.voucher) (all_topups history) one
    ((topup_first.none history topup.voucher).0 fresh) h is))
