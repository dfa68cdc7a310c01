-- Every balance is that of what was accepted.
use Rattle.std.proofs.Common.{◌≡◌, ◌+◌, ◌∙◌, ℕ, List, [], ◌∷◌, Bool, true, false, sym, ap}
use Rattle.std.proofs.Common.{subst, refl, inl, inr, zero-add}
use Rattle.std.specs.Prelude.{pos, ◌-ℤ◌, if◌then◌else◌}
use Rattle.std.specs.List.{filter, sum_by}
use Rattle.std.proofs.lemmas.List.Sums.{sum_by-cons}
use Rattle.acct_model.specs.declared.plan.Plan.{Plan}
use Rattle.acct_model.specs.History.{Accepted, History, sessions, reports, first_of}
use Rattle.acct_model.specs.History.{is_owner, balance_of, credited}
use Rattle.acct_book.specs.declared.book.Book.{Ghosts}
use Rattle.acct_book.specs.Book.{Only}
use Rattle.acct_book.specs.Content.{Content}
use Rattle.acct_book.specs.Stands.{Stands}
use Rattle.acct_book.proofs.Steps.{kept-balance}
use Rattle.acct_service.specs.Machine.{Visit, Run}
use Rattle.acct_service.specs.Serving.{HasFailed, MayLeave}
use Rattle.acct_service.specs.Promise.{accepted, price_due, balance_due}
use Rattle.acct_service.specs.Promise.{AreBalancesDue, AreDueOrFailed}
use Rattle.acct_service.specs.Promise.{BalancesAreRight, OpenBooksBegin}
use Rattle.acct_service.proofs.OneHistory.{run_accepts, runs_alike}

-- a sum over those that pass is one in which the others weigh nothing
chosen_sum : {X : Type 0} (is_own : X → Bool) (weight : X → ℕ) (x : X) (rest : ℕ) (xs : List X)
    (own : Bool) → sum_by weight (filter is_own xs) ≡ rest
    → sum_by weight (if own then x ∷ filter is_own xs else filter is_own xs)
    ≡ (if own then weight x else 0) + rest
chosen_sum is_own weight x rest xs true is =
    sum_by-cons weight x (filter is_own xs) ∙ ap (λ n. weight x + n) is
chosen_sum is_own weight x rest xs false is = is ∙ sym (zero-add rest)

pub sum_of_chosen : {X : Type 0} (is_own : X → Bool) (weight : X → ℕ) (xs : List X)
    → sum_by weight (filter is_own xs) ≡ sum_by (λ x. if is_own x then weight x else 0) xs
sum_of_chosen is_own weight [] = refl
sum_of_chosen is_own weight (x ∷ xs) =
    chosen_sum is_own weight x (sum_by (λ y. if is_own y then weight y else 0) xs) xs (is_own x)
    (sum_of_chosen is_own weight xs)
    ∙ sym (sum_by-cons (λ y. if is_own y then weight y else 0) x xs)

-- the balance that is due is that of the history
pub due-balance : (plans : List Plan) (history : History) (account : List ℕ)
    → balance_of plans history account ≡ balance_due plans history account
due-balance plans history account =
    ap (λ n. pos (credited history account) -ℤ pos n)
    (sym (sum_of_chosen (λ name. is_owner account (first_of (reports history name)))
    (price_due plans history) (sessions history)))

-- a content that stands for a history has the balances that are due by it
pub stands_due : (plans : List Plan) (content : Content) (history : History)
    → Stands plans content history → AreBalancesDue plans history content
stands_due plans content history stands account =
    kept-balance plans content history stands account ∙ due-balance plans history account

-- so does one that stands for it with one entry more
left_due : (plans : List Plan) (history : History) (visits : List Visit) (content : Content)
    → MayLeave plans history (HasFailed visits) content
    → AreDueOrFailed plans history visits content
left_due plans history visits content may =
    elim may [
      | inl stands ↦ inl (stands_due plans content history stands)
      | inr (asked, tried, (fine, stands)) ↦
          inr (asked, tried, stands_due plans content (Accepted asked ∷ history) stands)
    ]

pub balances_right : {B : Type 0} (b : Ghosts B)
    (settled : (book : B) → b.is_open book → Only (b.content book) (b.left book))
    → BalancesAreRight b
balances_right b settled plans before visits old new told later attends (stood, left_so) sound =
    let it = attends.leads sound before stood in
    let same = run_accepts plans before visits it.after it.run in
    let so_far = accepted before visits in
    let run = subst (λ h. Run plans before visits h) same it.run in
    let due : (content : Content) → Stands plans content it.after
    → AreBalancesDue plans so_far content = λ content stands. stands_due plans content so_far
    (subst (λ h. Stands plans content h) same stands) in
    record {
      answers = run;
      only = λ others after alike other.
          runs_alike plans before visits others so_far after alike run other;
      goes_on = λ still. subst (λ h. Stands plans (b.content new) h) same (it.stands still);
      balances = λ still. due (b.content new) (it.stands still);
      stop = λ still left may. due left
          (subst (λ c. Stands plans c it.after) (sym (settled new still left may))
          (it.stands still));
      shut = λ left may. elim (it.leaves left may) [
        | inl leaves ↦ left_due plans so_far visits left
            (subst (λ h. MayLeave plans h (HasFailed visits) left) same leaves)
        | inr (none, was) ↦ inl (due left
            (subst (λ h. Stands plans left h) (sym none) (left_so left was)))
      ];
    }

pub open_begins : {B : Type 0} (b : Ghosts B)
    (settled : (book : B) → b.is_open book → Only (b.content book) (b.left book))
    → OpenBooksBegin b
open_begins b settled plans before book opened stood = (
  λ still. stood,
  λ left may. subst (λ c. Stands plans c before) (sym (settled book opened left may)) stood,
)
