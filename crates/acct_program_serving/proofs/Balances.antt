-- The files of balances that rounds put in their place, by the content of the book, and so by its
-- history.
use Rattle.std.proofs.Common.{◌≡◌, ap, sym, ◌∙◌, refl, true, false, Bool}
use Rattle.std.specs.Prelude.{⊤, ℕ, ℤ, List, [], ◌∷◌, ◌++◌, Option, Some, None}
use Rattle.std.specs.Prelude.{if◌then◌else◌}
use Rattle.acct_model.specs.declared.plan.Plan.{Plan}
use Rattle.acct_model.specs.History.{History, is_known, balance_of}
use Rattle.acct_book.specs.declared.book.Book as book
use Rattle.acct_book.specs.Content.{Content}
use Rattle.acct_book.specs.Maps.{octets_cmp}
use Rattle.acct_book.specs.Stands.{Stands}
use Rattle.acct_book.specs.Walk.{AreAllPast}
use Rattle.acct_service.specs.Machine.{Visit}
use Rattle.acct_service.specs.Slices.{Slice, EachStandsAfter, SlicesStand}
use Rattle.acct_site.specs.declared.config.Config.{Config}
use Rattle.acct_program_commands.specs.Placed.{PutsBalances}
use Rattle.acct_program_commands.specs.Rounds.{GoesRound, RoundState}
use Rattle.acct_program_commands.proofs.Placed.{keeps_however}
use Rattle.acct_program_serving.specs.Balances.{AreBalancesOf, PutsBalancesOf, RoundsTell}
use Rattle.acct_program_serving.specs.Balances.{BalancesAreTold}
use Rattle.acct_program_serving.specs.Serving.{RoundsAfter}

-- an account is known exactly if it has a balance, which is that of the history
known_so : (is : Bool) (one balance : ℤ) → (if is then Some one else None) ≡ Some balance
    → (is ≡ true) × (one ≡ balance)
known_so true one balance same = (refl, cc)
known_so false one balance same = absurd (cc)

so_known : (is : Bool) (one balance : ℤ) → is ≡ true → one ≡ balance
    → (if is then Some one else None) ≡ Some balance
so_known true one balance is same = ap (λ it. Some it) same
so_known false one balance is same = absurd (cc)

balances_of : (plans : List Plan) (content : Content) (history : History)
    (entries : List (List ℕ × ℤ)) → Stands plans content history
    → AreAllPast octets_cmp content.balances None entries → AreBalancesOf plans history entries
balances_of plans content history entries stands all = record {
  in_order = all.in_order;
  each = λ account balance. (
    λ there. known_so (is_known history account) (balance_of plans history account) balance
        (sym (stands.balances account) ∙ ((all.each account balance).0 there).0),
    λ is. (all.each account balance).1 (
      stands.balances account
          ∙ so_known (is_known history account) (balance_of plans history account) balance is.0 is.1,
      tt,
    ),
  );
}

puts_of : (Put : List ℕ → Type 0) (plans : List Plan) (content : Content) (history : History)
    → Stands plans content history → PutsBalances Put content ⊤ → PutsBalancesOf Put plans history
puts_of Put plans content history stands (entries, all, put) =
    (entries, balances_of plans content history entries stands (all tt), put)

goes_so : (One Other : List ℕ → Type 0) (so : (name : List ℕ) → One name → Other name)
    (plans : List Plan) (old : RoundState) (gave : Option Config) (new : RoundState)
    → GoesRound One plans old gave new → GoesRound Other plans old gave new
goes_so One Other so plans old gave new goes = record {
  moment = goes.moment;
  reads = goes.reads;
  keeps = keeps_however One Other so goes.moment old.balances new.balances goes.keeps;
  looks = goes.looks;
  same = goes.same;
  takes = goes.takes;
}

rounds_told : (Put : List ℕ → List ℕ → Type 0) (is_open : Type 0) (opened : is_open)
    (plans : List Plan) (history : History) (seen : List Visit) (slices : List Slice)
    (known last : RoundState) → RoundsAfter Put is_open known slices last
    → EachStandsAfter plans history seen slices → RoundsTell Put plans history seen known slices last
rounds_told Put is_open opened plans history seen [] known last same each = same
rounds_told Put is_open opened plans history seen (slice ∷ later) known last
    (quiet, next, goes, shows, rest) ((after, run, stands), each) = (
      after,
      run,
      next,
      goes_so (λ name. PutsBalances (Put name) slice.content ⊤)
          (λ name. PutsBalancesOf (Put name) plans after)
          (λ name. puts_of (Put name) plans slice.content after stands)
          slice.site.plans known slice.given next (shows opened),
      rounds_told Put is_open opened plans history (seen ++ slice.visits) later next last rest each,
    )

pub balances_told : {B : Type 0} (b : book.Ghosts B) (stand : SlicesStand b)
    (Put : List ℕ → List ℕ → Type 0) → BalancesAreTold b Put
balances_told b stand Put plans slices old new told later known last go rounds opened history stood =
    rounds_told Put (b.is_open new) opened plans history [] slices known last rounds
    (stand plans slices old new told later go opened history stood)
