-- An empty content stands for the empty history.
use Rattle.std.proofs.Common.{◌≡◌, List, [], refl, sym, subst, arith}
use Rattle.std.proofs.lemmas.Int.{ints}
use Rattle.acct_model.specs.declared.plan.Plan.{Plan}
use Rattle.acct_book.specs.Content.{Content, empty_keeping}
use Rattle.acct_book.specs.Stands.{Stands}

pub empty_stands : (plans : List Plan) (content : Content) → content ≡ empty_keeping plans
    → Stands plans content []
empty_stands plans content is = subst (λ c. Stands plans c []) (sym is) (record {
  rows = λ key. refl;
  balances = λ account. refl;
  topups = λ number. refl;
  kept = λ class. refl;
  in_range = λ account. record { low = omega (arith, ints); high = omega (arith, ints) };
})
