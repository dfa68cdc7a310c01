use Rattle.std.proofs.Common.{Some, ap, ◌∙◌}
use Rattle.std.specs.Prelude.{bytes_eq}
use Rattle.std.specs.Int.{w64}
use Rattle.std.specs.Map.{update}
use Rattle.std.proofs.lemmas.Int.{to_z-of_z}
use Rattle.acct_book.specs.Maps.{balance_at}
use Rattle.acct_book.proofs.MapSteps.{balance-updates}
use Rattle.acct_book.proofs.memory_book.put_known.Goals as goal

pub returns-clause-balances : goal.returns-clause-balances
returns-clause-balances g c = λ a.
    balance-updates c.args.balances.now c.insert-2.new.self c.args.account.items _
    c.in-Ok-insert.ensures.updates a
    ∙ ap (λ z. update bytes_eq (balance_at c.args.balances.now) c.args.account.items (Some z) a)
    (to_z-of_z w64 c.args.balance c.ranges.balance)
