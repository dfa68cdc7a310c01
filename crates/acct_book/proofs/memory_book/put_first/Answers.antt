use Rattle.std.proofs.Common.{Some, None, ◌∙◌}
use Rattle.std.specs.Prelude.{bytes_eq}
use Rattle.std.specs.Int.{w64}
use Rattle.std.specs.Map.{update}
use Rattle.std.proofs.lemmas.Int.{to_z-of_z}
use Rattle.acct_book.specs.Maps.{balance_at}
use Rattle.acct_book.proofs.MapSteps.{balance-updates, taken-back}
use Rattle.acct_book.proofs.memory_book.put_first.Goals as goal

pub returns-in-Ok-insert-clause-balances : goal.returns-in-Ok-insert-clause-balances
returns-in-Ok-insert-clause-balances g c = λ a.
    balance-updates c.args.balances.now c.insert.new.self c.args.account.items _
    c.in-Ok.ensures.updates a
    ∙ (λ i. update bytes_eq (balance_at c.args.balances.now) (c.requires.name i)
    (Some (to_z-of_z w64 c.args.balance c.ranges.balance i)) a)

pub returns-clause-balances_err : goal.returns-clause-balances_err
returns-clause-balances_err g c =
    taken-back c.args.balances.now c.insert.new.self c.remove.new.self c.args.name.now
    c.args.balance c.requires.absent
    (λ a. balance-updates c.args.balances.now c.insert.new.self c.args.account.items _
    c.in-Ok.ensures.updates a
    ∙ (λ i. update bytes_eq (balance_at c.args.balances.now) (c.requires.name i)
    (Some (to_z-of_z w64 c.args.balance c.ranges.balance i)) a))
    (balance-updates c.insert.new.self c.remove.new.self c.args.name.now None
    c.remove.ensures.updates)
