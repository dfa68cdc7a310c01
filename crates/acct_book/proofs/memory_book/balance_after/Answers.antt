use Rattle.std.proofs.Common.{ap, ◌∙◌}
use Rattle.std.specs.Prelude.{option_map}
use Rattle.std.specs.Option.{option_copied}
use Rattle.acct_book.proofs.Walks.{next-lent}
use Rattle.acct_book.proofs.memory_book.balance_after.Goals as goal

pub returns : goal.returns
returns c =
    next-lent (λ k. k.items) c.args.map.now (option_copied c.as_ref.result)
    (option_copied c.args.after) c.entry_after.result
    (ap (option_map (λ k. k.items)) c.as_ref.ensures.value ∙ c.in_ok-start.ensures)
    c.entry_after.ensures
