use Rattle.std.proofs.Common.{ap, ◌∙◌}
use Rattle.acct_book.specs.Row.{RowFacts}
use Rattle.acct_sql.proofs.RememberLemmas.{ended_after}
use Rattle.acct_sql.proofs.memory.Memory.forget_ended.Goals as goal

pub returns-then-eq-clause-sound : goal.returns-then-eq-clause-sound
returns-then-eq-clause-sound c = ended_after c.args.row.now _ _ _
    (c.as_str.ensures ∙ ap (λ (r : RowFacts). r.client) c.row.view_is)
    c.forget_client.ensures
