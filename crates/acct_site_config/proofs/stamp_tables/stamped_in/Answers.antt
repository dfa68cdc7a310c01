use Rattle.std.proofs.Common.{sym, ◌∙◌, ap, ◌++◌, ◌∷◌, [], Some}
use Rattle.acct_site_config.proofs.StampLemmas.{stamped_more, stamped_none}
use Rattle.acct_site_config.proofs.stamp_tables.stamped_in.Goals as goal
use Rattle.acct_site_config.proofs.stamp_tables.stamped_in.Goals.{in-Some+in_ok-push-in-Some, in-None}

pub loop-table-preserved : goal.loop-table-preserved
loop-table-preserved c =
    elim c.match-client.branch [
      | in-Some+in_ok-push-in-Some w ↦ rw w.clients-is
          (w.in_ok-push-in-Some.ensures.items
          ∙ ap (λ xs. xs ++ w.in-Some.client ∷ []) c.loop-table.invariant
          ∙ sym (stamped_more c.args.tables.now c.loop-table.table-index c.table-item.result
          (Some w.in-Some.client) c.loop-table-test.true c.table-item.is
          (sym w.in-Some.is ∙ c.in_ok-client.ensures)))
      | in-None w ↦ rw w.clients-is
          (c.loop-table.invariant
          ∙ sym (stamped_none c.args.tables.now c.loop-table.table-index c.table-item.result
          c.loop-table-test.true c.table-item.is (sym w.in-None.is ∙ c.in_ok-client.ensures)))
    ]
