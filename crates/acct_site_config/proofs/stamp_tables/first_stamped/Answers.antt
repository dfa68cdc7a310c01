use Rattle.std.proofs.Common.{sym, ◌∙◌}
use Rattle.acct_site_config.proofs.StampLemmas.{first_here, first_later}
use Rattle.acct_site_config.proofs.stamp_tables.first_stamped.Goals as goal

pub returns-then-is_stamped : goal.returns-then-is_stamped
returns-then-is_stamped c =
    first_here c.args.tables.now c.loop-index.index c.index-tables-index.result
    c.loop-index-test.true c.index-tables-index.is c.loop-index.invariant
    (sym c.is_stamped.ensures ∙ c.if-is_stamped.true)

pub loop-index-preserved : goal.loop-index-preserved
loop-index-preserved c =
    first_later c.args.tables.now c.loop-index.index c.index-tables-index.result
    c.loop-index-test.true c.index-tables-index.is c.loop-index.invariant
    (sym c.is_stamped.ensures ∙ c.if-is_stamped.false)
