use Rattle.std.proofs.Common.{None, subst}
use Rattle.std.specs.BTreeMap as tree
use Rattle.acct_book.specs.Maps.{key_cmp}
use Rattle.acct_book.proofs.Removing.{removed_one}
use Rattle.acct_book.proofs.memory_book.take_out.Goals as goal

pub loop-key-preserved : goal.loop-key-preserved
loop-key-preserved c =
    removed_one c.args.rows.now c.loop-key.rows c.remove.new.self c.args.gone.now
    c.loop-key.key-index c.key-item.result c.loop-key-test.true c.loop-key.invariant
    (subst (λ k. tree.Updates key_cmp c.loop-key.rows c.remove.new.self k None) c.key-item.is
    c.remove.ensures.updates)
