use Rattle.std.proofs.Common.{◌≡◌, take}
use Rattle.std.specs.BTreeMap as tree
use Rattle.acct_book.specs.declared.key.Key.{Key}
use Rattle.acct_book.specs.Maps.{key_cmp}
use Rattle.acct_book.specs.Content.{rows_without}
use Rattle.acct_book.proofs.memory_book.take_out.Given as goal

abbrev pub invariant-loop-key : goal.invariant-loop-key
invariant-loop-key l = (k : Key) → tree.get key_cmp l.rows k
    ≡ rows_without (tree.get key_cmp l.fn.rows) (take l.key-index l.gone) k
