use Rattle.std.proofs.Common.{◌≡◌, take, map}
use Rattle.acct_book.specs.Content.{key_of}
use Rattle.acct_book_forward.proofs.batch.keys_of.Given as goal

abbrev pub invariant-loop-row : goal.invariant-loop-row
invariant-loop-row l = l.keys.items ≡ map key_of (take l.row-index l.rows)
