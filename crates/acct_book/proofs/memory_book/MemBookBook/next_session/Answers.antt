use Rattle.std.specs.Option.{option_copied}
use Rattle.std.specs.BTreeMap as tree
use Rattle.acct_book.specs.Content.{key_of}
use Rattle.acct_book.specs.Maps.{key_cmp}
use Rattle.acct_book.proofs.Walks.{next-own}
use Rattle.acct_book.proofs.memory_book.MemBookBook.next_session.Goals as goal

pub returns-in_ok-copy-in-Some-clause-found : goal.returns-in_ok-copy-in-Some-clause-found
returns-in_ok-copy-in-Some-clause-found c = λ _.
    let s = c.args.self.now in
    next-own key_cmp (tree.get key_cmp s.rows) (option_copied c.args.after) key_of
    c.in-Some.field-0-0.now c.in-Some.row.now c.in_ok-copy-in-Some.field-0
    c.in-Some.ensures s.own_keys.rows c.in_ok-copy-in-Some.ensures
