use Rattle.std.proofs.Common.{sym, subst}
use Rattle.std.specs.Prelude.{bytes_eq}
use Rattle.std.specs.BTreeMap.{is_at}
use Rattle.acct_book.specs.Content.{key_of}
use Rattle.acct_book.specs.Maps.{key_cmp}
use Rattle.acct_book.specs.Walk.{AreKeysOf}
use Rattle.acct_book.specs.Memory.{content_of}
use Rattle.acct_book.proofs.Listed.{members}
use Rattle.acct_book.proofs.ListedKeys.{keys_listed}
use Rattle.acct_book.proofs.memory_book.MemBookBook.keys_of.Goals as goal

pub returns-clause-found : goal.returns-clause-found
returns-clause-found c = λ _.
    let s = c.args.self.now in
    let e = c.in_ok-keys_to.ensures in
    let account = c.args.account.now in
    subst (AreKeysOf (content_of s) account) (sym e.kept)
    (keys_listed (content_of s) account _ s.own_keys.rows
    (members key_cmp (λ k. k) key_of (λ k. is_at (key_cmp k))
    (λ row. bytes_eq account row.account) s.rows.entries e.found s.own_keys.rows e.ordered))
