use Rattle.std.proofs.Common.{sym, subst}
use Rattle.std.specs.Prelude.{bytes_eq, string_bytes}
use Rattle.std.specs.BTreeMap.{is_at}
use Rattle.acct_book.specs.Maps.{octets_cmp}
use Rattle.acct_book.specs.Walk.{AreTopUpsOf}
use Rattle.acct_book.specs.Memory.{content_of}
use Rattle.acct_book.proofs.Listed.{members}
use Rattle.acct_book.proofs.memory_book.MemBookBook.topups_of.Goals as goal

pub returns-clause-found : goal.returns-clause-found
returns-clause-found c = λ _.
    let s = c.args.self.now in
    let e = c.in_ok-topups_to.ensures in
    let account = c.args.account.now in
    subst (AreTopUpsOf (content_of s) account) (sym e.kept)
    (members octets_cmp (λ k. string_bytes k) (λ topup. topup.voucher)
    (λ n. is_at (λ k. octets_cmp n (string_bytes k))) (λ topup. bytes_eq account topup.account)
    s.topups.entries e.found s.own_keys.topups e.ordered)
