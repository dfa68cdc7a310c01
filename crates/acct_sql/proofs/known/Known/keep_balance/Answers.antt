use Rattle.std.proofs.Common.{bytes_eq, w64}
use Rattle.std.proofs.lemmas.Int.{to_z-of_z}
use Rattle.std.proofs.lemmas.Slice.Eq.{bytes_eq-Decides}
use Rattle.acct_sql.proofs.CacheLemmas.{kept_or_none}
use Rattle.acct_sql.proofs.known.Known.keep_balance.Goals as goal

pub returns-clause-balances : goal.returns-clause-balances
returns-clause-balances c = kept_or_none bytes_eq bytes_eq-Decides (λ key. key.items)
    c.args.account.now c.args.balance c.args.self.now.balances c.take.result c.ok.result
    c.with_balance.result c.take.ensures.value c.ok.ensures.value
    (rw (to_z-of_z w64 c.args.balance c.ranges.balance) at c.with_balance.ensures.learns)
