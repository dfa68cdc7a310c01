use Rattle.std.proofs.Common.{bytes_eq, w64}
use Rattle.std.proofs.lemmas.Int.{to_z-of_z}
use Rattle.std.proofs.lemmas.Slice.Eq.{bytes_eq-Decides}
use Rattle.acct_sql.proofs.CacheLemmas.{learned_in}
use Rattle.acct_sql.proofs.known.with_balance.Goals as goal

pub returns-clause-learns : goal.returns-clause-learns
returns-clause-learns c = learned_in bytes_eq bytes_eq-Decides (λ key. key.items) c.args.balances
    c.in_ok-after.after c.put.new.self c.in_ok-name.name c.args.account.now c.args.balance
    c.put.result c.in_ok-after.ensures.entries
    (c.in_ok-name.ensures.items_if_clones_equal (λ x y same. same))
    (rw (to_z-of_z w64 c.args.balance c.ranges.balance) at c.put.ensures.entries)
    c.put.ensures.err c.put.ensures.succeeds
