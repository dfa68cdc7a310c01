use Rattle.std.proofs.Common.{rules, sym, subst}
use Rattle.std.proofs.lemmas.Map.Made.{map_same_pairs}
use Rattle.acct_book.specs.Content.{HasOwnKeys, closed_by}
use Rattle.acct_book.proofs.MemSteps.{own-closed, mem-writes, rows-closed}
use Rattle.acct_book.specs.Maps.{content_from}
use Rattle.acct_book.proofs.memory_book.MemBookBook.close_client.Goals as goal

pub invariant_of-self : goal.invariant_of-self
invariant_of-self c =
    let s = c.args.self.now in
    let client = c.args.client.now in
    let closed = rows-closed s.rows c.retain.new.self s.balances s.topups client
    (map_same_pairs _ (closed_by client) _ (λ k v b w f' t. search rules) s.rows.entries
    c.retain.new.self.entries c.retain.ensures.filtered) in
    record {
      own_keys = subst HasOwnKeys (sym closed) (own-closed
          (content_from s.rows s.balances s.topups) client s.own_keys);
    }

pub returns : goal.returns
returns c =
    let s = c.args.self.now in
    let client = c.args.client.now in
    let closed = rows-closed s.rows c.retain.new.self s.balances s.topups client
    (map_same_pairs _ (closed_by client) _ (λ k v b w f' t. search rules) s.rows.entries
    c.retain.new.self.entries c.retain.ensures.filtered) in
    mem-writes s _ _ _ (record { ok = closed; err = tt })
