use Rattle.std.proofs.Common.{ap, ◌∙◌}
use Rattle.std.specs.Int.{w64}
use Rattle.std.proofs.lemmas.Int.{to_z-of_z}
use Rattle.acct_book.proofs.MemSteps.{own-topup, own-put, mem-writes, put-topup}
use Rattle.acct_book.proofs.memory_book.MemBookBook.put_topup.Goals as goal

pub invariant_of-self : goal.invariant_of-self
invariant_of-self c =
    let s = c.args.self.now in
    let e = c.put_both.ensures in
    let put = put-topup c.put_both.result s.topups c.put_both.new.map s.balances
    c.put_both.new.balances s.rows c.args.topup.now c.in_ok-copy.copy c.in_ok-key.key
    c.as_slice-account.result.now _ c.args.balance
    (c.in_ok-key.ensures.ok ∙ c.as_str.ensures ∙ ap (λ r. r.voucher) c.topup.view_is)
    c.in_ok-copy.ensures (c.as_slice-account.ensures ∙ ap (λ r. r.account) c.topup.view_is)
    (to_z-of_z w64 c.args.balance c.ranges.balance) e.map e.balances e.map_err e.balances_err in
    record {
      own_keys = own-put c.put_both.result _ _ _ put s.own_keys
          (own-topup _ c.args.topup.now c.args.balance s.own_keys);
    }

pub returns : goal.returns
returns c =
    let s = c.args.self.now in
    let e = c.put_both.ensures in
    let put = put-topup c.put_both.result s.topups c.put_both.new.map s.balances
    c.put_both.new.balances s.rows c.args.topup.now c.in_ok-copy.copy c.in_ok-key.key
    c.as_slice-account.result.now _ c.args.balance
    (c.in_ok-key.ensures.ok ∙ c.as_str.ensures ∙ ap (λ r. r.voucher) c.topup.view_is)
    c.in_ok-copy.ensures (c.as_slice-account.ensures ∙ ap (λ r. r.account) c.topup.view_is)
    (to_z-of_z w64 c.args.balance c.ranges.balance) e.map e.balances e.map_err e.balances_err in
    mem-writes s _ _ c.put_both.result put
