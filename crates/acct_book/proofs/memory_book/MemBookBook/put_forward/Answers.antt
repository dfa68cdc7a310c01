use Rattle.acct_book.specs.Maps.{content_from}
use Rattle.acct_book.proofs.MemSteps.{own-put, mem-writes}
use Rattle.acct_book.proofs.Removing.{own-forward, put-forward}
use Rattle.acct_book.proofs.memory_book.MemBookBook.put_forward.Goals as goal

pub invariant_of-self : goal.invariant_of-self
invariant_of-self c =
    let s = c.args.self.now in
    let e = c.put_alone.ensures in
    let put = put-forward c.put_alone.result s.rows c.put_alone.new.rows s.balances s.topups
    c.args.gone.now c.args.row.now c.in_ok-copy.copy c.in_ok-key.key c.in_ok-key.ensures
    c.in_ok-copy.ensures e.put e.same in
    record {
      own_keys = own-put c.put_alone.result _ _ _ put s.own_keys
          (own-forward (content_from s.rows s.balances s.topups) c.args.gone.now c.args.row.now
          s.own_keys);
    }

pub returns : goal.returns
returns c =
    let s = c.args.self.now in
    let e = c.put_alone.ensures in
    let put = put-forward c.put_alone.result s.rows c.put_alone.new.rows s.balances s.topups
    c.args.gone.now c.args.row.now c.in_ok-copy.copy c.in_ok-key.key c.in_ok-key.ensures
    c.in_ok-copy.ensures e.put e.same in
    mem-writes s _ _ c.put_alone.result put
