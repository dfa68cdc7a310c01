use Rattle.std.proofs.Common.{◌<◌, ◌^◌, length, arith, subst, sym, ◌∙◌}
use Rattle.std.proofs.lemmas.List.{take_all}
use Rattle.acct_book.specs.Content.{Content, HasOwnKeys}
use Rattle.acct_book.specs.Walk.{AreKeysOf}
use Rattle.acct_book.proofs.Looking.{looks_once, looks_then}
use Rattle.acct_book_forward.specs.inner.Forwarding.{IsCounted}
use Rattle.acct_book_forward.proofs.Carrying.{as_looks}
use Rattle.acct_book_forward.proofs.Counted.{AreCounted, none_counted, one_counted, all_counted}
use Rattle.acct_book_forward.proofs.forwarding.tally_of.Goals as goal

pub loop-key-init : goal.loop-key-init
loop-key-init g c = record {
  looks = looks_once g.B.Book c.args.book.now c.keys_of.new.self c.keys_of.result
      c.keys_of.ensures.reads;
  carried = c.new-tally.ensures.carried;
  answers = c.in_ok-keys.ensures.reads.answers;
  are = λ still. subst (AreKeysOf (g.B.Book.content c.args.book.now) c.args.account.now)
      (sym c.deref-key-items.ensures.value) (c.in_ok-keys.ensures.found still);
  counted = λ still. none_counted (g.B.Book.content c.args.book.now) c.args.selection.now
      c.new-tally.result (c.new-tally.ensures.none c.args.selection.now);
}

pub loop-key-preserved : goal.loop-key-preserved
loop-key-preserved g c =
    let b = g.B.Book in
    let before = c.loop-key.invariant in
    let reads = c.count_under.ensures.reads in
    let keys = c.deref-key-items.result.now in
    let few : length keys < 2 ^ 64 =
    subst (λ ks. length ks < 2 ^ 64) (sym c.deref-key-items.ensures.value)
    (omega (arith, c.in_ok-keys.keys.ok.0)) in
    record {
      looks = looks_then b c.args.book.now c.loop-key.book c.count_under.new.book
          c.count_under.result before.looks reads;
      carried = c.count_under.ensures.carried ∙ before.carried;
      answers = c.in_ok-count_under.ensures.reads.answers;
      are = λ still. before.are (reads.was_open still);
      counted = λ still.
          let then = reads.was_open still in
          let same = before.looks.same then in
          one_counted (b.content c.args.book.now) c.args.account.now c.args.selection.now keys
          c.loop-key.key-index c.key-item.result c.loop-key.tally c.count_under.new.tally
          (subst HasOwnKeys same (g.met.B.Book.own_keys c.loop-key.book then)).rows
          (before.are then) c.loop-key-test.true few c.key-item.is (before.counted then)
          (subst (λ (x : Content). IsCounted x c.args.selection.now c.key-item.result
          c.loop-key.tally c.count_under.new.tally) same
          (c.in_ok-count_under.ensures.counts still));
    }

pub returns-clause-reads : goal.returns-clause-reads
returns-clause-reads g c =
    as_looks g.B.Book c.args.book.now c.loop-key.book _ c.loop-key.invariant.looks
    c.loop-key.invariant.answers

pub returns-clause-tally : goal.returns-clause-tally
returns-clause-tally g c = λ still.
    let b = g.B.Book in
    let done = c.loop-key.invariant in
    let keys = c.deref-key-items.result.now in
    all_counted (b.content c.args.book.now) c.args.account.now c.args.selection.now keys
    c.loop-key.tally
    (subst HasOwnKeys (done.looks.same still) (g.met.B.Book.own_keys c.loop-key.book still)).rows
    (done.are still)
    (subst (λ ks. AreCounted (b.content c.args.book.now) c.args.selection.now ks c.loop-key.tally)
    (take_all c.loop-key.key-index keys c.loop-key-test.false) (done.counted still))
