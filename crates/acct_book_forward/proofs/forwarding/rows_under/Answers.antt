use Rattle.std.proofs.Common.{◌+◌, subst, sym}
use Rattle.std.specs.Prelude.{drop, IfSome}
use Rattle.acct_book.specs.Content.{Content, HasOwnKeys}
use Rattle.acct_book.proofs.Looking.{looks_none, looks_then}
use Rattle.acct_book_forward.specs.inner.Forwarding.{IsUnder}
use Rattle.acct_book_forward.proofs.Carrying.{as_looks}
use Rattle.acct_book_forward.proofs.RowsUnder.{AreFound, none_found, found_more, all_found}
use Rattle.acct_book_forward.proofs.forwarding.rows_under.Goals as goal

pub loop-key-init : goal.loop-key-init
loop-key-init g c = record {
  looks = looks_none g.B.Book c.args.book.now;
  answers = c.requires.answers;
  found = λ still. subst (λ rows. AreFound (g.B.Book.content c.args.book.now)
      c.args.task.now.account.now rows c.args.keys.now) (sym c.new-rows.ensures.items)
      (none_found (g.B.Book.content c.args.book.now) c.args.task.now.account.now c.args.keys.now
      (c.requires.in_order still));
}

pub loop-key-preserved : goal.loop-key-preserved
loop-key-preserved g c =
    let b = g.B.Book in
    let before = c.loop-key.invariant in
    let reads = c.row_under.ensures.reads in
    let account = c.args.task.now.account.now in
    record {
      looks = looks_then b c.args.book.now c.loop-key.book c.row_under.new.book c.row_under.result
          before.looks reads;
      answers = c.in_ok-found.ensures.reads.answers;
      found = λ still.
          let then = reads.was_open still in
          let same = before.looks.same then in
          subst (λ rows. AreFound (b.content c.args.book.now) account rows
          (drop (c.loop-key.key-index + 1) c.args.keys.now)) (sym c.in_ok-push_found.ensures)
          (found_more (b.content c.args.book.now) account c.loop-key.rows.items c.args.keys.now
          c.loop-key.key-index c.key-item.result c.in_ok-found.found
          (subst HasOwnKeys same (g.met.B.Book.own_keys c.loop-key.book then))
          c.loop-key-test.true c.key-item.is
          (subst (λ (x : Content). IfSome c.in_ok-found.found
          (IsUnder x account c.key-item.result)) same (c.in_ok-found.ensures.found still))
          (before.found then));
    }

pub returns-clause-reads : goal.returns-clause-reads
returns-clause-reads g c =
    as_looks g.B.Book c.args.book.now c.loop-key.book _ c.loop-key.invariant.looks
    c.loop-key.invariant.answers

pub returns-clause-found : goal.returns-clause-found
returns-clause-found g c = λ still.
    all_found (g.B.Book.content c.args.book.now) c.args.task.now.account.now
    c.loop-key.rows.items c.args.keys.now c.loop-key.key-index c.loop-key-test.false
    (c.loop-key.invariant.found still)
