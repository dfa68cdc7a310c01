use Rattle.std.proofs.Common.{◌<◌, ◌^◌, ◌∙◌, ap, arith, length, subst, sym, inl, inr}
use Rattle.std.proofs.KnownBytes.{Appends-nil}
use Rattle.std.proofs.lemmas.List.{take_all}
use Rattle.std.specs.Io.KnownBytes.{Appends}
use Rattle.acct_book.specs.Content.{Content, HasOwnKeys}
use Rattle.acct_book.specs.Walk.{AreKeysOf}
use Rattle.acct_book.proofs.Looking.{looks_once, looks_then}
use Rattle.acct_program_commands.specs.Forwarding.{IsHeardIn}
use Rattle.acct_book_forward.proofs.Counted.{AreCounted, none_counted, one_counted}
use Rattle.acct_program_commands.proofs.Forwarded.{heard_more}
use Rattle.acct_program_commands.proofs.Surveyed.{all_told, text_more, texts_at}
use Rattle.acct_program_commands.proofs.forward_command.survey_account.Goals as goal

pub loop-key-init : goal.loop-key-init
loop-key-init g c = record {
  looks = looks_once g.B.Book c.args.book.now c.keys_of.new.self c.keys_of.result
      c.keys_of.ensures.reads;
  answers = c.in_ok-keys.ensures.reads.answers;
  heard = λ still was. inl was;
  are = λ still. subst (AreKeysOf (g.B.Book.content c.args.book.now) c.args.account.now)
      (sym c.deref-key-items.ensures.value) (c.in_ok-keys.ensures.found still);
  counted = λ still. none_counted (g.B.Book.content c.args.book.now)
      c.args.task.now.selection.now c.new.result (c.new.ensures.none c.args.task.now.selection.now);
  told = λ still. Appends-nil (g.W.Write.contents c.args.output.now);
}

pub loop-key-preserved : goal.loop-key-preserved
loop-key-preserved g c =
    let b = g.B.Book in
    let before = c.loop-key.invariant in
    let reads = c.session.ensures.reads in
    let keys = c.deref-key-items.result.now in
    let few : length keys < 2 ^ 64 =
    subst (λ ks. length ks < 2 ^ 64) (sym c.deref-key-items.ensures.value)
    (omega (arith, c.in_ok-keys.keys.ok.0)) in
    let found = λ (still : b.is_open c.session.new.self). c.in_ok-row.ensures.found still
    ∙ ap (λ (content : Content). content.rows c.key-item.result)
    (before.looks.same (reads.was_open still)) in
    record {
      looks = looks_then b c.args.book.now c.loop-key.book c.session.new.self c.session.result
          before.looks reads;
      answers = c.in_ok-row.ensures.reads.answers;
      heard = λ still is.
          let then = reads.was_open still in
          elim (c.in_ok-note.ensures.heard is) [
            | inl was ↦ before.heard then was
            | inr now ↦ inr (subst (λ content. IsHeardIn c.args.task.now.selection.now content
                c.args.task.now.clock.moment)
                (before.looks.same then)
                (heard_more c.args.task.now.selection.now (b.content c.loop-key.book) c.key-item.result c.in_ok-row.row
                c.args.task.now.clock.moment (g.met.B.Book.own_keys c.loop-key.book then)
                (c.in_ok-row.ensures.found still) now))
          ];
      are = λ still. before.are (reads.was_open still);
      counted = λ still.
          let then = reads.was_open still in
          one_counted (b.content c.args.book.now) c.args.account.now c.args.task.now.selection.now
          keys c.loop-key.key-index c.key-item.result c.loop-key.seen.tally c.note.new.seen.tally
          (subst HasOwnKeys (before.looks.same then)
          (g.met.B.Book.own_keys c.loop-key.book then)).rows (before.are then)
          c.loop-key-test.true few c.key-item.is (before.counted then)
          (λ row kept. c.in_ok-note.ensures.counts row (found still ∙ kept));
      told = λ still.
          text_more c.args.task.now.lists_open c.args.task.now.selection.now
          (b.content c.args.book.now) keys c.loop-key.key-index c.key-item.result _ _ _
          c.in_ok-row.row c.loop-key-test.true c.key-item.is (found still)
          (before.told (reads.was_open still)) c.in_ok-note.ensures.told;
    }

pub returns-clause-told : goal.returns-clause-told
returns-clause-told g c = λ still.
    let b = g.B.Book in
    let done = c.loop-key.invariant in
    let keys = c.deref-key-items.result.now in
    let all = take_all c.loop-key.key-index keys c.loop-key-test.false in
    let selection = c.args.task.now.selection.now in
    let content = b.content c.args.book.now in
    all_told c.args.task.now.lists_open selection content c.args.account.now keys
    c.loop-key.seen.tally _ _
    (subst HasOwnKeys (done.looks.same still) (g.met.B.Book.own_keys c.loop-key.book still)).rows
    (done.are still)
    (subst (λ ks. AreCounted content selection ks c.loop-key.seen.tally) all (done.counted still))
    (subst (λ ks. Appends (g.W.Write.contents c.args.output.now)
    (g.W.Write.contents c.loop-key.output)
    (texts_at c.args.task.now.lists_open selection content ks)) all (done.told still))
