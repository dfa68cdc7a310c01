use Rattle.std.proofs.Common.{◌≡◌, List, subst, inl, inr}
use Rattle.std.specs.Prelude.{IsTrue, None, Some}
use Rattle.std.specs.Io.KnownBytes.{Appends}
use Rattle.acct_book.specs.Content.{Content}
use Rattle.acct_book.specs.Row.{RowFacts}
use Rattle.acct_book.specs.Walk.{AreRowsOf}
use Rattle.acct_book_forward.specs.Carrying.{IsTallyOf}
use Rattle.acct_book.proofs.Looking.{looks_none, looks_then}
use Rattle.acct_program_commands.specs.Forwarding.{IsHeardIn}
use Rattle.acct_program_commands.specs.inner.Surveyed.{IsNextAccount}
use Rattle.acct_program_commands.proofs.Surveyed.{counts_none, surveyed_all, surveyed_more}
use Rattle.acct_program_commands.proofs.Surveyed.{surveyed_none, texts_of}
use Rattle.acct_program_commands.proofs.forward_command.survey.Goals as goal

pub loop-init : goal.loop-init
loop-init g c =
    let task = c.args.task.now in
    record {
      looks = looks_none g.B.Book c.args.book.now;
      heard = λ still heard. absurd (cc);
      surveyed = λ still. surveyed_none (g.B.Book.content c.args.book.now) task.selection.now
          task.lists_open c.new-totals.result (g.W.Write.contents c.args.output.now)
          (counts_none task.selection.now c.new-totals.result c.new-totals.ensures.sums);
    }

pub loop-preserved : goal.loop-preserved
loop-preserved g c =
    let b = g.B.Book in
    let task = c.args.task.now in
    let before = c.loop.invariant in
    let asked = c.next_account.ensures.reads in
    let reads = c.survey_account.ensures.reads in
    let mid = c.next_account.new.book in
    let looks = looks_then b c.args.book.now c.loop.book mid c.next_account.result before.looks
    asked in
    record {
      looks = looks_then b c.args.book.now mid c.survey_account.new.book c.survey_account.result
          looks reads;
      heard = λ still heard.
          let open_mid = reads.was_open still in
          elim (c.in_ok-seen.ensures.heard still (subst IsTrue c.add_seen.ensures.heard heard)) [
            | inl was ↦ before.heard (asked.was_open open_mid) was
            | inr now ↦ subst (λ content. IsHeardIn task.selection.now content
                task.clock.moment) (looks.same open_mid) now
          ];
      surveyed = λ still.
          let open_mid = reads.was_open still in
          let open_old = asked.was_open open_mid in
          let same : c.as_slice.result.now ≡ c.in-Some.account.items = c.as_slice.ensures.value in
          surveyed_more (b.content c.args.book.now) task.selection.now task.lists_open c.loop.after
          c.in-Some.account c.loop.totals c.add_seen.new.self c.in_ok-seen.seen.tally _ _ _
          (before.surveyed open_old)
          (subst (λ (content : Content). IsNextAccount content c.loop.after
          (Some c.in-Some.account)) (before.looks.same open_old)
          (rw c.in-Some.is at (c.in_ok-account.ensures.next open_mid)))
          (subst (λ (content : Content). (rows : List RowFacts)
          × AreRowsOf content c.in-Some.account.items rows
          × IsTallyOf task.selection.now rows c.in_ok-seen.seen.tally
          × Appends (g.W.Write.contents c.loop.output)
          (g.W.Write.contents c.survey_account.new.output)
          (texts_of task.lists_open task.selection.now content rows)) (looks.same open_mid)
          (rw same at (c.in_ok-seen.ensures.told still)))
          c.add_seen.ensures.sums;
    }

pub returns-in_default-clause-counts : goal.returns-in_default-clause-counts
returns-in_default-clause-counts g c = λ still.
    let b = g.B.Book in
    let task = c.args.task.now in
    let before = c.loop.invariant in
    let open_old = c.next_account.ensures.reads.was_open still in
    (surveyed_all (b.content c.args.book.now) task.selection.now task.lists_open c.loop.after
    c.loop.totals (g.W.Write.contents c.args.output.now) (g.W.Write.contents c.loop.output)
    (before.surveyed open_old)
    (subst (λ (content : Content). IsNextAccount content c.loop.after None)
    (before.looks.same open_old) (rw c.in_default.is at (c.in_ok-account.ensures.next still)))).0

pub returns-in_default-clause-told : goal.returns-in_default-clause-told
returns-in_default-clause-told g c = λ still.
    let b = g.B.Book in
    let task = c.args.task.now in
    let before = c.loop.invariant in
    let open_old = c.next_account.ensures.reads.was_open still in
    (surveyed_all (b.content c.args.book.now) task.selection.now task.lists_open c.loop.after
    c.loop.totals (g.W.Write.contents c.args.output.now) (g.W.Write.contents c.loop.output)
    (before.surveyed open_old)
    (subst (λ (content : Content). IsNextAccount content c.loop.after None)
    (before.looks.same open_old) (rw c.in_default.is at (c.in_ok-account.ensures.next still)))).1
