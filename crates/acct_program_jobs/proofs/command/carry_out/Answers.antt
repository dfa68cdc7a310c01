use Rattle.std.proofs.Common.{◌∙◌, sym}
use Rattle.acct_program_jobs.proofs.command.carry_out.Goals as goal
use Rattle.acct_program_jobs.proofs.command.carry_out.Goals.{in-Feed, in-Check, in-Key, in-Book}

pub returns-clause-does : goal.returns-clause-does
returns-clause-does g c = rw c.told.ensures.same (elim c.match-order.branch [
  | in-Book w ↦ rw (
    w.in-Book.is,
    w.outcome-is,
    ← w.of-files.ensures.config,
    ← w.of-files.ensures.database,
  ) (rw (w.new-streams.ensures.input, w.new-streams.ensures.output)
      at w.do_book_job-outcome.ensures.does)
  | in-Feed w ↦ rw (w.in-Feed.is, w.outcome-is, w.without_book-outcome.ensures.output) (
    (λ done. rw w.as_ref.ensures.value at
        (w.feed-ended.ensures.done (sym w.without_book-outcome.ensures.same ∙ done))),
    rw w.without_book-outcome.ensures.same
        (rw w.as_ref.ensures.value at w.feed-ended.ensures.refused),
    w.without_book-outcome.ensures.left,
  )
  | in-Check w ↦ rw (w.in-Check.is, w.outcome-is) (rw (
    w.of-checking.ensures.config,
    w.of-checking.ensures.database,
    w.of-checking.ensures.audits,
    w.as_ref-in-Check.ensures.value,
  ) at w.check-outcome.ensures.does)
  | in-Key w ↦ rw (
    w.in-Key.is,
    w.outcome-is,
    w.without_book-outcome-in-Key.ensures.output,
    w.without_book-outcome-in-Key.ensures.same,
  ) (w.run_key-ended.ensures.prints, w.without_book-outcome-in-Key.ensures.left)
])
