use Rattle.std.proofs.Common.{◌∙◌, sym}
use Rattle.acct_program_feed.proofs.Runs.{ran_afresh}
use Rattle.acct_program_jobs.proofs.feed_job.run_feed.Goals as goal
use Rattle.acct_program_jobs.proofs.feed_job.run_feed.Goals.{in-Ok, in-Err}

pub returns-in-Ok-flush-clause-ran : goal.returns-in-Ok-flush-clause-ran
returns-in-Ok-flush-clause-ran g c done = elim c.match-empty_book.branch [
  | in-Ok w ↦ let told = w.answer_reader-status.ensures.ran (sym w.status-is ∙ done) in (
    told.0,
    told.1,
    ran_afresh _ _ _ w.in-Ok.book told.2 told.0 _ _ _ w.in-Ok.ensures told.3
        (rw w.writer-is at c.flush.ensures.bytes),
  )
  | in-Err w ↦ absurd (w.end-status.ensures.done (sym w.status-is ∙ done))
]
