use Rattle.sqlite.proofs.Callers.{memory_is_clean}
use Rattle.acct_book.proofs.Empty.{empty_stands}
use Rattle.acct_program_jobs.proofs.feed_job.empty_book.Goals as goal

pub create-requires : goal.create-requires
create-requires c = c.in_ok-connection.ensures.fresh.autocommit

pub returns-in-Ok : goal.returns-in-Ok
returns-in-Ok c =
    let made = c.in-Ok.ensures.made (memory_is_clean c.in-Ok.book) in
    (made.0, empty_stands c.args.plans.now _ made.1.content)
