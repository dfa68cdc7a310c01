use Rattle.sqlite_wal.specs.Files.{image_at}
use Rattle.acct_program_jobs.proofs.database.opened_anew.Goals as goal

pub returns-then-files-clause-found : goal.returns-then-files-clause-found
returns-then-files-clause-found g c =
    c.emptied.ensures.found (image_at g.S.Start) c.in_ok-connection.ensures.found

pub returns-then-files-clause-unread : goal.returns-then-files-clause-unread
returns-then-files-clause-unread g c = c.emptied.ensures.unread (image_at g.S.Start)
