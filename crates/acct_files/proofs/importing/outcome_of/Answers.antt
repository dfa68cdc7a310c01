use Rattle.csv.specs.Records.{fields_of}
use Rattle.acct_files.proofs.Offers.{offered, offer_keeps, faulted}
use Rattle.acct_files.proofs.importing.outcome_of.Goals as goal

pub returns-clause-did : goal.returns-clause-did
returns-clause-did g c =
    rw c.told.ensures (offered g.B.Book c.args.plans.now c.args.moment (fields_of c.args.row.now)
    c.in-Ok.topup c.record.result c.args.book.now c.record.new.book c.in-Ok.ensures.asked
    c.record.ensures)

pub returns-in-Err-clause-did : goal.returns-in-Err-clause-did
returns-in-Err-clause-did g c =
    rw c.refused.ensures (faulted g.B.Book c.args.plans.now c.args.moment
    (fields_of c.args.row.now) c.in-Err.fault c.args.book.now c.in-Err.ensures.refused)

pub returns-clause-keeps : goal.returns-clause-keeps
returns-clause-keeps g c =
    rw c.told.ensures (offer_keeps g.B.Book c.args.plans.now c.in-Ok.topup c.record.result
    c.args.book.now c.record.new.book c.record.ensures)
