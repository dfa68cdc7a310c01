use Rattle.std.proofs.Common.{arith, sym, refl}
use Rattle.std.proofs.lemmas.List.{append-nil}
use Rattle.acct_files.specs.declared.import_report.Outcome.TheVariants.{Added, Repeated, Refused}
use Rattle.acct_files.proofs.Counting.{counts_more}
use Rattle.acct_files.proofs.import_report.ImportReport.count.Goals as goal

pub returns-in-Added-clause-ok : goal.returns-in-Added-clause-ok
returns-in-Added-clause-ok c outcomes counts number =
    rw c.in-Added.is (counts_more outcomes Added c.args.number c.args.self.now _ counts number refl
    (omega arith) (sym (append-nil _)))

pub returns-in-Repeated-clause-ok : goal.returns-in-Repeated-clause-ok
returns-in-Repeated-clause-ok c outcomes counts number =
    rw c.in-Repeated.is (counts_more outcomes Repeated c.args.number c.args.self.now _ counts number
    (omega arith) refl (sym (append-nil _)))

pub returns-in-Ok-clause-ok : goal.returns-in-Ok-clause-ok
returns-in-Ok-clause-ok c outcomes counts number =
    rw c.in-Refused.is (counts_more outcomes (Refused c.in-Refused.cause) c.args.number
    c.args.self.now _ counts number (omega arith) (omega arith)
    (rw c.in-Ok.is at c.push.ensures.ok))
