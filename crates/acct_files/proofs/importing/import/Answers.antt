use Rattle.std.proofs.Common.{◌≡◌, Result, Ok, Err, sym, ◌∙◌, refl}
use Rattle.std.specs.Prelude.{option_map}
use Rattle.std.specs.Result.{result_err}
use Rattle.csv.specs.Reading.{strip_bom}
use Rattle.acct_files.specs.declared.import_report.Stopped.{Stopped}
use Rattle.acct_files.specs.inner.Importing.{stop_of}
use Rattle.acct_files.proofs.Halfway.{recounted}
use Rattle.acct_files.proofs.importing.import.Goals as goal

err_same : {T : Type 0} (r : Result T Stopped) → stop_of r ≡ result_err r
err_same (Ok x) = refl
err_same (Err e) = refl

pub returns-clause-imports : goal.returns-clause-imports
returns-clause-imports g c sound history stood =
    recounted g.B.Book c.args.plans.now c.args.moment _
    (option_map strip_bom (g.R.Read.remaining c.args.reader)) history
    (stop_of c.import_rows-run.result) c.err-report.result c.import_rows-run.new.report _
    c.args.book.now c.import_rows-run.new.book
    c.rows_of-rows.ensures.text (err_same c.import_rows-run.result ∙ sym c.err-report.ensures.value)
    refl refl refl
    (c.import_rows-run.ensures.imports sound history stood)
