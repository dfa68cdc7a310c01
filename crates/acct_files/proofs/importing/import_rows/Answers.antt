use Rattle.std.proofs.Common.{◌≡◌, ◌≤◌, ◌+◌, refl, ap, arith, Ok, Err, Result}
use Rattle.std.specs.Prelude.{IsErr, IsErrAnd}
use Rattle.csv.specs.Reading.{source_of}
use Rattle.csv.specs.Records.{fields_of}
use Rattle.acct_files.specs.declared.import_report.Outcome.{Outcome}
use Rattle.acct_files.specs.declared.import_report.Outcome.TheVariants.{Added, Repeated, Refused}
use Rattle.acct_files.specs.inner.Importing.{added_by}
use Rattle.acct_files.proofs.Halfway.{at_start, beheaded, ended, more, stopped_at, too_many}
use Rattle.acct_files.proofs.Halfway.{uncounted, unread}
use Rattle.acct_files.proofs.Offers.{keeps_then}
use Rattle.acct_files.proofs.importing.import_rows.Goals as goal

err_is : {T E : Type 0} (r : Result T E) (e : E) → IsErr r × IsErrAnd r (λ x. x ≡ e) → r ≡ Err e
err_is (Ok x) e h = absurd h.1
err_is (Err y) e h = ap Err h.1

added_once : (outcome : Outcome) → added_by (Ok outcome) ≤ 1
added_once Added = omega arith
added_once Repeated = omega arith
added_once (Refused cause) = omega arith

pub returns-in_err-read_header-clause-imports : goal.returns-in_err-read_header-clause-imports
returns-in_err-read_header-clause-imports g c sound history stood =
    let stop = c.in_err-read_header.field-0.0 in
    rw (err_is _ stop c.from_residual.ensures)
    (beheaded g.B.Book g.R.Read.remaining c.args.plans.now
    c.args.moment (source_of g.R.Read.remaining c.args.rows.now) history c.args.report.now
    c.args.book.now stop c.requires.report stood c.in_err-read_header.ensures.stopped)

pub loop-number-init : goal.loop-number-init
loop-number-init g c = record {
  rows = c.in_ok-read_header.ensures.rows;
  added = omega (arith, c.requires.report.added);
  repeated = omega (arith, c.requires.report.repeated);
  number = omega arith;
  keeps =
      record {
        was_sound = λ s. s;
        was_open = λ o. o;
        keeps_steady = λ s. s;
        stays_open = λ s other
            o. o;
        unchanged = λ o none. refl;
      };
  halfway =
      λ sound history stood. at_start g.B.Book
      g.R.Read.remaining c.args.plans.now c.args.moment
      (source_of g.R.Read.remaining c.args.rows.now) history c.read_header.new.rows
      c.args.report.now c.args.book.now c.in_ok-read_header.ensures.header c.requires.report stood;
}

pub returns-in_err-read_row-clause-imports : goal.returns-in_err-read_row-clause-imports
returns-in_err-read_row-clause-imports g c sound history stood =
    let inv = c.loop-number.invariant in
    let stop = c.in_err-read_row.field-0.0 in
    rw (err_is _ stop c.from_residual-in_err-read_row.ensures)
    (unread g.B.Book g.R.Read.remaining c.args.plans.now
    c.args.moment (source_of g.R.Read.remaining c.args.rows.now) history c.loop-number.rows
    c.loop-number.number c.loop-number.report c.args.book.now c.loop-number.book stop
    (inv.halfway sound history stood) c.in_err-read_row.ensures.stopped)

pub returns-then-not-branch-clause-imports : goal.returns-then-not-branch-clause-imports
returns-then-not-branch-clause-imports g c sound history stood =
    let inv = c.loop-number.invariant in
    let none = rw c.if-not-branch.true at c.in_ok-read_row.ensures.read in
    ended g.B.Book g.R.Read.remaining c.args.plans.now
    c.args.moment (source_of g.R.Read.remaining c.args.rows.now) history c.loop-number.rows
    c.read_row.new.rows c.loop-number.number c.loop-number.report c.args.book.now
    c.loop-number.book (fields_of c.read_row.new.row)
    (inv.halfway sound history stood) inv.number inv.rows.config none

pub returns-in_err-outcome-clause-imports : goal.returns-in_err-outcome-clause-imports
returns-in_err-outcome-clause-imports g c sound history stood =
    let inv = c.loop-number.invariant in
    let stop = c.in_err-outcome.field-0.0 in
    let took = rw c.if-not-branch.false at c.in_ok-read_row.ensures.read in
    let half = inv.halfway (c.in_err-outcome.ensures.keeps.was_sound sound) history stood in
    let (effect, did, does) = c.in_err-outcome.ensures.did in
    rw (err_is _ stop c.from_residual-in_err-outcome.ensures)
    (stopped_at g.B.Book g.R.Read.remaining
    c.args.plans.now c.args.moment (source_of g.R.Read.remaining c.args.rows.now) history
    c.loop-number.rows c.read_row.new.rows c.loop-number.number c.loop-number.report
    c.args.book.now c.loop-number.book
    c.outcome_of.new.book (fields_of c.read_row.new.row) stop effect half inv.rows.config took did
    does sound)

pub returns-in_err-count-clause-imports : goal.returns-in_err-count-clause-imports
returns-in_err-count-clause-imports g c sound history stood =
    let inv = c.loop-number.invariant in
    let stop = c.in_err-count.field-0.0 in
    let (same, refused) = c.in_err-count.ensures.full in
    let half = inv.halfway (c.in_ok-outcome.ensures.keeps.was_sound sound) history stood in
    let (effect, did, does) = c.in_ok-outcome.ensures.did in
    rw (err_is _ stop c.from_residual-in_err-count.ensures, same, c.in_err-count.ensures.err)
    (uncounted g.B.Book g.R.Read.remaining c.args.plans.now
    c.args.moment (source_of g.R.Read.remaining c.args.rows.now) history c.loop-number.rows
    c.loop-number.number c.loop-number.report c.args.book.now c.loop-number.book
    c.outcome_of.new.book (fields_of c.read_row.new.row) c.in_ok-outcome.outcome effect half refused
    did does sound)

pub loop-number-preserved : goal.loop-number-preserved
loop-number-preserved g c =
    let inv = c.loop-number.invariant in
    let kept = c.in_ok-outcome.ensures.keeps in
    let took = rw c.if-not-branch.false at c.in_ok-read_row.ensures.read in
    record {
      rows = c.in_ok-read_row.ensures.rows;
      added = omega (
        arith,
        inv.added,
        added_once c.in_ok-outcome.outcome,
        c.in_ok-count.ensures.added,
      );
      repeated = omega (arith, inv.repeated, c.in_ok-count.ensures.room);
      number = omega arith;
      keeps = keeps_then g.B.Book _
          c.loop-number.report.added _ c.count.new.self.added c.args.book.now c.loop-number.book
          c.outcome_of.new.book inv.keeps kept c.in_ok-count.ensures.added;
      halfway = λ sound history stood.
          let half = inv.halfway (kept.was_sound sound) history stood in
          let (effect, did, does) = c.in_ok-outcome.ensures.did in
          more g.B.Book g.R.Read.remaining c.args.plans.now
          c.args.moment (source_of g.R.Read.remaining c.args.rows.now) history c.loop-number.rows
          c.read_row.new.rows c.loop-number.number (c.loop-number.number + 1) c.loop-number.report
          c.count.new.self c.args.book.now c.loop-number.book c.outcome_of.new.book
          (fields_of c.read_row.new.row) c.in_ok-outcome.outcome effect half refl
          inv.rows.config took did does sound c.in_ok-count.ensures.ok;
    }

pub returns-in_err-read_row-2-clause-imports : goal.returns-in_err-read_row-2-clause-imports
returns-in_err-read_row-2-clause-imports g c sound history stood =
    let inv = c.loop-number.invariant in
    let stop = c.in_err-read_row-2.field-0.0 in
    rw (err_is _ stop c.from_residual-in_err-read_row-2.ensures)
    (unread g.B.Book g.R.Read.remaining c.args.plans.now
    c.args.moment (source_of g.R.Read.remaining c.args.rows.now) history c.loop-number.rows
    c.loop-number.number c.loop-number.report c.args.book.now c.loop-number.book stop
    (inv.halfway sound history stood) c.in_err-read_row-2.ensures.stopped)

pub returns-then-branch-clause-imports : goal.returns-then-branch-clause-imports
returns-then-branch-clause-imports g c sound history stood =
    let inv = c.loop-number.invariant in
    let took = rw c.if-branch.true at c.in_ok-read_row-2.ensures.read in
    too_many g.B.Book g.R.Read.remaining c.args.plans.now
    c.args.moment (source_of g.R.Read.remaining c.args.rows.now) history c.loop-number.rows
    c.read_row-2.new.rows c.loop-number.number c.loop-number.report c.args.book.now
    c.loop-number.book (fields_of c.read_row-2.new.row)
    (inv.halfway sound history stood) (omega (arith, inv.number, c.loop-number-test.false))
    inv.rows.config took

pub returns-clause-imports : goal.returns-clause-imports
returns-clause-imports g c sound history stood =
    let inv = c.loop-number.invariant in
    let none = rw c.if-branch.false at c.in_ok-read_row-2.ensures.read in
    ended g.B.Book g.R.Read.remaining c.args.plans.now
    c.args.moment (source_of g.R.Read.remaining c.args.rows.now) history c.loop-number.rows
    c.read_row-2.new.rows c.loop-number.number c.loop-number.report c.args.book.now
    c.loop-number.book (fields_of c.read_row-2.new.row)
    (inv.halfway sound history stood) inv.number inv.rows.config none
