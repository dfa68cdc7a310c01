use Rattle.std.proofs.Common.{sym, ◌∙◌, inr, refl}
use Rattle.csv.specs.Records.{fields_of}
use Rattle.acct_files.proofs.Headers.{first_read, first_other, no_first}
use Rattle.acct_files.proofs.importing.read_header.Goals as goal

pub returns-clause-header : goal.returns-clause-header
returns-clause-header g c =
    let took = rw c.if-not-branch.false at c.in_ok-read_row.ensures.read in (
      fields_of c.read_row.new.row,
      sym c.is_header.ensures
          ∙ c.if-not-is_header.false,
      first_read g.R.Read.remaining c.args.rows.now c.read_row.new.rows
          (fields_of c.read_row.new.row) c.requires.rows.config c.requires.start took,
    )

pub returns-then-not-branch-clause-stopped : goal.returns-then-not-branch-clause-stopped
returns-then-not-branch-clause-stopped g c =
    let none = rw c.if-not-branch.true at c.in_ok-read_row.ensures.read in
    inr (
      refl,
      no_first g.R.Read.remaining c.args.rows.now c.read_row.new.rows
          (fields_of c.read_row.new.row) c.requires.rows.config c.requires.start none,
    )

pub returns-then-not-is_header-clause-stopped : goal.returns-then-not-is_header-clause-stopped
returns-then-not-is_header-clause-stopped g c =
    let took = rw c.if-not-branch.false at c.in_ok-read_row.ensures.read in
    inr (
      refl,
      first_other g.R.Read.remaining c.args.rows.now c.read_row.new.rows
          (fields_of c.read_row.new.row) c.requires.rows.config c.requires.start took
          (sym c.is_header.ensures ∙ c.if-not-is_header.true),
    )
