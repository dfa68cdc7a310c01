use Rattle.std.proofs.Common.{rules, arith, subst, sym}
use Rattle.sqlite.specs.Given.{IsPlain}
use Rattle.sqlite.specs.Listing.{understood}
use Rattle.sqlite.specs.State.{HasCleanDisk}
use Rattle.sqlite.specs.Held.{state}
use Rattle.acct_sql_tables.proofs.IdLemmas.{rowids_shown, table_rises}
use Rattle.acct_sql_tables.proofs.rowids.check_table.Goals as goal

pub check_ids-requires-clause-plain : goal.check_ids-requires-clause-plain
check_ids-requires-clause-plain g c = λ clean. subst (λ sql. IsPlain (understood
    (state g.S.Store c.args.conn.now).now.schema sql)) (sym c.rowids_of.ensures)
    (rowids_shown c.args.table _ (c.requires.has clean)).plain

pub returns-in-Ok-clause-tidy : goal.returns-in-Ok-clause-tidy
returns-in-Ok-clause-tidy g c = record {
  looks = c.check_ids.ensures.looks.looks;
  stays_open = search rules;
  holds = λ clean.
      let early : HasCleanDisk (state g.S.Store c.args.conn.now) = omega
      (arith, c.check_ids.ensures.looks.looks.survives.clean, clean) in
      table_rises g.S.Store c.args.conn.now c.check_ids.new.conn c.args.table
      (c.requires.has early) (rw (c.in-Ok.is, c.rowids_of.ensures) at
      (c.check_ids.ensures.shown clean));
}
