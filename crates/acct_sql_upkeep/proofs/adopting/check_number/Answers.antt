use Rattle.std.proofs.Common.{rules, arith, subst, w64}
use Rattle.std.proofs.lemmas.Int.{to_z-of_z}
use Rattle.sqlite.specs.State.{HasCleanDisk}
use Rattle.sqlite.specs.Held.{state}
use Rattle.acct_sql_tables.specs.inner.Looked.{IsSchemaNumber, IsSchemaNumberFault}
use Rattle.acct_sql_tables.proofs.ReadLemmas.{answered}
use Rattle.acct_sql_tables.proofs.LookLemmas.{blamed}
use Rattle.acct_sql_upkeep.proofs.NumberLemmas.{number_told, number_refused}
use Rattle.acct_sql_tables.proofs.OlderLemmas.{schema_number}
use Rattle.acct_sql_upkeep.proofs.adopting.check_number.Goals as goal

pub peek-requires-clause-plain : goal.peek-requires-clause-plain
peek-requires-clause-plain g c = λ clean. (schema_number _ (c.requires.has clean)).plain

pub returns-clause-number : goal.returns-clause-number
returns-clause-number g c =
    let back = to_z-of_z w64 c.args.wanted c.ranges.wanted in
    record {
      looks = c.in_ok-rows.ensures.looks.looks;
      stays_open = search rules;
      holds = λ clean.
          let early : HasCleanDisk (state g.S.Store c.args.conn.now) = omega
          (arith, c.in_ok-rows.ensures.looks.looks.survives.clean, clean) in
          let told = number_told (state g.S.Store c.args.conn.now) _ c.in_ok-rows.rows.items
          (c.requires.has early) (c.in_ok-rows.ensures.shown clean) in
          answered c.judge_number.result
          (λ n. told.one c.args.wanted (subst
          (IsSchemaNumber c.args.wanted) c.deref.ensures.value n))
          (rw back at c.judge_number.ensures.ok);
    }

pub returns-clause-refused : goal.returns-clause-refused
returns-clause-refused g c clean =
    let back = to_z-of_z w64 c.args.wanted c.ranges.wanted in
    let early : HasCleanDisk (state g.S.Store c.args.conn.now) = omega
    (arith, c.in_ok-rows.ensures.looks.looks.survives.clean, clean) in
    let told = number_told (state g.S.Store c.args.conn.now) _ c.in_ok-rows.rows.items
    (c.requires.has early) (c.in_ok-rows.ensures.shown clean) in
    blamed c.judge_number.result
    (λ e fault. number_refused c.args.wanted _ c.in_ok-rows.rows.items e told
    (subst (λ rows. IsSchemaNumberFault c.args.wanted rows e) c.deref.ensures.value fault))
    (rw back at c.judge_number.ensures.err)
