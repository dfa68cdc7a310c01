use Rattle.std.proofs.Common.{rules, arith, ◌<◌, IsTrue}
use Rattle.acct_book.specs.Maps.{key_cmp}
use Rattle.acct_book.specs.Content.{key_of}
use Rattle.acct_book.proofs.WalkLaws.{key_total}
use Rattle.acct_sql_tables.proofs.ListLemmas.{ascends_first, ascends_more, ascends_all}
use Rattle.acct_sql_tables.proofs.listing.sessions_ascend.Goals as goal

pub loop-at-init : goal.loop-at-init
loop-at-init c = ascends_first key_cmp key_total key_of c.args.rows.now

pub loop-at-preserved : goal.loop-at-preserved
loop-at-preserved c =
    let some : 0 < c.loop-at.at = omega (arith, c.loop-at.auto.at) in
    let less : IsTrue c.row_precedes.result = search rules in
    ascends_more key_cmp key_total key_of c.args.rows.now c.loop-at.at _ _ some c.loop-at-test.true
    c.index-rows-at.is c.index-rows-at-in-loop-at.is c.loop-at.invariant
    (c.row_precedes.ensures less)

pub returns : goal.returns
returns c = λ _. ascends_all key_cmp key_total key_of c.args.rows.now c.loop-at.at
    (omega (arith, c.loop-at-test.false)) c.loop-at.invariant
