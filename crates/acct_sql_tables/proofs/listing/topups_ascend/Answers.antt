use Rattle.std.proofs.Common.{rules, arith, ◌<◌, IsTrue}
use Rattle.acct_book.specs.Maps.{octets_cmp}
use Rattle.acct_model.specs.Vouchers.{TopUpFacts}
use Rattle.std.specs.Cmp.Lexicographic.{nat_list_cmp_total}
use Rattle.acct_sql_tables.proofs.ListLemmas.{ascends_first, ascends_more, ascends_all}
use Rattle.acct_sql_tables.proofs.listing.topups_ascend.Goals as goal

pub loop-at-init : goal.loop-at-init
loop-at-init c = ascends_first octets_cmp nat_list_cmp_total (λ (t : TopUpFacts). t.voucher)
    c.args.topups.now

pub loop-at-preserved : goal.loop-at-preserved
loop-at-preserved c =
    let some : 0 < c.loop-at.at = omega (arith, c.loop-at.auto.at) in
    let less : IsTrue c.topup_precedes.result = search rules in
    ascends_more octets_cmp nat_list_cmp_total (λ (t : TopUpFacts). t.voucher) c.args.topups.now
    c.loop-at.at _ _ some c.loop-at-test.true c.index-topups-at.is
    c.index-topups-at-in-loop-at.is c.loop-at.invariant (c.topup_precedes.ensures less)

pub returns : goal.returns
returns c = λ _. ascends_all octets_cmp nat_list_cmp_total (λ (t : TopUpFacts). t.voucher)
    c.args.topups.now c.loop-at.at (omega (arith, c.loop-at-test.false)) c.loop-at.invariant
