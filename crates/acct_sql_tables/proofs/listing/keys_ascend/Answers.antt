use Rattle.std.proofs.Common.{rules, arith, ◌<◌, IsTrue, subst}
use Rattle.std.specs.List.Sorted.{IsStrictlySortedBy}
use Rattle.std.proofs.lemmas.List.{map-id}
use Rattle.acct_book.specs.declared.key.Key.{Key}
use Rattle.acct_book.specs.Maps.{key_cmp}
use Rattle.acct_book.proofs.WalkLaws.{key_total}
use Rattle.acct_sql_tables.proofs.ListLemmas.{ascends_first, ascends_more, ascends_all}
use Rattle.acct_sql_tables.proofs.listing.keys_ascend.Goals as goal

pub loop-at-init : goal.loop-at-init
loop-at-init c = ascends_first key_cmp key_total (λ (k : Key). k) c.args.keys.now

pub loop-at-preserved : goal.loop-at-preserved
loop-at-preserved c =
    let some : 0 < c.loop-at.at = omega (arith, c.loop-at.auto.at) in
    let less : IsTrue c.key_precedes.result = search rules in
    ascends_more key_cmp key_total (λ (k : Key). k) c.args.keys.now c.loop-at.at _ _ some
    c.loop-at-test.true c.index-keys-at.is c.index-keys-at-in-loop-at.is c.loop-at.invariant
    (c.key_precedes.ensures less)

pub returns : goal.returns
returns c = λ _. subst (IsStrictlySortedBy key_cmp) (map-id c.args.keys.now)
    (ascends_all key_cmp key_total (λ (k : Key). k) c.args.keys.now c.loop-at.at
    (omega (arith, c.loop-at-test.false)) c.loop-at.invariant)
