use Rattle.std.proofs.Common.{map, ap, subst, ◌∙◌}
use Rattle.std.specs.List.Sorted.{IsStrictlySortedBy}
use Rattle.sqlite_value.specs.Order.{column}
use Rattle.acct_model.specs.Vouchers.{TopUpFacts}
use Rattle.acct_book.specs.Maps.{octets_cmp}
use Rattle.acct_sql_tables.specs.Columns.{topup_in_columns}
use Rattle.acct_sql_tables.proofs.ListLemmas.{topups_are}
use Rattle.acct_sql_tables.proofs.TextLemmas as t
use Rattle.acct_sql_tables.proofs.listing.read_topups.Goals as goal

pub ask-requires-clause-plain : goal.ask-requires-clause-plain
ask-requires-clause-plain g c = t.topups_of_account.plain

pub returns-then-topups_ascend-clause-found : goal.returns-then-topups_ascend-clause-found
returns-then-topups_ascend-clause-found g c o =
    let early = c.in_ok-shown.ensures.read.read.was_open o in
    let shown = rw c.params-to_sql.ensures at (c.in_ok-shown.ensures.shown o.0.0) in
    let read = c.in_ok-topups.ensures ∙ ap (map (λ r. topup_in_columns
    (column r))) c.deref.ensures.value in
    let sorted = subst (λ all. IsStrictlySortedBy octets_cmp
    (map (λ (t : TopUpFacts). t.voucher) all)) c.deref-2.ensures.value
    (c.topups_ascend.ensures c.if-topups_ascend.true) in
    topups_are g.S.Store c.args.conn.now (c.requires.book early.0.0 early.0.1) c.args.account.now
    c.in_ok-shown.shown.items c.in_ok-topups.topups.items shown read sorted
