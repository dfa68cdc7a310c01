use Rattle.std.proofs.Common.{◌≡◌, map, ap, subst, sym, ◌∙◌}
use Rattle.std.specs.List.Sorted.{IsStrictlySortedBy}
use Rattle.sqlite_value.specs.Order.{column}
use Rattle.acct_book.specs.Maps.{key_cmp}
use Rattle.acct_book.specs.Walk.{AreKeysOf}
use Rattle.acct_sql_tables.specs.Book.{content_at}
use Rattle.acct_sql_tables.specs.inner.Columns.{key_in_columns}
use Rattle.acct_sql_tables.proofs.KeyListLemmas.{keys_are}
use Rattle.acct_sql_tables.proofs.TextLemmas as t
use Rattle.acct_sql_tables.proofs.listing.read_keys.Goals as goal

pub ask-requires-clause-plain : goal.ask-requires-clause-plain
ask-requires-clause-plain g c = t.keys_of_account.plain

pub returns-then-keys_ascend-clause-found : goal.returns-then-keys_ascend-clause-found
returns-then-keys_ascend-clause-found g c o =
    let early = c.in_ok-shown.ensures.read.read.was_open o in
    let shown = rw c.params-to_sql.ensures at (c.in_ok-shown.ensures.shown o.0.0) in
    let items = c.in_ok-shown.shown.items in
    let read : c.in_ok-keys.keys.items ≡ map (λ r. key_in_columns (column r)) items =
    c.in_ok-keys.ensures ∙ ap (map (λ r. key_in_columns (column r))) c.deref.ensures.value in
    let sorted = subst (IsStrictlySortedBy key_cmp) (c.deref-2.ensures.value ∙ read)
    (c.keys_ascend.ensures c.if-keys_ascend.true) in
    subst (AreKeysOf (content_at g.S.Store c.args.conn.now) c.args.account.now) (sym read)
    (keys_are g.S.Store c.args.conn.now (c.requires.book early.0.0 early.0.1) c.args.account.now
    items shown sorted)
