use Rattle.std.proofs.Common.{rules, arith, ◌≡◌, subst, sym, ◌∙◌}
use Rattle.sqlite.specs.Effect.{Database}
use Rattle.sqlite.specs.State.{HasCleanDisk}
use Rattle.sqlite.specs.Held.{state}
use Rattle.acct_sql_tables.specs.Tables.{book_schema}
use Rattle.acct_sql_upkeep.specs.Add.{HasAdded}
use Rattle.acct_sql_tables.specs.inner.Inside.{IsBookOf}
use Rattle.acct_sql_tables.specs.inner.Looked.{IsPlanFault}
use Rattle.acct_sql_upkeep.specs.inner.Adding.{AreAmong, ShowsPrices}
use Rattle.acct_sql_upkeep.proofs.AddLemmas.{not_added, shown_extended, old_extended, old_classes}
use Rattle.acct_sql_upkeep.proofs.adding.add_to_book.Goals as goal

pub returns-in_err-prices-clause-refused : goal.returns-in_err-prices-clause-refused
returns-in_err-prices-clause-refused g c clean =
    let old = state g.S.Store c.args.conn.now in
    let seen = c.in_ok-check_number.ensures.number in
    let there : HasCleanDisk (state g.S.Store c.check_number.new.conn) = omega
    (arith, c.kept_prices.ensures.looks.looks.survives.clean, clean) in
    let same = seen.looks.same there (seen.stays_open there) in
    let has : old.now.schema ≡ book_schema = search rules in
    let fault = rw c.list.ensures at (c.in_err-prices.ensures.fault clean) in
    let refused = not_added c.args.plans.now old.now _ c.have_no_fault.ensures has
    (seen.holds there) (subst (λ (d : Database). IsPlanFault (AreAmong c.args.plans.now d.trees)
    c.in_err-prices.field-0.0) same fault) in
    search rules

pub write_missing-requires-clause-shown : goal.write_missing-requires-clause-shown
write_missing-requires-clause-shown g c = λ clean o.
    let tidy = c.in_ok-check_rowids.ensures.tidy in
    let there : HasCleanDisk (state g.S.Store c.kept_prices.new.conn) = omega
    (arith, tidy.looks.survives.clean, clean) in
    let looks = c.in_ok-prices.ensures.looks in
    let same = tidy.looks.same clean o ∙ looks.looks.same there (looks.stays_open there) in
    subst (λ rows. ShowsPrices (state g.S.Store c.check_rowids.new.conn).now.trees rows)
    (sym c.deref-2.ensures.value) (subst (λ (d : Database). ShowsPrices d.trees
    c.in_ok-prices.prices.items) (sym same) (c.in_ok-prices.ensures.shown there))

pub write_missing-requires-clause-some : goal.write_missing-requires-clause-some
write_missing-requires-clause-some g c =
    let some = rw (c.list-2.ensures, c.deref.ensures.value) at c.count_missing-added.ensures.shown
    in
    rw (c.list-3.ensures, c.deref-2.ensures.value) some

pub returns-in-Ok-clause-made : goal.returns-in-Ok-clause-made
returns-in-Ok-clause-made g c clean =
    let plans = c.args.plans.now in
    let old = state g.S.Store c.args.conn.now in
    let seen = c.in_ok-check_number.ensures.number in
    let looks = c.in_ok-prices.ensures.looks in
    let tidy = c.in_ok-check_rowids.ensures.tidy in
    let late : HasCleanDisk (state g.S.Store c.check_rowids.new.conn) = omega
    (arith, c.write_missing.ensures.survives.clean, clean) in
    let there : HasCleanDisk (state g.S.Store c.kept_prices.new.conn) = omega
    (arith, tidy.looks.survives.clean, late) in
    let early : HasCleanDisk (state g.S.Store c.check_number.new.conn) = omega
    (arith, looks.looks.survives.clean, there) in
    let first = seen.looks.same early (seen.stays_open early) in
    let same = tidy.looks.same late (tidy.stays_open late)
    ∙ (looks.looks.same there (looks.stays_open there) ∙ first) in
    let made = rw c.list-3.ensures at (c.in-Ok.ensures.made clean) in
    let rows = c.in_ok-prices.prices.items in
    let told = subst (λ (d : Database). ShowsPrices d.trees rows) first
    (c.in_ok-prices.ensures.shown there) in
    let among = subst (λ (d : Database). AreAmong plans d.trees) first
    (rw c.list.ensures at (c.in_ok-prices.ensures.among there)) in
    let some = rw (c.list-2.ensures, c.deref.ensures.value) at c.count_missing-added.ensures.shown
    in
    let number = rw (c.list-2.ensures, c.deref.ensures.value) at
    c.count_missing-added.ensures.number in
    record {
      is = subst (λ (d : Database). IsBookOf (HasAdded plans) d.trees
          (state g.S.Store c.write_missing.new.conn)) same made;
      extended = shown_extended plans old.now.trees among rows told some.0 some.1;
      counted = λ kept k. (
        old_extended plans old.now.trees c.have_no_fault.ensures among kept k,
        number kept (old_classes plans old.now.trees c.have_no_fault.ensures among kept k rows
            told),
      );
    }
