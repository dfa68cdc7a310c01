use Rattle.std.proofs.Common.{◌≤◌, ◌∙◌, [], Some, sym, ap, map, length}
use Rattle.std.proofs.Common.{arith}
use Rattle.std.proofs.lemmas.List.{length-map}
use Rattle.toml.specs.View.{view, items_view}
use Rattle.toml.proofs.Views.{table_get}
use Rattle.acct_site_config.specs.Tables.{list_at_most, elements}
use Rattle.acct_site_config.proofs.TableLemmas.{elements-view, elements_of_array, elements_of_other}
use Rattle.acct_site_config.proofs.TableLemmas.{at_most_within, at_most_past}
use Rattle.acct_site_config.proofs.tables.array_at.Goals as goal

pub returns-in_default : goal.returns-in_default
returns-in_default c =
    let found = rw c.in_default.is at (table_get c.get.result c.args.name.now
    c.args.table.now.entries c.get.ensures.value) in
    rw (← found, at_most_within c.args.limit [] (omega arith))

pub returns-then-len-limit : goal.returns-then-len-limit
returns-then-len-limit c =
    let found = rw c.in-Some.is at (table_get c.get.result c.args.name.now
    c.args.table.now.entries c.get.ensures.value) in
    let items = elements_of_array (view c.in-Some.value.now) _
    (rw c.in-Some-as_array.is at c.as_array.ensures) in
    rw (← found) (sym (ap (list_at_most c.args.limit) items
    ∙ at_most_past c.args.limit _ (rw (elements-view, length-map) (omega (arith, c.len.ensures)))))

pub returns-else-len-limit : goal.returns-else-len-limit
returns-else-len-limit c =
    let found = rw c.in-Some.is at (table_get c.get.result c.args.name.now
    c.args.table.now.entries c.get.ensures.value) in
    let items = elements_of_array (view c.in-Some.value.now) _
    (rw c.in-Some-as_array.is at c.as_array.ensures) in
    let small : length (elements (items_view c.in-Some-as_array.values.now.items)) ≤ c.args.limit =
    rw (elements-view, length-map) (omega (arith, c.len.ensures)) in
    rw (← found) (ap (λ vs. Some (map view vs)) c.as_slice.ensures.value
    ∙ ap Some (sym (elements-view c.in-Some-as_array.values.now.items))
    ∙ sym (ap (list_at_most c.args.limit) items ∙ at_most_within c.args.limit _ small))

pub returns-in-None : goal.returns-in-None
returns-in-None c =
    let found = rw c.in-Some.is at (table_get c.get.result c.args.name.now
    c.args.table.now.entries c.get.ensures.value) in
    let items = elements_of_other (view c.in-Some.value.now)
    (rw c.in-None.is at c.as_array.ensures) in
    rw (← found) (sym (ap (list_at_most c.args.limit) items))
