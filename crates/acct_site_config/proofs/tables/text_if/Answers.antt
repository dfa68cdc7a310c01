use Rattle.std.proofs.Common.{ap, Some, option_map}
use Rattle.toml.proofs.Views.{table_get}
use Rattle.acct_site_config.proofs.tables.text_if.Goals as goal

pub returns-in-Some-as_str : goal.returns-in-Some-as_str
returns-in-Some-as_str c =
    let found = table_get c.get.result c.args.name.now c.args.table.now.entries
    c.get.ensures.value in
    rw (← rw c.in-Some.is at found)
    (ap (option_map Some) (rw c.in-Some-as_str.is at c.as_str.ensures))

pub returns-in-None-as_str : goal.returns-in-None-as_str
returns-in-None-as_str c =
    let found = table_get c.get.result c.args.name.now c.args.table.now.entries
    c.get.ensures.value in
    rw (← rw c.in-Some.is at found)
    (ap (option_map Some) (rw c.in-None-as_str.is at c.as_str.ensures))

pub returns-in-None : goal.returns-in-None
returns-in-None c =
    let found = table_get c.get.result c.args.name.now c.args.table.now.entries
    c.get.ensures.value in
    rw (← rw c.in-None.is at found)
