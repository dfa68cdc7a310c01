use Rattle.std.proofs.Common.{ap, Some, option_map, codes}
use Rattle.toml.proofs.Views.{table_get}
use Rattle.acct_site_config.proofs.stamp_tables.stamp_at.Goals as goal

pub returns-in-Some-texts_of : goal.returns-in-Some-texts_of
returns-in-Some-texts_of c =
    let found = table_get c.get.result (codes "stamp") c.args.document.now.entries
    c.get.ensures.value in
    rw (← rw c.in-Some.is at found)
    (ap (option_map Some) (rw c.in-Some-texts_of.is at c.texts_of.ensures))

pub returns-in-None-texts_of : goal.returns-in-None-texts_of
returns-in-None-texts_of c =
    let found = table_get c.get.result (codes "stamp") c.args.document.now.entries
    c.get.ensures.value in
    rw (← rw c.in-Some.is at found)
    (ap (option_map Some) (rw c.in-None-texts_of.is at c.texts_of.ensures))

pub returns-in-None : goal.returns-in-None
returns-in-None c =
    let found = table_get c.get.result (codes "stamp") c.args.document.now.entries
    c.get.ensures.value in
    rw (← rw c.in-None.is at found)
