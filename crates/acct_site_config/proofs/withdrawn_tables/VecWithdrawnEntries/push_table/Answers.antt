use Rattle.std.proofs.Common.{◌≡◌, true, refl, rules}
use Rattle.std.specs.Result.{is_ok}
use Rattle.toml.specs.View.{view}
use Rattle.acct_site_config.specs.WithdrawnTables.{withdrawn_values, SaysWithdrawn, withdrawn_fault}
use Rattle.acct_site_config.proofs.EntryLemmas.{more_entries}
use Rattle.acct_site_config.proofs.withdrawn_tables.VecWithdrawnEntries.push_table.Goals as goal

pub returns-clause-pushed : goal.returns-clause-pushed
returns-clause-pushed c tables are =
    let pushed : is_ok c.push.result ≡ true = search rules in
    rw (c.push.ensures.items, pushed)
    (more_entries withdrawn_values SaysWithdrawn withdrawn_fault tables c.args.self.now.items
    (view c.args.table.now) c.in_ok-withdrawn.withdrawn are c.in_ok-withdrawn.ensures.spelled refl)
