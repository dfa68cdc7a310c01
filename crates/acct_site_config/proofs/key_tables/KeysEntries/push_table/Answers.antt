use Rattle.std.proofs.Common.{refl, ap}
use Rattle.toml.specs.View.{view}
use Rattle.acct_desk.specs.declared.keys.KeysError.TheVariants.{Memory}
use Rattle.acct_desk.specs.Keys.{KeysFacts}
use Rattle.acct_desk.specs.KeyFaults.{key_fault}
use Rattle.acct_site_config.specs.declared.config_error.ConfigKind.TheVariants.{BadKey}
use Rattle.acct_site_config.specs.KeyTables.{key_values, SaysKey, key_kind}
use Rattle.acct_site_config.proofs.EntryLemmas.{more_entries, unspelled, faulty}
use Rattle.acct_site_config.proofs.key_tables.KeysEntries.push_table.Goals as goal

pub returns-in_err-key-clause-refused : goal.returns-in_err-key-clause-refused
returns-in_err-key-clause-refused c =
    unspelled key_values SaysKey key_fault BadKey key_kind c.args.self.now.list
    (view c.args.table.now) c.in_err-key.field-0.0 c.from_residual.result
    c.from_residual.ensures.1 c.in_err-key.ensures.refused

pub returns-in_err-push-clause-refused : goal.returns-in_err-push-clause-refused
returns-in_err-push-clause-refused c =
    faulty key_values SaysKey key_fault BadKey key_kind Memory
    c.in_err-push.field-0.0 c.args.self.now.list (view c.args.table.now) c.in_ok-key.key
    c.from_residual-in_err-push.result c.from_residual-in_err-push.ensures.1
    c.in_ok-key.ensures.spelled c.in_err-push.ensures.refused refl

pub returns-clause-pushed : goal.returns-clause-pushed
returns-clause-pushed c tables are =
    rw (ap (λ (keys : KeysFacts). keys.list) c.in_ok-push.ensures.pushed)
    (more_entries key_values SaysKey key_fault tables c.args.self.now.list (view c.args.table.now)
    c.in_ok-key.key are c.in_ok-key.ensures.spelled c.in_ok-push.ensures.faultless)
