use Rattle.std.proofs.Common.{◌∙◌, codes}
use Rattle.toml.proofs.Views.{table_get}
use Rattle.acct_site_config.proofs.key_tables.bearer_in.Goals as goal

pub returns : goal.returns
returns c =
    let entries = c.args.table.now.entries in
    let account = table_get c.get.result (codes "account") entries c.get.ensures.value in
    let cashier = table_get c.get-2.result (codes "cashier") entries c.get-2.ensures.value in
    let accounts = table_get c.get-3.result (codes "accounts") entries c.get-3.ensures.value in
    let logins = table_get c.get-4.result (codes "logins") entries c.get-4.ensures.value in
    c.bearer_of.ensures ∙ rw (account, cashier, accounts, logins)
