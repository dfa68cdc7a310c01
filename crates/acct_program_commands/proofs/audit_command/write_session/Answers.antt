use Rattle.std.proofs.Common.{◌≡◌, rules}
use Rattle.acct_program_commands.proofs.audit_command.write_session.Goals as goal

pub returns : goal.returns
returns g c =
    let session : c.as_slice.result.now ≡ c.args.row.now.session = search rules in
    let account : c.as_slice-2.result.now ≡ c.args.row.now.account = search rules in
    let client : c.as_str-client.result.now ≡ c.args.row.now.client = search rules in
    rw client at (rw account at (rw session at (rw c.in_ok-account.ensures at
    (rw c.in_ok-session.ensures at c.in_ok-writeln.ensures.bytes))))
