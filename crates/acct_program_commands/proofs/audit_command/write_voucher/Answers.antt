use Rattle.std.proofs.Common.{◌≡◌, rules}
use Rattle.acct_program_commands.proofs.audit_command.write_voucher.Goals as goal

pub returns : goal.returns
returns g c =
    let account : c.as_slice.result.now ≡ c.args.topup.now.account = search rules in
    let number : c.as_str-number.result.now ≡ c.args.topup.now.voucher = search rules in
    rw number at (rw account at (rw c.in_ok-account.ensures at c.in_ok-writeln.ensures.bytes))
