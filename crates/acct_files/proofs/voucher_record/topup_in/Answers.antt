use Rattle.std.proofs.Common.{refl}
use Rattle.acct_files.proofs.Texts.{no_number}
use Rattle.acct_files.proofs.voucher_record.topup_in.Goals as goal

pub returns-in_default-from_utf8-clause-refused : goal.returns-in_default-from_utf8-clause-refused
returns-in_default-from_utf8-clause-refused c =
    let three = c.three_fields.ensures in
    let none = no_number c.in-Some.voucher.now c.in_default-from_utf8.ensures.cases.0 in
    rw (← three, c.in-Some.is, none) refl
