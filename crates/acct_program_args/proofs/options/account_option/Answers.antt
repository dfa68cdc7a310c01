use Rattle.std.proofs.Common.{◌∙◌, sym, ap}
use Rattle.clap.specs.Words.{found_of}
use Rattle.clap.proofs.WalkLemmas.{first_value-rows}
use Rattle.acct_model.specs.Vouchers.{is_voucher_account}
use Rattle.acct_program_args.proofs.options.account_option.Goals as goal

pub returns-then-is_account : goal.returns-then-is_account
returns-then-is_account c =
    let found = rw c.in-Some.is at c.get_str.ensures in (
      c.in-Some.text.now,
      sym (found ∙ first_value-rows (found_of c.args.options.now) _),
      rw c.in-Ok.is at c.unshow.ensures,
      ap is_voucher_account (sym c.deref.ensures.value) ∙ sym c.is_account.ensures
          ∙ c.if-is_account.true,
    )
