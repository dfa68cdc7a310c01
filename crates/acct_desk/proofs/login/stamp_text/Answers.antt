use Rattle.std.proofs.Common.{◌≡◌, ℕ, ◌<◌, true, arith}
use Rattle.std.proofs.lemmas.Bool.Decides.{nat_tests}
use Rattle.std.specs.List.{list_all}
use Rattle.acct_model.specs.Stamps.{is_login_digit}
use Rattle.acct_model.proofs.Numbers.{is_text}
use Rattle.acct_desk.proofs.RouteLemmas.{and_right}
use Rattle.acct_desk.proofs.login.stamp_text.Goals as goal

digit_small : (x : ℕ) → is_login_digit x ≡ true → x < 128
digit_small x h = grind (arith, nat_tests)

pub unreachable-requires : goal.unreachable-requires
unreachable-requires c =
    c.in-Err.ensures.cases.0 (is_text is_login_digit digit_small c.args.login.now
    (and_right _ (list_all is_login_digit c.args.login.now) c.requires))
