use Rattle.std.proofs.Common.{◌<◌, ◌^◌, arith, subst}
use Rattle.sqlite.specs.Held.{state}
use Rattle.acct_model.specs.Vouchers.{TopUpFacts}
use Rattle.acct_sql.proofs.ColumnLemmas.{keeps_topup}
use Rattle.acct_sql.proofs.laws.topups_are_their_columns.Goals as goal

pub returns : goal.returns
returns g c told kept =
    let sum : c.topup.inside.sum < 2 ^ 64 = omega arith in
    let when : c.topup.inside.when < 2 ^ 64 = omega (arith, c.topup.invariant.when_fits) in
    let view = c.topup.view_is in
    keeps_topup (state g.S.Store c.args.book.now).now (c.rests.ensures.book told.0.0 told.0.1)
    c.args.topup.now (subst (λ (t : TopUpFacts). t.sum < 2 ^ 64) view sum)
    (subst (λ (t : TopUpFacts). t.when < 2 ^ 64) view when) kept
