use Rattle.std.proofs.Common.{◌<◌, ◌^◌, arith, subst}
use Rattle.sqlite.specs.Held.{state}
use Rattle.acct_book.specs.Row.{RowFacts}
use Rattle.acct_sql.proofs.ColumnLemmas.{keeps_session}
use Rattle.acct_sql.proofs.laws.sessions_are_their_columns.Goals as goal

pub returns : goal.returns
returns g c told kept =
    let total = c.row.invariant.total_fits in
    let input : c.row.inside.input < 2 ^ 64 = omega (arith, total) in
    let output : c.row.inside.output < 2 ^ 64 = omega (arith, total) in
    let seconds : c.row.inside.seconds < 2 ^ 64 = omega arith in
    let first : c.row.inside.first < 2 ^ 64 = omega (arith, c.row.invariant.first_fits) in
    let last : c.row.inside.last < 2 ^ 64 = omega (arith, c.row.invariant.last_fits) in
    let cause : c.row.inside.cause < 2 ^ 64 = omega arith in
    let view = c.row.view_is in
    keeps_session (state g.S.Store c.args.book.now).now (c.rests.ensures.book told.0.0 told.0.1)
    c.args.row.now (subst (λ (r : RowFacts). r.input < 2 ^ 64) view input)
    (subst (λ (r : RowFacts). r.output < 2 ^ 64) view output)
    (subst (λ (r : RowFacts). r.seconds < 2 ^ 64) view seconds)
    (subst (λ (r : RowFacts). r.first < 2 ^ 64) view first)
    (subst (λ (r : RowFacts). r.last < 2 ^ 64) view last)
    (subst (λ (r : RowFacts). r.cause < 2 ^ 64) view cause) kept
