use Rattle.std.proofs.Common.{arith, subst, sym, ap, ◌∙◌}
use Rattle.sqlite.specs.Effect.{Database}
use Rattle.sqlite.specs.State.{HasCleanDisk}
use Rattle.sqlite.specs.Held.{state}
use Rattle.sqlite.specs.Given.{IsPlain}
use Rattle.sqlite.specs.Listing.{understood}
use Rattle.acct_sql_tables.specs.declared.statements.TheConstants as texts
use Rattle.acct_sql_tables.proofs.TextLemmas as t
use Rattle.acct_sql_upkeep.proofs.listing.shown_plans.Goals as goal

pub peek-requires-clause-plain : goal.peek-requires-clause-plain
peek-requires-clause-plain g c = λ clean. subst (λ s. IsPlain (understood s texts.PLANS.now))
    (sym (c.requires.has clean)) t.plan_rows.plain

pub peek-requires-2-clause-plain : goal.peek-requires-2-clause-plain
peek-requires-2-clause-plain g c = λ clean.
    let early : HasCleanDisk (state g.S.Store c.args.conn.now) = omega
    (arith, c.in_ok-prices.ensures.looks.looks.survives.clean, clean) in
    let same = c.in_ok-prices.ensures.looks.looks.same clean
    (c.in_ok-prices.ensures.looks.stays_open clean) in
    subst (λ s. IsPlain (understood s texts.PLAN_COUNTS.now))
    (sym (ap (λ (d : Database). d.schema) same ∙ c.requires.has early)) t.count_rows.plain
