use Rattle.std.proofs.Common.{arith, subst, sym, ap, ◌∙◌, true≢false}
use Rattle.sqlite.specs.Effect.{Database}
use Rattle.sqlite.specs.State.{HasCleanDisk}
use Rattle.sqlite.specs.Held.{state}
use Rattle.sqlite.specs.Given.{IsPlain}
use Rattle.sqlite.specs.Listing.{understood}
use Rattle.acct_sql_upkeep.specs.inner.Adding.{AnswersFit}
use Rattle.acct_sql_tables.specs.declared.statements.TheConstants as texts
use Rattle.acct_sql_upkeep.proofs.AddLemmas.{prices_told, fit_among, among_fit}
use Rattle.acct_sql_tables.proofs.TextLemmas as t
use Rattle.acct_sql_upkeep.proofs.adding.kept_prices.Goals as goal

pub peek-requires-clause-plain : goal.peek-requires-clause-plain
peek-requires-clause-plain g c = λ clean. subst (λ s. IsPlain (understood s texts.PLANS.now))
    (sym (c.requires.has clean)) t.plan_rows.plain

pub peek-requires-2-clause-plain : goal.peek-requires-2-clause-plain
peek-requires-2-clause-plain g c = λ clean.
    let early : HasCleanDisk (state g.S.Store c.args.conn.now) = omega
    (arith, c.in_ok-prices.ensures.looks.looks.survives.clean, clean) in
    let same = c.in_ok-prices.ensures.looks.looks.same clean
    (c.in_ok-prices.ensures.looks.stays_open clean) in
    subst (λ s. IsPlain (understood s texts.PLAN_COUNTS.now))
    (sym (ap (λ (d : Database). d.schema) same ∙ c.requires.has early)) t.count_rows.plain

pub returns-then-do_fit-clause-shown : goal.returns-then-do_fit-clause-shown
returns-then-do_fit-clause-shown g c clean =
    let old = state g.S.Store c.args.conn.now in
    let mid = state g.S.Store c.peek.new.conn in
    let late : HasCleanDisk mid = omega
    (arith, c.in_ok-counts.ensures.looks.looks.survives.clean, clean) in
    let early : HasCleanDisk old = omega
    (arith, c.in_ok-prices.ensures.looks.looks.survives.clean, late) in
    prices_told old mid mid (state g.S.Store c.peek-2.new.conn) c.in_ok-prices.prices.items
    c.in_ok-counts.counts.items c.args.plans.now (c.requires.has early)
    (c.in_ok-prices.ensures.looks.looks.same late (c.in_ok-prices.ensures.looks.stays_open late))
    (c.in_ok-prices.ensures.shown late) (c.in_ok-counts.ensures.shown clean)

pub returns-then-do_fit-clause-among : goal.returns-then-do_fit-clause-among
returns-then-do_fit-clause-among g c clean =
    let old = state g.S.Store c.args.conn.now in
    let mid = state g.S.Store c.peek.new.conn in
    let late : HasCleanDisk mid = omega
    (arith, c.in_ok-counts.ensures.looks.looks.survives.clean, clean) in
    let early : HasCleanDisk old = omega
    (arith, c.in_ok-prices.ensures.looks.looks.survives.clean, late) in
    let fit = rw (c.deref.ensures.value, c.deref-2.ensures.value) at
    (c.do_fit.ensures.0 c.if-do_fit.true) in
    fit_among old mid mid (state g.S.Store c.peek-2.new.conn) c.in_ok-prices.prices.items
    c.in_ok-counts.counts.items c.args.plans.now (c.requires.has early)
    (c.in_ok-prices.ensures.looks.looks.same late (c.in_ok-prices.ensures.looks.stays_open late))
    (c.in_ok-prices.ensures.shown late) (c.in_ok-counts.ensures.shown clean) fit

pub returns-else-do_fit-clause-fault : goal.returns-else-do_fit-clause-fault
returns-else-do_fit-clause-fault g c clean = λ among.
    let old = state g.S.Store c.args.conn.now in
    let mid = state g.S.Store c.peek.new.conn in
    let late : HasCleanDisk mid = omega
    (arith, c.in_ok-counts.ensures.looks.looks.survives.clean, clean) in
    let early : HasCleanDisk old = omega
    (arith, c.in_ok-prices.ensures.looks.looks.survives.clean, late) in
    let fit = among_fit old mid mid (state g.S.Store c.peek-2.new.conn)
    c.in_ok-prices.prices.items c.in_ok-counts.counts.items c.args.plans.now (c.requires.has early)
    (c.in_ok-prices.ensures.looks.looks.same late (c.in_ok-prices.ensures.looks.stays_open late))
    (c.in_ok-prices.ensures.shown late) (c.in_ok-counts.ensures.shown clean) among in
    let there : AnswersFit c.args.plans.now c.deref.result.now c.deref-2.result.now = rw
    (c.deref.ensures.value, c.deref-2.ensures.value) fit in
    true≢false (sym (c.do_fit.ensures.1 there) ∙ c.if-do_fit.false)
