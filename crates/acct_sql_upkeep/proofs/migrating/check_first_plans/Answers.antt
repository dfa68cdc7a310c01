use Rattle.std.proofs.Common.{rules, ◌≡◌, sym, ◌∙◌, true≢false}
use Rattle.sqlite_rules.proofs.ListLemmas.{all_has, all_from}
use Rattle.acct_model.specs.declared.plan.Plan.{Plan}
use Rattle.acct_model.specs.declared.plan.Count.TheVariants.{Both}
use Rattle.acct_sql_upkeep.proofs.migrating.check_first_plans.Goals as goal

pub returns-then-count_both-clause-plans : goal.returns-then-count_both-clause-plans
returns-then-count_both-clause-plans g c = record {
  looks = c.in_ok-check_prices.ensures.prices.looks;
  stays_open = search rules;
  holds = λ clean. record {
    prices = c.in_ok-check_prices.ensures.prices.holds clean;
    both = λ plan there. all_has (λ (plan : Plan). plan.count ≡ Both) c.args.plans.now plan
        (c.count_both.ensures.0 c.if-count_both.true) there;
  };
}

pub returns-else-count_both-clause-fault : goal.returns-else-count_both-clause-fault
returns-else-count_both-clause-fault g c clean = λ kept.
    true≢false (sym (c.count_both.ensures.1 (all_from (λ (plan : Plan). plan.count ≡ Both)
    c.args.plans.now kept.both)) ∙ c.if-count_both.false)
