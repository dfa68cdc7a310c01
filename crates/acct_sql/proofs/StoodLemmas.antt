-- The content of a migrated book stands for the history that the older one stood for.
use Rattle.std.proofs.Common.{◌≡◌, List, [], ◌∷◌, Bool, Option, None, Some, option_map, refl, sym}
use Rattle.std.proofs.Common.{ap}
use Rattle.std.proofs.Common.{◌∙◌}
use Rattle.sqlite.specs.Tree.{Trees}
use Rattle.acct_model.specs.declared.plan.Plan.{Plan}
use Rattle.acct_model.specs.Report.{ReportFacts}
use Rattle.acct_model.specs.Agreement.{AddsForNone}
use Rattle.acct_model.specs.History.{Accepted, PlansAdded, History, plan_of, reports, first_of}
use Rattle.acct_model.proofs.Kept.{plan_by, plan-frozen}
use Rattle.acct_book.specs.declared.key.Key.{Key}
use Rattle.acct_book.specs.Charge.{class_of_plan}
use Rattle.acct_book.specs.Rows.{name_of, is_restarted, row_from}
use Rattle.acct_book.specs.Stands.{Stands}
use Rattle.acct_sql_tables.specs.Content.{content_without_plans, without_plan}
use Rattle.acct_sql_tables.specs.Migrate.{AddsNoPlans, StoodFor, migrated, with_own_plan}

adds_for_none : (history : History) → AddsNoPlans history → AddsForNone history
adds_for_none [] none = none
adds_for_none (Accepted next ∷ older) none = adds_for_none older none
adds_for_none (PlansAdded added ∷ older) none = absurd none

-- the row of a session without its plan, and with that of its class, is its row
own_plan : (plans : List Plan) (key : Key) (restarted : Bool) (all : List ReportFacts)
    (plan : Option Plan) (first : Option ReportFacts) → plan ≡ plan_by plans first
    → option_map (with_own_plan plans) (option_map without_plan
    (option_map (row_from plan key restarted all) first))
    ≡ option_map (row_from plan key restarted all) first
own_plan plans key restarted all plan None is = refl
own_plan plans key restarted all plan (Some first) is = λ i. Some (record
    (row_from plan key restarted all first) { plan = class_of_plan (sym is i) })

pub migrated_stands : (plans : List Plan) (db : Trees) (history : History)
    → StoodFor plans (content_without_plans db) history → Stands plans (migrated plans db) history
migrated_stands plans db history stood = record {
  rows = λ key. ap (option_map (with_own_plan plans)) (stood.rows key)
      ∙ own_plan plans key (is_restarted history key) (reports history (name_of key))
      (plan_of plans history (name_of key)) (first_of (reports history (name_of key)))
      (plan-frozen plans history (name_of key) (adds_for_none history stood.no_additions));
  balances = stood.balances;
  topups = stood.topups;
  kept = λ class. refl;
  in_range = stood.in_range;
}
