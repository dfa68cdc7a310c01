use Rattle.std.proofs.Common.{◌≡◌, ◌∙◌, ◌&&◌, ap, refl, rules, Bool, true, false, List, [], ◌∷◌}
use Rattle.std.proofs.Common.{◌++◌}
use Rattle.std.proofs.lemmas.Result.{IfOk-weaker}
use Rattle.std.specs.Borrow.{Bor}
use Rattle.std.specs.Prelude.{ℕ}
use Rattle.clap.specs.Adds.{AddsRequirements}
use Rattle.clap.specs.Walk.{is_empty, rule_of}
use Rattle.clap.specs.declared.builder.arg.Arg.{Arg}
use Rattle.clap.specs.declared.builder.arg.ArgPredicate.{ArgPredicate}
use Rattle.acct_program_args.specs.CommandLine.{tied}
use Rattle.acct_program_args.proofs.args.needing.Goals as goal

-- a list with an item at its end is not empty
not_empty : {X : Type 0} (xs : List X) (x : X) → is_empty (xs ++ x ∷ []) ≡ false
not_empty [] x = refl
not_empty (y ∷ ys) x = search rules

-- an option with a rule on another one is not free
unfree : (a b c rest : Bool) → c ≡ false → (a && (b && (c && rest))) ≡ false
unfree true true c rest e = rw e refl
unfree true false c rest e = refl
unfree false b c rest e = refl

ties : (old new : Arg) (need : ArgPredicate × Bor (List ℕ)) → AddsRequirements old new (need ∷ [])
    → rule_of new ≡ tied (rule_of old)
ties old new need adds =
    ap rule_of adds.0 ∙ ap (λ free. record (rule_of old) { is_free = free })
    (unfree _ _ _ _ (ap is_empty adds.1 ∙ not_empty old.needs.items need))

pub returns-clause-rule : goal.returns-clause-rule
returns-clause-rule c =
    IfOk-weaker c.requires_arg.result _ _ (λ r h. ties c.args.option r _ h) c.requires_arg.ensures
