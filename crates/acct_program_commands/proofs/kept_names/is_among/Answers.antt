use Rattle.std.proofs.Common.{rules, arith, ◌∙◌, sym, subst, true≢false}
use Rattle.std.specs.Prelude.{All}
use Rattle.std.proofs.lemmas.List.{take_all}
use Rattle.std.proofs.lemmas.List.Elements.{All-contains}
use Rattle.acct_program_commands.specs.KeptNames.{LeadsToOne}
use Rattle.acct_program_commands.proofs.Elements.{all_more}
use Rattle.acct_program_commands.proofs.kept_names.is_among.Goals as goal

pub returns-then-lead_to_one : goal.returns-then-lead_to_one
returns-then-lead_to_one c = (
  λ _. (
    c.other-item.result,
    (c.loop-other.other-index, c.loop-other-test.true, sym c.other-item.is),
    c.lead_to_one.ensures.0 c.if-lead_to_one.true,
  ),
  λ _. search rules,
)

pub loop-other-preserved : goal.loop-other-preserved
loop-other-preserved c =
    all_more (λ other. ¬ LeadsToOne c.args.place.now other) c.args.others.now
    c.loop-other.other-index c.other-item.result c.loop-other-test.true c.other-item.is
    c.loop-other.invariant
    (λ same. true≢false (sym (c.lead_to_one.ensures.1 same) ∙ c.if-lead_to_one.false))

pub returns : goal.returns
returns c = (
  λ never. absurd (true≢false (sym never)),
  λ there.
      let none = subst (All (λ other. ¬ LeadsToOne c.args.place.now other))
      (take_all c.loop-other.other-index c.args.others.now
      (omega (arith, c.loop-other-test.false))) c.loop-other.invariant in
      absurd (All-contains (λ other. ¬ LeadsToOne c.args.place.now other) c.args.others.now there.0
      none there.1 there.2),
)
