use Rattle.std.proofs.Common.{rules, arith, ◌∙◌, sym, subst, true≢false}
use Rattle.std.specs.Prelude.{All}
use Rattle.std.proofs.lemmas.List.{take_all}
use Rattle.std.proofs.lemmas.List.Elements.{All-contains}
use Rattle.acct_program_commands.specs.KeptNames.{LeadsToSome}
use Rattle.acct_program_commands.proofs.Elements.{all_more}
use Rattle.acct_program_commands.proofs.kept_names.share_one.Goals as goal

pub returns-then-is_among : goal.returns-then-is_among
returns-then-is_among c = (
  λ _. (
    c.place-item.result,
    (c.loop-place.place-index, c.loop-place-test.true, sym c.place-item.is),
    c.is_among.ensures.0 c.if-is_among.true,
  ),
  λ _. search rules,
)

pub loop-place-preserved : goal.loop-place-preserved
loop-place-preserved c =
    all_more (λ one. ¬ LeadsToSome c.args.others.now one) c.args.places.now
    c.loop-place.place-index c.place-item.result c.loop-place-test.true c.place-item.is
    c.loop-place.invariant
    (λ same. true≢false (sym (c.is_among.ensures.1 same) ∙ c.if-is_among.false))

pub returns : goal.returns
returns c = (
  λ never. absurd (true≢false (sym never)),
  λ there.
      let none = subst (All (λ one. ¬ LeadsToSome c.args.others.now one))
      (take_all c.loop-place.place-index c.args.places.now
      (omega (arith, c.loop-place-test.false))) c.loop-place.invariant in
      absurd (All-contains (λ one. ¬ LeadsToSome c.args.others.now one) c.args.places.now there.0
      none there.1 there.2),
)
