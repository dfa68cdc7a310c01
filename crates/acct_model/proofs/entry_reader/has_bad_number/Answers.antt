use Rattle.std.proofs.Common.{◌≡◌, ◌∙◌, sym, ap, not, false, get_or}
use Rattle.std.specs.Prelude.{is_none}
use Rattle.acct_model.specs.Entries.{number_at, number_types}
use Rattle.acct_model.proofs.Refusals.{list_any-drop_more}
use Rattle.acct_model.proofs.entry_reader.has_bad_number.Goals as goal

pub loop-kind-preserved : goal.loop-kind-preserved
loop-kind-preserved c =
    let good : is_none (number_at
    (get_or number_types c.loop-kind.kind-index 0) c.args.attributes.now) ≡ false =
    ap is_none (sym c.number_at.ensures) ∙ ap not c.if-is_none.ensures in
    list_any-drop_more (λ kind. is_none (number_at kind c.args.attributes.now)) number_types
    c.loop-kind.kind-index 0 _ c.loop-kind-test.true good c.loop-kind.invariant
