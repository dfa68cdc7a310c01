use Rattle.std.proofs.Common.{rules, ◌≡◌}
use Rattle.acct_model.proofs.FirstValues.{FirstsLeft_start}
use Rattle.acct_model.proofs.first_values.FirstValues.of.Goals as goal

pub loop-kind-init : goal.loop-kind-init
loop-kind-init c =
    let same : c.into_iter-kind-iterator.result ≡ c.args.attributes.now = search rules in (
      tt,
      tt,
      FirstsLeft_start c.args.values.now c.into_iter-kind-iterator.result
          c.args.attributes.now c.requires same,
    )
