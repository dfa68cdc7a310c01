use Rattle.std.proofs.Common.{rules, take, ap, ◌∙◌}
use Rattle.std.proofs.lemmas.Fn.{filter_same}
use Rattle.acct_book_forward.specs.inner.Forwarding.{goes}
use Rattle.acct_book_forward.proofs.forwarding.batch_of.Goals as goal

pub returns : goal.returns
returns c = (
  c.fitting-count.result,
  c.truncate.ensures.items ∙ ap (take c.fitting-count.result)
      (filter_same _ (goes c.args.selection.now c.args.class.now) _
      (λ x b f' k. search rules) _ _ c.retain.ensures.filtered),
)
