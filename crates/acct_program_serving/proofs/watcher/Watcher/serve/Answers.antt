use Rattle.std.proofs.Common.{◌∙◌, ap, sym}
use Rattle.acct_program_serving.proofs.HandedOn.{ends_so}
use Rattle.acct_program_serving.proofs.watcher.Watcher.serve.Goals as goal

pub returns : goal.returns
returns g c =
    let begun = c.new-watched.ensures in
    let same = c.into_parts-exchange.ensures.exchange ∙ c.finish.ensures.exchange in
    ends_so _ _ _ _ _ _ _ _ _ _ _ _ _ (record {
      turns = sym begun.turns;
      failures = sym begun.failures;
      told = sym begun.told;
    }) (record {
      turns = ap g.X.Exchange.turn_count same;
      failures = ap g.X.Exchange.failure_count same;
      told = ap g.X.Exchange.told same;
    }) _ _ _ c.serve_exchange-ended.ensures
