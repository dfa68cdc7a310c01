use Rattle.std.proofs.Common.{arith}
use Rattle.std.proofs.lemmas.Grind.{common_steps}
use Rattle.acct_net_callers.proofs.caller.Caller.answer.Goals as goal

pub returns-then-is_empty-clause-writes : goal.returns-then-is_empty-clause-writes
returns-then-is_empty-clause-writes g c = grind (arith, common_steps)

pub returns-clause-writes : goal.returns-clause-writes
returns-clause-writes g c = grind (arith, common_steps)

pub returns-clause-ready : goal.returns-clause-ready
returns-clause-ready g c = grind (arith, common_steps)
