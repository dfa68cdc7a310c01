use Rattle.std.proofs.Common.{rules, arith}
use Rattle.std.proofs.lemmas.Grind.{common_steps}
use Rattle.acct_wire.proofs.answering.request_in.Goals as goal

-- One tactic each, kept short: it finds these, and gives up soon on a body that breaks one.
pub returns-in-Some-clause-request : goal.returns-in-Some-clause-request
returns-in-Some-clause-request c = grind (arith, common_steps)

pub returns-in-None-clause-breaks : goal.returns-in-None-clause-breaks
returns-in-None-clause-breaks c = search rules fits 100
