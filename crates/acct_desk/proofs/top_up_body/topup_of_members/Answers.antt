use Rattle.std.proofs.Common.{rules}
use Rattle.acct_desk.proofs.top_up_body.topup_of_members.Goals as goal

-- Each search is kept short: it finds these, and fails soon on a body that breaks one.
pub returns-clause-ok : goal.returns-clause-ok
returns-clause-ok c = search rules fits 100

pub returns-clause-bad : goal.returns-clause-bad
returns-clause-bad c = search rules fits 100
