use Rattle.std.proofs.Common.{rules}
use Rattle.acct_desk.proofs.asking.ask_of_spans.Goals as goal

-- The search is kept short: it finds this, and fails soon on a body that breaks it.
pub returns-in_ok-bearer-in-Whole : goal.returns-in_ok-bearer-in-Whole
returns-in_ok-bearer-in-Whole c = search rules fits 300
