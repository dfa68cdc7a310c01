use Rattle.acct_program_feed.proofs.Replies.{reply_fits}
use Rattle.acct_program_feed.proofs.script_server.Server.answer.Goals as goal

pub returns-clause-fits : goal.returns-clause-fits
returns-clause-fits g c = reply_fits _ _ c.answer.result c.answer.ensures.written
