use Rattle.acct_model.proofs.Escapes.{decoded-shown}
use Rattle.acct_model.proofs.laws.shown_reads_back.Goals as goal

pub returns : goal.returns
returns c = decoded-shown
