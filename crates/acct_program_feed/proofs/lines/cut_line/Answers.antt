use Rattle.acct_program_feed.proofs.Cut.{cut_behind, no_cut}
use Rattle.acct_program_feed.proofs.lines.cut_line.Goals as goal

pub returns-in-Some-clause-cut : goal.returns-in-Some-clause-cut
returns-in-Some-clause-cut c = cut_behind c.args.octets.now c.in-Some.end c.in-Some.ensures

pub returns-in-None-clause-cut : goal.returns-in-None-clause-cut
returns-in-None-clause-cut c = no_cut c.args.octets.now c.in-None.ensures
