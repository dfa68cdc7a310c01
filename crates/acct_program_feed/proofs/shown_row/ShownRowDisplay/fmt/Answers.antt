use Rattle.std.proofs.Common.{rules}
use Rattle.std.proofs.Output.{has_written_append}
use Rattle.acct_program_feed.proofs.shown_row.ShownRowDisplay.fmt.Goals as goal

pub returns-clause-writes : goal.returns-clause-writes
returns-clause-writes g c = λ plain ok.
    let names = c.in_ok-write_names.ensures plain (search rules) in
    let octets = c.in_ok-write_octets.ensures names.plain (search rules) in
    has_written_append _ _ _ _ _ _ (has_written_append _ _ _ _ _ _ names octets)
    (c.write_end.ensures octets.plain ok)
