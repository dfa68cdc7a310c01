use Rattle.std.proofs.Common.{take, map}
use Rattle.toml.specs.View.{view}
use Rattle.acct_site_config.proofs.entries.entries_of.Given as goal

abbrev pub invariant-loop-index : goal.invariant-loop-index
invariant-loop-index g l =
    g.L.Entries.are_spelled (take l.index (map view l.tables)) l.entries
