use Rattle.std.proofs.Common.{◌≡◌, map, take}
use Rattle.std.specs.List.{filter_map}
use Rattle.toml.specs.View.{view}
use Rattle.acct_site_config.specs.StampTables.{stamped_in}
use Rattle.acct_site_config.proofs.stamp_tables.stamped_in.Given as goal

-- the clients are those of the tables so far
abbrev pub invariant-loop-table : goal.invariant-loop-table
invariant-loop-table l =
    l.clients.items ≡ filter_map stamped_in (take l.table-index (map view l.tables))
