use Rattle.std.proofs.Common.{◌≡◌, map, drop}
use Rattle.std.specs.List.{position_from}
use Rattle.toml.specs.View.{view}
use Rattle.acct_site_config.specs.StampTables.{is_stamped, first_stamped}
use Rattle.acct_site_config.proofs.stamp_tables.first_stamped.Given as goal

-- the first one is the first of those that are left
abbrev pub invariant-loop-index : goal.invariant-loop-index
invariant-loop-index l =
    position_from is_stamped l.index (drop l.index (map view l.tables))
    ≡ first_stamped (map view l.tables)
