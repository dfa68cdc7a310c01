use Rattle.std.proofs.Common.{◌≡◌, ◌∙◌, ap, sym, map, rules}
use Rattle.std.specs.BTreeSet.{insert_key}
use Rattle.acct_book.specs.Maps.{octets_cmp}
use Rattle.acct_desk_pages.proofs.Stations.{map-insert_key, with_other, without_other, octets_of}
use Rattle.acct_desk_pages.proofs.Stations.{on_ok}
use Rattle.acct_desk_pages.proofs.login.add_station.Goals as goal

pub returns-then-not-is_other : goal.returns-then-not-is_other
returns-then-not-is_other c =
    sym (without_other c.args.heard.now (map octets_of c.args.stations.now.keys) c.args.row.now
    (sym c.is_other.ensures ∙ c.if-not-is_other.true))

pub returns : goal.returns
returns c =
    let keys = c.args.stations.now.keys in
    let station = c.in_ok-station.station in
    let counts = sym c.is_other.ensures ∙ c.if-not-is_other.false in
    let set = on_ok c.insert.result _ (sym c.is_err.ensures.value ∙ c.if-is_err.false)
    c.insert.ensures.keys in
    let same : station.items ≡ c.args.row.now.calling = search rules in
    ap (map octets_of) set ∙ map-insert_key keys station
    ∙ ap (insert_key octets_cmp (map octets_of keys)) same
    ∙ sym (with_other c.args.heard.now (map octets_of keys) c.args.row.now counts)
