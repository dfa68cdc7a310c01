use Rattle.std.proofs.Common.{◌∙◌, ap, sym, ℕ, List, [], take}
use Rattle.std.specs.Prelude.{fold}
use Rattle.std.proofs.lemmas.List.Sums.{fold_more}
use Rattle.acct_desk_pages.specs.Logins.{with_station}
use Rattle.acct_desk_pages.proofs.login.other_stations.Goals as goal

pub loop-row-preserved : goal.loop-row-preserved
loop-row-preserved c =
    let rows = c.args.rows.now in
    let i = c.loop-row.row-index in
    let more = fold_more (with_station c.args.heard.now) [] rows i c.row-item.result
    c.loop-row-test.true in
    c.in_ok-add_station.ensures
    ∙ ap (λ (s : List (List ℕ)). with_station c.args.heard.now s c.row-item.result)
    c.loop-row.invariant
    ∙ ap (with_station c.args.heard.now (fold (with_station c.args.heard.now) [] (take i rows)))
    c.row-item.is
    ∙ sym more
