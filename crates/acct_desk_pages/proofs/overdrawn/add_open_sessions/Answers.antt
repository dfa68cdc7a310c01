use Rattle.std.proofs.Common.{sym, ◌≡◌, ◌∙◌, ap, List, [], ◌∷◌, ◌++◌, map, take, ◌+◌}
use Rattle.std.specs.List.{filter_map}
use Rattle.serde_json.specs.Data.{Data}
use Rattle.serde_json.specs.View.{view}
use Rattle.acct_book.specs.Row.{RowFacts}
use Rattle.std.proofs.lemmas.List.{take_more, append_assoc}
use Rattle.std.proofs.lemmas.List.Elements.{filter_map-append}
use Rattle.acct_desk_pages.specs.Overdrawn.{open_in}
use Rattle.acct_desk_pages.proofs.overdrawn.add_open_sessions.Goals as goal

pub loop-row-preserved : goal.loop-row-preserved
loop-row-preserved c =
    let rows = c.args.rows.now in
    let i = c.loop-row.row-index in
    let row = c.row-item.result in
    let old = map view c.args.sessions.now.items in
    let more : take (i + 1) rows ≡ take i rows ++ row ∷ [] =
    take_more rows i row c.loop-row-test.true
    ∙ ap (λ r. take i rows ++ r ∷ []) (sym c.row-item.is) in
    c.in_ok-add_open.ensures
    ∙ ap (λ (s : List Data). s ++ filter_map open_in (row ∷ [])) c.loop-row.invariant
    ∙ append_assoc old (filter_map open_in (take i rows)) (filter_map open_in (row ∷ []))
    ∙ ap (λ s. old ++ s) (sym (filter_map-append open_in (take i rows) (row ∷ [])))
    ∙ ap (λ (rs : List RowFacts). old ++ filter_map open_in rs) (sym more)
