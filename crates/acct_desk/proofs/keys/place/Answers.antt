use Rattle.std.proofs.Common.{◌≡◌, ◌∙◌, sym, length, true, rules}
use Rattle.std.specs.Result.{is_ok}
use Rattle.acct_desk.proofs.KeyLemmas.{places-more, on_ok}
use Rattle.acct_desk.proofs.keys.place.Goals as goal

pub returns-clause-placed : goal.returns-clause-placed
returns-clause-placed c =
    let keys = c.args.list.now.items in
    let key = c.args.key in
    let place = c.len-place.result in
    let pushed : is_ok c.push.result ≡ true = search rules in
    let behind : place ≡ length keys = search rules in
    let text = c.in_ok-token.ensures ∙ c.as_bytes.ensures.value ∙ c.as_str.ensures in
    let updates = on_ok c.insert.result _ (sym c.is_err-2.ensures.value ∙ c.if-is_err-2.false)
    c.insert.ensures.updates in
    rw (c.push.ensures.items, pushed)
    (places-more c.args.places.now c.insert.new.self keys key c.in_ok-token.token.items place text
    behind c.requires.placed c.requires.new updates)
