use Rattle.std.proofs.Common.{true, false, sym, ◌∙◌, ap}
use Rattle.std.specs.Prelude.{is_some}
use Rattle.acct_desk.specs.Keys.{is_token_text}
use Rattle.acct_desk.specs.KeyFaults.{place_at}
use Rattle.acct_desk.proofs.KeyLemmas.{no_fault, twice_keyed, is_among}
use Rattle.acct_desk.proofs.keys.Keys.fault_after.Goals as goal

pub returns-then-contains_key : goal.returns-then-contains_key
returns-then-contains_key c =
    let key = c.args.key.now in
    let keys = c.self.inside.list.items in
    let places = c.self.inside.places in
    let token = ap is_token_text (sym c.as_str-token.ensures) ∙ sym c.is_token.ensures
    ∙ c.if-not-is_token.false in
    let text = c.as_bytes.ensures.value ∙ c.as_str-token.ensures in
    let found = ap (λ octets. is_some (place_at places octets)) (sym text)
    ∙ sym c.contains_key.ensures ∙ c.if-contains_key.true in
    let among = is_among places keys key.token true c.self.invariant.placed found in
    rw (← c.self.view_is) (sym (twice_keyed keys key token among))

pub returns : goal.returns
returns c =
    let key = c.args.key.now in
    let keys = c.self.inside.list.items in
    let places = c.self.inside.places in
    let token = ap is_token_text (sym c.as_str-token.ensures) ∙ sym c.is_token.ensures
    ∙ c.if-not-is_token.false in
    let text = c.as_bytes.ensures.value ∙ c.as_str-token.ensures in
    let absent = ap (λ octets. is_some (place_at places octets)) (sym text)
    ∙ sym c.contains_key.ensures ∙ c.if-contains_key.false in
    let among = is_among places keys key.token false c.self.invariant.placed absent in
    rw (← c.self.view_is) (sym (no_fault keys key token among))
