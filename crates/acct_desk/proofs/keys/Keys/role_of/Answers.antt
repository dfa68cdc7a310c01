use Rattle.std.proofs.Common.{◌≡◌, ◌-◌, Some, get_or, sym, ◌∙◌, ap, arith}
use Rattle.std.specs.Prelude.{option_map}
use Rattle.acct_desk.specs.declared.keys.DeskKey.{DeskKey}
use Rattle.acct_desk.specs.Keys.{has_token}
use Rattle.acct_desk.proofs.KeyLemmas.{stands_at, none_stands}
use Rattle.acct_desk.proofs.keys.Keys.role_of.Goals as goal

pub index-requires : goal.index-requires
index-requires c =
    let token = c.args.token.now in
    let place = sym (c.in-Some.ensures.value ∙ c.self.invariant.placed token) in
    let at = stands_at (has_token token) 0 c.self.inside.list.items c.in-Some.place.now place in
    let within = at.within in
    omega arith

pub returns-in-Some : goal.returns-in-Some
returns-in-Some c =
    let token = c.args.token.now in
    let keys = c.self.inside.list.items in
    let place = sym (c.in-Some.ensures.value ∙ c.self.invariant.placed token) in
    let at = stands_at (has_token token) 0 keys c.in-Some.place.now place in
    let role = ap (option_map (λ (key : DeskKey). key.role)) (at.is c.index.result.now) in
    let here : c.in-Some.place.now - 0 ≡ c.in-Some.place.now = omega arith in
    let item = ap (λ n. get_or keys n c.index.result.now) here ∙ sym c.index.ensures in
    rw (← c.self.view_is) (sym (role ∙ ap (λ (key : DeskKey). Some key.role) item))

pub returns-in-None : goal.returns-in-None
returns-in-None c =
    let token = c.args.token.now in
    let place = sym (c.in-None.ensures.value ∙ c.self.invariant.placed token) in
    let none = none_stands (has_token token) 0 c.self.inside.list.items place in
    rw (← c.self.view_is) (sym (ap (option_map (λ (key : DeskKey). key.role)) none))
