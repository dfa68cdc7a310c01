use Rattle.std.proofs.Common.{option_map, ap, sym, ◌∙◌}
use Rattle.matchit.specs.Router.{RouteOf}
use Rattle.acct_desk.specs.declared.routes.Endpoint.{Endpoint}
use Rattle.acct_desk.proofs.RouteLemmas.{endpoint_of_first}
use Rattle.acct_desk.proofs.routes.endpoint_at.Goals as goal

pub returns-in-Ok : goal.returns-in-Ok
returns-in-Ok c =
    let found = rw c.requires at c.in-Ok.ensures.found in
    sym (ap (option_map (λ (r : RouteOf Endpoint). r.value)) found)
    ∙ endpoint_of_first c.args.path.now

pub returns-in-Err : goal.returns-in-Err
returns-in-Err c =
    let missing = rw c.requires at c.in-Err.ensures.missing in
    sym (ap (option_map (λ (r : RouteOf Endpoint). r.value)) missing)
    ∙ endpoint_of_first c.args.path.now
