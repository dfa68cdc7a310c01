use Rattle.std.proofs.Common.{arith}
use Rattle.std.proofs.lemmas.Grind.{common_steps}
use Rattle.std.proofs.Common.{◌≡◌, rules}
use Rattle.radius_codec.proofs.States.{Fits-proxy_states, StatesLeft_start, StatesLeft_step}
use Rattle.radius_codec.proofs.response.put_proxy_states.Goals as goal

pub loop-kind-init : goal.loop-kind-init
loop-kind-init c =
    let same : c.into_iter-kind-iterator.result ≡ c.args.attributes.now = search rules in (
      tt,
      tt,
      StatesLeft_start c.args.out.now c.args.attributes.now _ same
          c.iter-kind-items.ensures.fits (search rules),
    )

pub loop-kind-preserved-then-kind-eq-PROXY_STATE : goal.loop-kind-preserved-then-kind-eq-PROXY_STATE
loop-kind-preserved-then-kind-eq-PROXY_STATE c = (
  tt,
  tt,
  StatesLeft_step c.args.out.now c.loop-kind.out c.put_attribute-end.new.out c.loop-kind.end
      c.put_attribute-end.result
      (c.in-Some.kind, c.in-Some.value.now) c.loop-kind.kind-iterator c.next.new.self
      c.args.attributes.now
      (c.loop-kind.invariant.2)
      (c.in-Some.ensures.steps) c.if-kind-eq-PROXY_STATE.true c.put_attribute-end.array_long
      c.put_attribute-end.ensures.end c.put_attribute-end.ensures.octets,
)

pub returns-clause-fits : goal.returns-clause-fits
returns-clause-fits c = Fits-proxy_states c.args.attributes.now c.iter-kind-items.ensures.fits

pub put_attribute-end-requires-clause-room : goal.put_attribute-end-requires-clause-room
put_attribute-end-requires-clause-room c = grind (arith, common_steps)

pub returns-clause-octets : goal.returns-clause-octets
returns-clause-octets c = grind (arith, common_steps)
