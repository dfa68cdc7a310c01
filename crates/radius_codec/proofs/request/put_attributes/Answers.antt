use Rattle.std.proofs.Common.{arith}
use Rattle.std.proofs.lemmas.Grind.{common_steps}
use Rattle.radius_codec.proofs.States.{AttributesLeft_step, pairs-drop_more}
use Rattle.radius_codec.proofs.request.put_attributes.Goals as goal

pub loop-kind-preserved : goal.loop-kind-preserved
loop-kind-preserved c =
    AttributesLeft_step c.args.out.now c.loop-kind.out c.put_attribute-end.new.out c.loop-kind.end
    c.put_attribute-end.result _ _ _ _
    c.loop-kind.invariant
    (pairs-drop_more c.args.attributes.now c.loop-kind.kind-index _ c.loop-kind-test.true)
    c.put_attribute-end.array_long c.put_attribute-end.ensures.end
    c.put_attribute-end.ensures.octets

pub put_attribute-end-requires-clause-short : goal.put_attribute-end-requires-clause-short
put_attribute-end-requires-clause-short c = grind (arith, common_steps)

pub put_attribute-end-requires-clause-room : goal.put_attribute-end-requires-clause-room
put_attribute-end-requires-clause-room c = grind (arith, common_steps)

pub returns-clause-octets : goal.returns-clause-octets
returns-clause-octets c = grind (arith, common_steps)

pub returns-clause-end : goal.returns-clause-end
returns-clause-end c = grind (arith, common_steps)
