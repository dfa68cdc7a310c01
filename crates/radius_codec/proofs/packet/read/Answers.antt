use Rattle.radius_codec.proofs.Fronts.{Framed-front}
use Rattle.radius_codec.proofs.Spelling.{Spells_one, Spells-framed}
use Rattle.radius_codec.proofs.packet.read.Goals as goal

pub returns-in-Some-clause-only : goal.returns-in-Some-clause-only
returns-in-Some-clause-only c code identifier authenticator attributes framed =
    let packet = c.in-Some.packet in
    let here = Framed-front c.args.bytes.now c.in_ok-of.field-0 packet.code packet.id
    packet.authenticator packet.attributes c.in_ok-of.ensures.found c.in_ok-of.ensures.octets
    c.in-Some.ensures.packet in
    Spells_one _ attributes packet.attributes
    (Spells-framed c.args.bytes.now code identifier authenticator attributes framed)
    (Spells-framed c.args.bytes.now packet.code packet.id packet.authenticator packet.attributes
    here)
