use Rattle.std.proofs.Common.{refl}
use Rattle.radius_codec.proofs.Spelling.{front_attribute}
use Rattle.radius_codec.proofs.attributes.split_attribute.Goals as goal

pub returns-clause-found : goal.returns-clause-found
returns-clause-found c =
    front_attribute c.args.octets.now _ refl c.if-size-lt-ATTRIBUTE_HEADER.false
    c.if-octets-size.false
