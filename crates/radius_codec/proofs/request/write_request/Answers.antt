use Rattle.std.proofs.Common.{◌≡◌, length, ◌+◌, ◌++◌, drop, take, arith, ◌∙◌, ap, sym, rules, subst}
use Rattle.std.proofs.Common.{append_assoc}
use Rattle.std.proofs.lemmas.List.{drop_at, length-take-le}
use Rattle.radius_codec.specs.Attributes.{spellings, pairs, Fits}
use Rattle.radius_codec.specs.Packet.{request_octets, request_place, IsSigned, IsRequestOf}
use Rattle.radius_codec.proofs.Sealing.{sealed_in, take-sealed, HasDigest-sealed}
use Rattle.radius_codec.proofs.Sealing.{IsRequestOf-request}
use Rattle.radius_codec.proofs.request.write_request.Goals as goal

pub returns-clause-written : goal.returns-clause-written
returns-clause-written c =
    let size : length c.args.out.now ≡ 4096 = search rules in
    let octets = spellings (pairs c.args.attributes.now) in
    let end = c.put_attributes-end.result in
    let first = take 20 c.args.out.now in
    let long : length first ≡ 20 = length-take-le 20 c.args.out.now (omega (arith, size)) in
    let stands : drop 20 c.put_attributes-end.new.out ≡ octets ++ drop end c.args.out.now =
    ap (drop 20) (c.put_attributes-end.ensures.octets
    ∙ append_assoc first octets (drop end c.args.out.now))
    ∙ drop_at first (octets ++ drop end c.args.out.now) 20 long in
    sealed_in 4 c.args.identifier end request_place octets c.args.secret.now c.args.out.now _ _
    (drop end c.args.out.now) c.put_attributes-end.ensures.end stands c.seal.ensures

front : (c : goal.After-seal)
    → take c.put_attributes-end.result c.seal.new.out
    ≡ request_octets c.args.identifier (spellings (pairs c.args.attributes.now)) c.args.secret.now
front c =
    let octets = spellings (pairs c.args.attributes.now) in
    ap (λ n. take n c.seal.new.out) c.put_attributes-end.ensures.end
    ∙ ap (take (20 + length octets)) (returns-clause-written c)
    ∙ take-sealed 4 c.args.identifier request_place octets c.args.secret.now
    (drop c.put_attributes-end.result c.args.out.now)

pub returns-clause-signed : goal.returns-clause-signed
returns-clause-signed c =
    subst (λ xs. IsSigned xs c.args.secret.now) (sym (front c))
    (HasDigest-sealed 4 c.args.identifier request_place
    (spellings (pairs c.args.attributes.now)) c.args.secret.now)

pub returns-clause-read : goal.returns-clause-read
returns-clause-read c behind =
    let fits : Fits (pairs c.args.attributes.now) = search rules in
    subst (λ xs. IsRequestOf (xs ++ behind) c.args.identifier (pairs c.args.attributes.now))
    (sym (front c)) (IsRequestOf-request c.args.identifier
    (pairs c.args.attributes.now) c.args.secret.now behind fits)
