use Rattle.std.proofs.Common.{◌≡◌, length, ◌+◌, ◌++◌, drop, take, arith, ◌∙◌, ap, sym, subst, rules}
use Rattle.std.proofs.Common.{append_assoc}
use Rattle.std.proofs.lemmas.List.{drop_at, length-take-le}
use Rattle.radius_codec.specs.Attributes.{spellings}
use Rattle.radius_codec.specs.Packet.{proxy_states, reply_octets, IsReplyOf, IsSignedResponse}
use Rattle.radius_codec.proofs.Sealing.{sealed_in, take-sealed, IsReplyOf-reply, HasDigest-sealed}
use Rattle.radius_codec.proofs.response.write_response.Goals as goal

pub returns-clause-written : goal.returns-clause-written
returns-clause-written c =
    let size : length c.args.out.now ≡ 4096 = search rules in
    let states = spellings (proxy_states c.args.request.now.attributes) in
    let end = c.put_proxy_states-end.result in
    let first = take 20 c.args.out.now in
    let long : length first ≡ 20 = length-take-le 20 c.args.out.now (omega (arith, size)) in
    let stands : drop 20 c.put_proxy_states-end.new.out ≡ states ++ drop end c.args.out.now =
    ap (drop 20) (c.put_proxy_states-end.ensures.octets
    ∙ append_assoc first states (drop end c.args.out.now))
    ∙ drop_at first (states ++ drop end c.args.out.now) 20 long in
    sealed_in 5 c.args.request.now.id end c.args.request.now.authenticator states c.args.secret.now
    c.args.out.now _ _ (drop end c.args.out.now) c.put_proxy_states-end.ensures.end stands
    c.seal.ensures

front : (c : goal.After-seal)
    → take c.put_proxy_states-end.result c.seal.new.out
    ≡ reply_octets c.args.request.now.id c.args.request.now.authenticator
    c.args.request.now.attributes c.args.secret.now
front c =
    let states = spellings (proxy_states c.args.request.now.attributes) in
    ap (λ n. take n c.seal.new.out) c.put_proxy_states-end.ensures.end
    ∙ ap (take (20 + length states)) (returns-clause-written c)
    ∙ take-sealed 5 c.args.request.now.id c.args.request.now.authenticator states c.args.secret.now
    (drop c.put_proxy_states-end.result c.args.out.now)

pub returns-clause-reply : goal.returns-clause-reply
returns-clause-reply c =
    let request = c.args.request.now in
    subst (λ xs. IsReplyOf xs request.id request.attributes) (sym (front c))
    (IsReplyOf-reply request.id request.authenticator request.attributes c.args.secret.now
    c.put_proxy_states-end.ensures.fits)

pub returns-clause-signed : goal.returns-clause-signed
returns-clause-signed c =
    let request = c.args.request.now in
    let states = spellings (proxy_states request.attributes) in
    subst (λ xs. IsSignedResponse xs request.authenticator c.args.secret.now) (sym (front c))
    (HasDigest-sealed 5 request.id request.authenticator states c.args.secret.now)
