use Rattle.std.proofs.Common.{◌≡◌, length, ◌+◌, ◌-◌, ◌++◌, drop, take, arith, ◌∙◌, ap, sym, refl}
use Rattle.std.proofs.Common.{rules, subst}
use Rattle.radius_codec.specs.Packet.{request_place, IsSigned}
use Rattle.radius_codec.proofs.Sealing.{drop-put_mid_from, sealed_in, take-sealed, HasDigest-sealed}
use Rattle.radius_codec.proofs.request.sign_request.Goals as goal

pub returns-clause-written : goal.returns-clause-written
returns-clause-written c =
    let size : length c.args.out.now ≡ 4096 = search rules in
    let end = 20 + length c.args.octets.now in
    let stands = drop-put_mid_from 20 (end - 20) end c.args.out.now c.copy_from_slice.new.self
    (omega arith) (omega arith)
    ∙ ap (λ xs. xs ++ drop end c.args.out.now) c.copy_from_slice.ensures.after in
    sealed_in 4 c.args.identifier end request_place c.args.octets.now c.args.secret.now
    c.args.out.now _ _ (drop end c.args.out.now) refl stands c.seal.ensures

pub returns-clause-signed : goal.returns-clause-signed
returns-clause-signed c =
    let front = ap (take (20 + length c.args.octets.now)) (returns-clause-written c)
    ∙ take-sealed 4 c.args.identifier request_place c.args.octets.now c.args.secret.now
    (drop (20 + length c.args.octets.now) c.args.out.now) in
    subst (λ xs. IsSigned xs c.args.secret.now) (sym front)
    (HasDigest-sealed 4 c.args.identifier request_place c.args.octets.now c.args.secret.now)
