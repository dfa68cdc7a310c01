use Rattle.std.proofs.Common.{◌≤◌, min, length, refl, arith}
use Rattle.std.proofs.lemmas.Bool.Decides.{nat_tests}
use Rattle.acct_desk.proofs.FramingLemmas.{extent_at_front, extent_without_front}
use Rattle.acct_desk.proofs.framing.extent.Goals as goal

pub returns-in-Some : goal.returns-in-Some
returns-in-Some c =
    let small : min (length c.args.bytes.now) 8192 ≤ 8192 = omega arith in
    extent_at_front _ c.args.bytes.now c.front_of-front.result.now c.head_of.new.headers
    c.in-Some.spans _
    c.front_of-front.ensures small c.in-Some.ensures.some c.reach_by_fields.ensures.reach

pub returns-in-None : goal.returns-in-None
returns-in-None c =
    extent_without_front _ c.args.bytes.now c.front_of-front.result.now _ c.front_of-front.ensures
    refl
    c.in-None.ensures.none (grind (arith, nat_tests))

pub returns-in-None-2 : goal.returns-in-None-2
returns-in-None-2 c =
    extent_without_front _ c.args.bytes.now c.front_of-front.result.now _ c.front_of-front.ensures
    refl
    c.in-None-2.ensures.none (grind (arith, nat_tests))
