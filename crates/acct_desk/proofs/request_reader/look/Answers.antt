use Rattle.std.proofs.Common.{inl, refl, subst, arith}
use Rattle.acct_desk.specs.declared.framing.Reach.{Reach}
use Rattle.acct_desk.specs.Request.{IsExtent}
use Rattle.acct_desk.proofs.ReadingLemmas.{partial_stays, complete_stays, from_partial}
use Rattle.acct_desk.proofs.ReadingLemmas.{from_complete, no_head_found, too_large_settled}
use Rattle.acct_desk.proofs.ReadingLemmas.{extent_found, never_settled}
use Rattle.acct_desk.proofs.request_reader.look.Goals as goal

pub returns-in-More-clause-open : goal.returns-in-More-clause-open
returns-in-More-clause-open c =
    let head = c.in-Ok-Complete in
    let bytes = c.args.bytes.now in
    let front = c.front_of-front.result.now in
    let at = from_complete c.parse_request.result head.field-0 head.head _ head.is head.field-0-is
    c.parse_request.ensures.complete in
    let within = from_complete c.parse_request.result head.field-0 head.head _ head.is
    head.field-0-is c.parse_request.ensures.within in
    let extent = extent_found bytes front c.parse_request.new.headers head.head at.0 _
    c.front_of-front.ensures at.1 within (omega arith) c.reach_by_fields.ensures.reach in
    let P : Reach → Type 0 = IsExtent bytes in
    complete_stays _ bytes front c.parse_request.new.headers head.head at.0
    c.front_of-front.ensures (subst P c.in-More.is extent) at.1 (omega arith) c.end_of.ensures

pub returns-in_default : goal.returns-in_default
returns-in_default c =
    let head = c.in-Ok-Complete in
    let at = from_complete c.parse_request.result head.field-0 head.head _ head.is head.field-0-is
    c.parse_request.ensures.complete in
    let within = from_complete c.parse_request.result head.field-0 head.head _ head.is
    head.field-0-is c.parse_request.ensures.within in
    let extent = extent_found c.args.bytes.now c.front_of-front.result.now
    c.parse_request.new.headers head.head at.0 _ c.front_of-front.ensures at.1 within (omega arith)
    c.reach_by_fields.ensures.reach in
    record {
      settled = inl (c.reach_by_fields.result, extent, c.in_default.not-More);
      «open» = tt;
    }

pub returns-in-Ok-Partial-clause-open : goal.returns-in-Ok-Partial-clause-open
returns-in-Ok-Partial-clause-open c =
    let none = from_partial c.parse_request.result c.in-Ok-Partial.field-0 _ c.in-Ok-Partial.is
    c.in-Ok-Partial.field-0-is c.parse_request.ensures.partial in
    partial_stays _ c.args.bytes.now c.front_of-front.result.now c.front_of-front.ensures
    (omega arith) none (omega arith) refl

pub returns-in-Ok-Partial-2-clause-settled : goal.returns-in-Ok-Partial-2-clause-settled
returns-in-Ok-Partial-2-clause-settled c =
    too_large_settled c.args.bytes.now c.front_of-front.result.now c.front_of-front.ensures
    (omega arith) (no_head_found c.front_of-front.result.now c.parse_request.new.headers
    c.parse_request.result c.parse_request.ensures.found (λ spans e. cc))

pub returns-in-Err-clause-settled : goal.returns-in-Err-clause-settled
returns-in-Err-clause-settled c = never_settled c.args.bytes.now c.front_of-front.result.now
    c.front_of-front.ensures (rw c.in-Err.is at c.parse_request.ensures.no_room)
