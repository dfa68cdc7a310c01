use Rattle.std.proofs.Common.{◌≡◌, ◌⊎◌, inl, inr, true, false, ℕ, Bool, List, [], ◌∷◌, ◌++◌}
use Rattle.std.proofs.Common.{refl, sym, ◌∙◌, ap, append_assoc, length, Option, Some, None, arith}
use Rattle.std.proofs.Common.{Result, Ok, Err}
use Rattle.std.proofs.lemmas.List.{append_cancel_right, length_push}
use Rattle.std.specs.Prelude.{IfOk, IfSome, IsOkAnd}
use Rattle.std.specs.Io.KnownBytes.{Consumes}
use Rattle.acct_desk.specs.Reading.{IsSettled, EndsReading}
use Rattle.acct_service.specs.declared.exchange.Fault.{Fault}
use Rattle.acct_net_callers.specs.Transfer.{IsRequestOf}
use Rattle.acct_net_callers.proofs.request_buffer.RequestBuffer.whole_request.Goals as goal

-- what is at the end of the octets of a caller that sends no more
at_end : (request left : List ℕ) → EndsReading request (Some left)
    → IsSettled request ⊎ (length request ≡ 12288) ⊎ ((left ≡ []) × (true ≡ true))
at_end request left (inl settled) = inl settled
at_end request left (inr (inl long)) = inr (inl long)
at_end request left (inr (inr last)) = inr (inr (last, refl))

-- if one more octet is expected the end is not reached
before_end : (request left : List ℕ) → EndsReading request (Some (left ++ 0 ∷ []))
    → IsSettled request ⊎ (length request ≡ 12288) ⊎ ((left ≡ []) × (false ≡ true))
before_end request left (inl settled) = inl settled
before_end request left (inr (inl long)) = inr (inl long)
before_end request left (inr (inr last)) =
    let none : length (left ++ 0 ∷ []) ≡ 0 = ap length last in
    absurd (omega (arith, length_push left 0, none))

module _ {B E : Type 0} (items : B → List ℕ) where
  -- of a caller that sends no more
  ended : (read : Result B E) (outcome : Result (Option (List ℕ)) Fault)
      (received octets left : List ℕ) (has_ended : Bool) → octets ≡ received → has_ended ≡ true
      → IfOk outcome (λ outcome. IfSome outcome (λ request. IsOkAnd read (λ r. request ≡ items r)))
      → IfOk read (λ r. Consumes (Some octets) (Some left) (items r))
      → IfOk read (λ r. EndsReading (items r) (Some left))
      → IfOk outcome (λ outcome. IfSome outcome (IsRequestOf received has_ended))
  ended read (Err fault) received octets left has_ended is end gives first ends = gives
  ended read (Ok None) received octets left has_ended is end gives first ends = gives
  ended (Err e) (Ok (Some request)) received octets left has_ended is end gives first ends =
      absurd gives
  ended (Ok r) (Ok (Some request)) received octets left has_ended is end gives first ends =
      rw gives (rw (sym is) (rw end record {
        rest = left;
        first = first;
        ends = at_end (items r) left ends;
      }))

  -- of a caller that may send more
  unended : (read : Result B E) (outcome : Result (Option (List ℕ)) Fault)
      (received octets left : List ℕ) (has_ended : Bool) → octets ≡ received → has_ended ≡ false
      → IfOk outcome (λ outcome. IfSome outcome (λ request. IsOkAnd read (λ r. request ≡ items r)))
      → IfOk read (λ r. Consumes (Some (octets ++ 0 ∷ [])) (Some (left ++ 0 ∷ [])) (items r))
      → IfOk read (λ r. EndsReading (items r) (Some (left ++ 0 ∷ [])))
      → IfOk outcome (λ outcome. IfSome outcome (IsRequestOf received has_ended))
  unended read (Err fault) received octets left has_ended is end gives first ends = gives
  unended read (Ok None) received octets left has_ended is end gives first ends = gives
  unended (Err e) (Ok (Some request)) received octets left has_ended is end gives first ends =
      absurd gives
  unended (Ok r) (Ok (Some request)) received octets left has_ended is end gives first ends =
      rw gives (rw (sym is) (rw end record {
        rest = left;
        first = append_cancel_right octets (items r ++ left) (0 ∷ [])
            (first ∙ sym (append_assoc (items r) left (0 ∷ [])));
        ends = before_end (items r) left ends;
      }))

pub returns-then-self : goal.returns-then-self
returns-then-self c = ended (λ v. v.items) c.read_request.result c.outcome_of.result
    c.args.self.now.octets.items c.as_slice-octets.result.now c.read_request.new.reader.now
    c.args.self.now.has_ended c.as_slice-octets.ensures.value c.if-self.true
    c.outcome_of.ensures c.read_request.ensures.prefix c.read_request.ensures.ends

pub returns : goal.returns
returns c = unended (λ v. v.items) c.read_request-2.result c.outcome_of-2.result
    c.args.self.now.octets.items c.as_slice-octets.result.now
    c.read_request-2.new.reader.octets.now
    c.args.self.now.has_ended c.as_slice-octets.ensures.value c.if-self.false
    c.outcome_of-2.ensures c.read_request-2.ensures.prefix c.read_request-2.ensures.ends
