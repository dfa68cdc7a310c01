use Rattle.std.proofs.Common.{◌≤◌, min, length, refl, sym, arith}
use Rattle.std.proofs.lemmas.Result.{IfOk-weaker}
use Rattle.acct_desk.proofs.AskLemmas.{asks_at_front, asks_without_front, something_asked}
use Rattle.acct_desk.proofs.asking.ask_of_octets.Goals as goal

pub returns-in_default : goal.returns-in_default
returns-in_default c =
    let asks = asks_without_front c.args.keys.now c.args.plans.now c.args.request.now c.front_of-front.result.now
    c.args.moment _ _ c.front_of-front.ensures refl
    (c.in_default.ensures.none) (sym c.refusal_of_length.ensures) in
    record { asks = asks; some = (_, asks) }

pub returns : goal.returns
returns c =
    let small : min (length c.args.request.now) 8192 ≤ 8192 = omega arith in
    let at = asks_at_front c.args.keys.now c.args.plans.now c.args.request.now c.front_of-front.result.now
    c.args.moment _ c.head_of.new.headers c.in-Some.spans in
    record {
      asks = IfOk-weaker c.ask_of_spans.result _ _
          (λ ask is. at _ c.front_of-front.ensures small c.in-Some.ensures.some is)
          c.ask_of_spans.ensures;
      some = something_asked c.args.keys.now c.args.plans.now c.args.request.now c.front_of-front.result.now
          c.args.moment _ c.head_of.new.headers c.in-Some.spans
          c.front_of-front.ensures small c.in-Some.ensures.some;
    }
