use Rattle.std.proofs.Common.{refl, rules}
use Rattle.acct_net.proofs.PlaceLemmas.{found}
use Rattle.acct_net.proofs.desk.Desk.answer.Goals as goal

pub returns-clause-answered : goal.returns-clause-answered
returns-clause-answered g c = record {
  place = c.in-At.place;
  has_place = search rules;
  before = c.in_ok-caller.caller;
  was = found (λ m. m.now) c.get_mut.result c.in_ok-slot.slot c.take.result c.in_ok-caller.caller
      c.args.self.now.places.items c.in-At.place c.in_ok-slot.ensures.ok_part
      c.get_mut.ensures.item.3 c.take.ensures.value c.in_ok-caller.ensures.ok_part;
  after = c.answer.new.self;
  others = refl;
  writes = c.in_ok-answer.ensures.writes;
}
