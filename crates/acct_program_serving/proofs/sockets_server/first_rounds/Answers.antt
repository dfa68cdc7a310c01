use Rattle.std.proofs.Common.{◌∙◌, sym}
use Rattle.acct_program_serving.proofs.HandedOn.{kept_first}
use Rattle.acct_program_serving.proofs.sockets_server.first_rounds.Goals as goal

pub returns-clause-begins : goal.returns-clause-begins
returns-clause-begins g c = λ named same.
    let (moment, reads, keeps) = c.write_first.ensures.keeps in
    rw c.new.ensures.whole (record {
      text = c.write_first.ensures.same;
      moment = moment;
      reads = reads;
      keeps = kept_first _ named c.args.balances c.write_first.new.balances moment same keeps;
      unpolled = c.write_first.ensures.unpolled;
      names = record {
        looked = c.have_moved.ensures.looks;
        unnoted = c.have_moved.ensures.unnoted;
        here = sym c.have_moved.ensures.says ∙ c.if-have_moved.false;
      };
    })
