use Rattle.std.proofs.Common.{◌∙◌}
use Rattle.acct_program_commands.specs.Rounds.{file_of}
use Rattle.acct_program_commands.proofs.Placed.{keeps_known, keeps_some}
use Rattle.acct_program_commands.proofs.file_rounds.FileRoundsRounds.go_round.Goals as goal

pub returns-clause-goes : goal.returns-clause-goes
returns-clause-goes g c = record {
  moment = c.moment-moment.result;
  reads = rw c.take_polled.ensures.unread c.moment-moment.ensures.read;
  keeps = keeps_some g.R.ReplacesFiles.was_put
      (g.B.Book.content c.args.book.now) (g.B.Book.is_open c.keep_at.new.book)
      c.moment-moment.result (file_of c.args.self.now.balances) (file_of c.keep_at.new.balances)
      c.keep_at.ensures.keeps;
  looks = c.look_at.ensures;
  same = c.take_polled.ensures.same ∙ c.moment-moment.ensures.same;
  takes = rw (c.moment-moment.ensures.unpolled, c.moment-moment.ensures.same)
      at c.take_polled.ensures.takes;
}

pub returns-clause-shows : goal.returns-clause-shows
returns-clause-shows g c = λ opened. record {
  moment = c.moment-moment.result;
  reads = rw c.take_polled.ensures.unread c.moment-moment.ensures.read;
  keeps = keeps_known g.R.ReplacesFiles.was_put
      (g.B.Book.content c.args.book.now) (g.B.Book.is_open c.keep_at.new.book)
      c.moment-moment.result (file_of c.args.self.now.balances) (file_of c.keep_at.new.balances)
      c.keep_at.ensures.keeps opened;
  looks = c.look_at.ensures;
  same = c.take_polled.ensures.same ∙ c.moment-moment.ensures.same;
  takes = rw (c.moment-moment.ensures.unpolled, c.moment-moment.ensures.same)
      at c.take_polled.ensures.takes;
}
