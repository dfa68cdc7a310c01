use Rattle.acct_program_commands.proofs.Placed.{rewrites_counted}
use Rattle.acct_program_commands.proofs.file_rounds.keep_at.Goals as goal

pub returns-in-Some-clause-keeps : goal.returns-in-Some-clause-keeps
returns-in-Some-clause-keeps g c = rw c.in-Some.is (
  λ due. rewrites_counted g.R.ReplacesFiles.was_put (g.B.Book.content c.args.book.now)
      (g.B.Book.is_open c.keep.new.book) c.args.moment c.in-Some.balances.file
      c.keep.new.self.file (c.keep.ensures.due due),
  c.keep.ensures.idle,
)
