use Rattle.std.proofs.Common.{◌≡◌}
use Rattle.acct_program_feed.specs.Feed.{Ran}
use Rattle.acct_program_feed.proofs.feed.Feed.answer_lines.Given as goal

abbrev pub invariant-loop-line : goal.invariant-loop-line
invariant-loop-line g l = (l.self.server.config ≡ l.fn.self.server.config)
    × Ran g.B.Book
    l.fn.self.server.config.clients l.fn.self.server.config.plans l.fn.self.server.book
    l.self.server.book l.input l.line-iterator l.are_good (g.W.Write.contents l.fn.writer)
    (g.W.Write.contents l.writer)
