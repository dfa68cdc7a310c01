use Rattle.acct_program_feed.proofs.feed.Feed.answer.Goals as goal

pub returns-in-Signed : goal.returns-in-Signed
returns-in-Signed g c = record {
  answers = rw c.in-Signed.is (rw (c.as_str.ensures, c.as_slice.ensures)
      at c.answer_signed.ensures.answers);
  same_config = c.answer_signed.ensures.same_config;
}
