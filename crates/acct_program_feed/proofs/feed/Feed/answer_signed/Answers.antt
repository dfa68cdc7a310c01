use Rattle.std.proofs.Common.{inr, rules}
use Rattle.acct_program_feed.proofs.feed.Feed.answer_signed.Goals as goal

pub returns : goal.returns
returns g c =
    let found = rw c.in-Some.is at c.named.ensures in
    let told = rw c.in-Some-signed_request.ensures.1 at c.answer-outcome.ensures.answers in
    record {
      answers = rw (← found) (inr (
        c.in-Some-signed_request.ensures.0,
        record {
          outcome = c.answer-outcome.result;
          before = c.args.self.now.server.reply;
          after = c.answer-outcome.new.self.reply;
          effect = told.0;
          answers = told.1;
          written = c.answer-outcome.ensures.written;
          does = told.2;
          shown = search rules;
        },
      ));
      same_config = c.answer-outcome.ensures.same_config;
    }
