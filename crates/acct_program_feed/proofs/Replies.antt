-- The size of a reply.
use Rattle.std.proofs.Common.{List, ℕ}
use Rattle.acct_wire.specs.declared.answering.Outcome.{Outcome}
use Rattle.acct_wire.specs.declared.answering.Outcome.TheVariants.{Reply, Drop}
use Rattle.acct_wire.specs.Outcomes.{Written}
use Rattle.acct_program_feed.specs.Answers.{ReplyFits}

pub reply_fits : (before after : List ℕ) (outcome : Outcome) → Written before after outcome
    → ReplyFits outcome
reply_fits before after (Reply size) h = (h.least, h.most)
reply_fits before after (Drop reason) h = tt
