-- One line of a run.
use Rattle.std.specs.Prelude.{◌≡◌, ℕ, Bool, List, Option}
use Rattle.std.specs.Io.KnownBytes.{Appends}
use Rattle.acct_model.specs.declared.plan.Plan.{Plan}
use Rattle.acct_book.specs.declared.book.Book.{Ghosts}
use Rattle.acct_wire.specs.Clients.{ClientsFacts}
use Rattle.acct_program_feed.specs.declared.answer.Answer.{Answer}
use Rattle.acct_program_feed.specs.Feed.{AnswersLine, printed_text, is_good}

module _ {B : Type 0} (b : Ghosts B) (clients : ClientsFacts) (plans : List Plan) where
  -- A line was answered, and its answer was printed. `good` says whether it was good.
  pub record Prints (old new : B) (octets : List ℕ) (good : Bool) (before after : Option (List ℕ))
      : Type 0 where
    pub answer : Option Answer
    pub answered : AnswersLine b clients plans old new octets answer
    pub printed : Appends before after (printed_text answer)
    pub good_is : good ≡ is_good answer
