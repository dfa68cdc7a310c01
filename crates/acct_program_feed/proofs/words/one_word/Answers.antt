use Rattle.acct_program_feed.proofs.WordLemmas.{two_at_least}
use Rattle.acct_program_feed.proofs.words.one_word.Goals as goal

pub returns-in-Some : goal.returns-in-Some
returns-in-Some c = λ a h. two_at_least _ c.in-Some.field-0.0.now c.in-Some.field-0.1.now a
    c.in-Some.ensures h
