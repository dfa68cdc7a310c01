use Rattle.std.proofs.Common.{arith}
use Rattle.std.proofs.lemmas.Str.Pattern.{split_parts}
use Rattle.acct_program_feed.proofs.WordLemmas.{words_of_parts}
use Rattle.acct_program_feed.proofs.words.cut_word.Goals as goal

pub returns : goal.returns
returns c =
    let parts = split_parts 32 c.args.text.now c.split_once.result c.split_once.ensures.cases
    (omega arith) in
    words_of_parts c.args.text.now c.split_once.result parts
