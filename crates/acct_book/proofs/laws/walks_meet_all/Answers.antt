use Rattle.acct_book.proofs.WalkLaws.{walks-meet-all}
use Rattle.acct_book.proofs.laws.walks_meet_all.Goals as goal

pub returns : goal.returns
returns c = walks-meet-all
