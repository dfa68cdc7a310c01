use Rattle.std.proofs.Common.{◌≡◌, ◌∷◌, [], rules}
use Rattle.acct_program_feed.specs.Words.{words}
use Rattle.acct_program_feed.proofs.PacketWords.{no_address}
use Rattle.acct_program_feed.proofs.line.read_packet.Goals as goal

pub returns-in_default-clause-refused : goal.returns-in_default-clause-refused
returns-in_default-clause-refused c =
    let are : words c.args.words.now ≡ c.in_ok-moment.moment.now ∷ c.in_ok-moment.source.now
    ∷ c.in_ok-moment.octets.now ∷ [] = search rules in
    λ h. no_address _ _ _ _ are c.in_default.ensures
