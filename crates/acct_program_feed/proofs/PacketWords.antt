-- The words of a packet's line.
use Rattle.std.proofs.Common.{◌≡◌, ℕ, List, [], ◌∷◌, codes, sym, subst}
use Rattle.std.specs.Net.Grammar.{IsDotted}
use Rattle.acct_program_feed.specs.Line.{ArePacket}

-- three words of which the second is no address are no packet's
pub no_address : (rest : List (List ℕ)) (first second third : List ℕ)
    → rest ≡ first ∷ second ∷ third ∷ []
    → ((octets : List ℕ) → IsDotted second octets → ⊥)
    → (moment : ℕ) (source octets : List ℕ) → ArePacket
    (codes "packet" ∷ rest) moment source octets → ⊥
no_address rest first second third are none moment source octets packet =
    let same : second ≡ packet.source_word = cc (are, packet.are) in
    none source (subst (λ word. IsDotted word source) (sym same) packet.source_is)
