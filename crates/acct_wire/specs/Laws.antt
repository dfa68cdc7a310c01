-- Laws of how datagrams are judged, and of the clients of a site.
use Rattle.std.specs.Prelude.{◌≡◌, ◌≢◌, ℕ, List, None, Option, All}
use Rattle.std.specs.List.{AllPairs}
use Rattle.acct_model.specs.declared.entry.Entry.{Entry}
use Rattle.acct_model.specs.Entries.{Attributes}
use Rattle.acct_wire.specs.declared.client.Client.{Client}
use Rattle.acct_wire.specs.declared.reason.Reason.{Reason}
use Rattle.acct_wire.specs.declared.hearing.StampedClient.{StampedClient}
use Rattle.acct_wire.specs.Clients.{ClientsFacts}
use Rattle.acct_wire.specs.Hearing.{told_of}
use Rattle.acct_wire.specs.ClientFaults.{clients_fault}
use Rattle.acct_wire.specs.Datagrams.{Breaks, RequestAsks, IsAsking}

-- no datagram breaks two rules first
abbrev pub OneRuleIsBrokenFirst : Type 0
OneRuleIsBrokenFirst = (clients : ClientsFacts) (source bytes : List ℕ) (one other : Reason)
    → Breaks clients source bytes one → Breaks clients source bytes other → one ≡ other

-- none that requests an entry breaks a rule
abbrev pub AskingBreaksNone : Type 0
AskingBreaksNone = (clients : ClientsFacts) (source bytes : List ℕ) (reason : Reason)
    → IsAsking clients source bytes → Breaks clients source bytes reason → ⊥

-- a datagram requests one entry, by one request of one client
abbrev pub OneEntryIsAsked : Type 0
OneEntryIsAsked = (clients : ClientsFacts) (source bytes : List ℕ) (moment : ℕ)
    (c d : Client) (i j : ℕ) (a b : List ℕ) (ps qs : Attributes) (one other : Entry)
    → RequestAsks clients source bytes moment c i a ps one
    → RequestAsks clients source bytes moment d j b qs other
    → (c ≡ d) × (i ≡ j) × (a ≡ b) × (ps ≡ qs) × (one ≡ other)

-- no two clients of a site share a name or an address
abbrev pub ClientsDiffer : Type 0
ClientsDiffer = (clients : List Client) → clients_fault clients ≡ None
    → AllPairs (λ one other. (one.name ≢ other.name) × (one.address ≢ other.address)) clients

-- Where no name of a client has a `/`, what is told of one client, or of a device behind it, is told
-- of no other and of no device behind another.
abbrev pub TellersDiffer : Type 0
TellersDiffer = (name other : List ℕ) (ps qs : Attributes) (c d : Option StampedClient)
    → All (λ octet. octet ≡ 47 → ⊥) name → All (λ octet. octet ≡ 47 → ⊥) other
    → told_of name ps c ≡ told_of other qs d → name ≡ other
