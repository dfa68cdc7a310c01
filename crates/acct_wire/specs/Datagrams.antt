-- How a datagram is judged: the first rule that it breaks, or the entry that it requests.
use Rattle.std.specs.Prelude.{◌≡◌, ◌≢◌, ◌⊎◌, ◌+◌, ℕ, ◌≤◌, ◌<◌, List, length, drop, slice_index}
use Rattle.std.specs.Prelude.{Option, Some, None}
use Rattle.radius_codec.specs.Attributes.{Spells}
use Rattle.radius_codec.specs.declared.attribute_types.TheConstants as types
use Rattle.radius_codec.specs.Packet.{HasFront, front_of, Framed, IsFrontFault, IsSigned}
use Rattle.radius_codec.specs.declared.packet.CodecError.TheVariants as codec
use Rattle.acct_model.specs.declared.entry.Entry.{Entry}
use Rattle.acct_model.specs.declared.entry.Entry.TheVariants as entries
use Rattle.acct_model.specs.declared.entry_reader.EntryError.{EntryError}
use Rattle.acct_model.specs.declared.entry_reader.EntryError.TheVariants as entry
use Rattle.acct_model.specs.Entries.{Attributes, count_at, refusal_of, IsEntryOf}
use Rattle.acct_wire.specs.declared.client.Client.{Client}
use Rattle.acct_wire.specs.declared.reason.Reason.{Reason}
use Rattle.acct_wire.specs.declared.reason.Reason.TheVariants.{UnknownClient, TooShort, BadLength}
use Rattle.acct_wire.specs.declared.reason.Reason.TheVariants.{WrongCode, BadAuthenticator}
use Rattle.acct_wire.specs.declared.reason.Reason.TheVariants.{BadAttribute, NoStatus}
use Rattle.acct_wire.specs.declared.reason.Reason.TheVariants.{UnknownStatus, NoSessionId, BadField}
use Rattle.acct_wire.specs.declared.reason.Reason.TheVariants.{TotalTooLarge, BalanceLimit}
use Rattle.acct_wire.specs.declared.reason.Reason.TheVariants.{Unavailable, TooOld}
use Rattle.acct_wire.specs.Clients.{ClientsFacts, client_at}
use Rattle.acct_wire.specs.Hearing.{heard, teller}

-- The bytes begin with an Accounting-Request of this identifier, authenticator and list of
-- attributes, signed with the secret (RFC 2866, section 3).
pub record IsRequest (secret bytes : List ℕ) (identifier : ℕ) (authenticator : List ℕ)
    (attributes : Attributes) : Type 0 where
  pub framed : Framed bytes 4 identifier authenticator attributes
  pub signed : IsSigned (front_of bytes) secret

-- there is a front
pub record BeginsFront (bytes : List ℕ) : Type 0 where
  pub size : 20 ≤ length bytes
  pub field : HasFront bytes

-- there is a front, and it is an Accounting-Request's
pub record BeginsRequest (bytes : List ℕ) : Type 0 where
  pub front : BeginsFront bytes
  pub code : slice_index (front_of bytes) 0 ≡ 4

-- there is a front, it is an Accounting-Request's, and it carries the right digest
pub record BeginsSigned (secret bytes : List ℕ) : Type 0 where
  pub request : BeginsRequest bytes
  pub signed : IsSigned (front_of bytes) secret

-- a signed request whose attributes are refused so
abbrev pub IsMisspelled : List ℕ → List ℕ → EntryError → Type 0
IsMisspelled secret bytes error =
    (identifier : ℕ) × (authenticator : List ℕ) × (attributes : Attributes)
    × IsRequest secret bytes identifier authenticator attributes
    × (refusal_of attributes ≡ Some error)

-- a signed request whose attributes spell an entry
abbrev pub IsSpelled : List ℕ → List ℕ → Type 0
IsSpelled secret bytes =
    (identifier : ℕ) × (authenticator : List ℕ) × (attributes : Attributes)
    × IsRequest secret bytes identifier authenticator attributes × (refusal_of attributes ≡ None)

-- The first rule that the bytes of a client with this secret break: each line says that they keep
-- all those above it. The reasons that are no rule of the bytes are broken by none.
abbrev pub BreaksFirst : List ℕ → List ℕ → Reason → Type 0
BreaksFirst secret bytes UnknownClient = ⊥
BreaksFirst secret bytes TooShort = IsFrontFault bytes codec.TooShort
BreaksFirst secret bytes BadLength = IsFrontFault bytes codec.BadLength
BreaksFirst secret bytes WrongCode = BeginsFront bytes × (slice_index (front_of bytes) 0 ≢ 4)
BreaksFirst secret bytes BadAuthenticator =
    BeginsRequest bytes × (IsSigned (front_of bytes) secret → ⊥)
BreaksFirst secret bytes BadAttribute =
    BeginsSigned secret bytes
    × ((attributes : Attributes) → Spells (drop 20 (front_of bytes)) attributes → ⊥)
BreaksFirst secret bytes NoStatus = IsMisspelled secret bytes entry.NoStatus
BreaksFirst secret bytes UnknownStatus = IsMisspelled secret bytes entry.UnknownStatus
BreaksFirst secret bytes NoSessionId = IsMisspelled secret bytes entry.NoSessionId
BreaksFirst secret bytes BadField = IsMisspelled secret bytes entry.BadField
BreaksFirst secret bytes TotalTooLarge = IsMisspelled secret bytes entry.TotalTooLarge
BreaksFirst secret bytes BalanceLimit = ⊥
BreaksFirst secret bytes Unavailable = ⊥
BreaksFirst secret bytes TooOld = ⊥

-- the source is a client's, and the bytes break this rule first
abbrev pub IsBroken : ClientsFacts → List ℕ → List ℕ → Reason → Type 0
IsBroken clients source bytes reason =
    (client : Client)
    × (client_at source clients.list ≡ Some client)
    × BreaksFirst client.secret bytes reason

-- the first rule that a datagram breaks: its source is no client's, or its bytes break one
abbrev pub Breaks : ClientsFacts → List ℕ → List ℕ → Reason → Type 0
Breaks clients source bytes reason =
    ((client_at source clients.list ≡ None) × (reason ≡ UnknownClient))
    ⊎ IsBroken clients source bytes reason

-- The datagram is a client's signed request that spells this entry, as the site hears the client.
pub record RequestAsks (clients : ClientsFacts) (source bytes : List ℕ) (moment : ℕ)
    (client : Client) (identifier : ℕ) (authenticator : List ℕ) (attributes : Attributes)
    (asked : Entry) : Type 0 where
  pub known : client_at source clients.list ≡ Some client
  pub request : IsRequest client.secret bytes identifier authenticator attributes
  pub faultless : refusal_of attributes ≡ None
  pub spelled : IsEntryOf (teller clients.stamping client.name attributes)
      (heard clients.stamping client.name attributes) moment asked

-- The datagram requests this entry: it is some client's signed request that spells it.
pub record RequestAsksFor (clients : ClientsFacts) (source bytes : List ℕ) (moment : ℕ)
    (asked : Entry) : Type 0 where
  pub client : Client
  pub identifier : ℕ
  pub authenticator : List ℕ
  pub attributes : Attributes
  pub asks : RequestAsks clients source bytes moment client identifier authenticator attributes
      asked

-- The datagram is a client's signed request that spells some entry, whenever it is received.
abbrev pub IsAsking : ClientsFacts → List ℕ → List ℕ → Type 0
IsAsking clients source bytes =
    (client : Client) × (client_at source clients.list ≡ Some client) × IsSpelled client.secret bytes

-- ---- how old a report may be

-- The entry is a report that waited for more seconds than a report may, if that is limited: its
-- attributes say so (Acct-Delay-Time, RFC 2866, section 5.2), whatever the clock says.
abbrev pub IsTooOld : Option ℕ → Attributes → Entry → Type 0
IsTooOld (Some oldest) attributes (entries.Report report) =
    oldest < count_at types.ACCT_DELAY_TIME attributes
IsTooOld oldest attributes asked = ⊥

-- the datagram is a client's signed request for a report that is too old
abbrev pub AsksTooOld : Option ℕ → ClientsFacts → List ℕ → List ℕ → ℕ → Type 0
AsksTooOld oldest clients source bytes moment =
    (asked : Entry) × (asks : RequestAsksFor clients source bytes moment asked)
    × IsTooOld oldest asks.attributes asked
