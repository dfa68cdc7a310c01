-- How the reports of a client are heard: which client they are of, who pays, by which plan, and of
-- which session they are. A client whose logins are stamped has the stamp as a Class (RFC 2865,
-- section 5.25). Of any other client the attributes are heard as they are.
use Rattle.std.specs.Prelude.{ℕ, Bool, List, [], ◌∷◌, ◌++◌, codes, bytes_eq, ◌==◌, if◌then◌else◌}
use Rattle.std.specs.Prelude.{Option, None, Some, unwrap_or}
use Rattle.std.specs.Option.{option_map, option_or}
use Rattle.std.specs.List.{find, concat}
use Rattle.radius_codec.specs.Attributes.{value_of}
use Rattle.radius_codec.specs.declared.attribute_types.TheConstants as types
use Rattle.acct_model.specs.declared.stamp.Stamp.{Stamp}
use Rattle.acct_model.specs.declared.stamp.StampSecrets.{StampSecrets}
use Rattle.acct_model.specs.Coded.{coded}
use Rattle.acct_model.specs.Stamps.{stamp_read, stamped_session}
use Rattle.acct_model.specs.Entries.{Attributes, octets_at}
use Rattle.acct_wire.specs.declared.hearing.StampedClient.{StampedClient}
use Rattle.acct_wire.specs.declared.hearing.Stamping.{Stamping}

abbrev pub is_called : List ℕ → StampedClient → Bool
is_called name client = bytes_eq client.name name

-- the client of this name, if its logins are stamped
abbrev pub stamped_called : List ℕ → Option Stamping → Option StampedClient
stamped_called name None = None
stamped_called name (Some stamping) = find (is_called name) stamping.clients.items

-- ---- who pays, and of which session

-- the stamp that an attribute is, if it is a Class that the site stamped
abbrev pub stamp_at : StampSecrets → ℕ × List ℕ → Option Stamp
stamp_at secrets attribute =
    if attribute.0 == types.CLASS then stamp_read secrets attribute.1 else None

-- the first stamp among the attributes
abbrev pub first_stamp : StampSecrets → Attributes → Option Stamp
first_stamp secrets [] = None
first_stamp secrets (attribute ∷ rest) =
    option_or (stamp_at secrets attribute) (first_stamp secrets rest)

-- Who pays, and by which plan: as the first stamp says. Without one the User-Name pays, by the plan
-- that the client has for that, whatever Class there is.
abbrev pub billed : StampedClient → Attributes → Option Stamp → Stamp
billed client attributes (Some stamp) = stamp
billed client attributes None = record {
  plan = client.plan;
  login = [];
  name = octets_at types.USER_NAME attributes;
}

-- the session's id, if there is one, with the login and who pays behind it
abbrev pub session_heard : Stamp → Option (List ℕ) → Attributes
session_heard stamp None = []
session_heard stamp (Some id) = (types.ACCT_SESSION_ID, stamped_session id stamp) ∷ []

-- The attributes with who pays, the plan and the session in front: of each type the first counts.
abbrev pub heard_as : Stamp → Attributes → Attributes
heard_as stamp attributes =
    (types.USER_NAME, stamp.name) ∷ (types.CLASS, stamp.plan)
    ∷ (session_heard stamp (value_of types.ACCT_SESSION_ID attributes) ++ attributes)

abbrev pub heard_from : StampSecrets → Option StampedClient → Attributes → Attributes
heard_from secrets None attributes = attributes
heard_from secrets (Some client) attributes =
    heard_as (billed client attributes (first_stamp secrets attributes)) attributes

-- The attributes of a report as a site hears them from the client of this name.
abbrev pub heard : Option Stamping → List ℕ → Attributes → Attributes
heard None name attributes = attributes
heard (Some stamping) name attributes =
    heard_from stamping.secrets (stamped_called name (Some stamping)) attributes

-- ---- which client

-- a letter for the type of an attribute, and its value, coded
abbrev pub device_at : List ℕ → ℕ → Attributes → Option (List ℕ)
device_at letter kind attributes =
    option_map (λ value. concat (letter ∷ coded value ∷ [])) (value_of kind attributes)

-- The device that a proxy passes reports on of: its NAS-Identifier, else its NAS-IPv6-Address, else
-- its NAS-IP-Address (RFC 2866, section 5.13), and nothing if it names itself by none.
abbrev pub device : Attributes → List ℕ
device attributes =
    unwrap_or (option_or (device_at (codes "n") types.NAS_IDENTIFIER attributes)
    (option_or (device_at (codes "v") types.NAS_IPV6_ADDRESS attributes)
    (device_at (codes "a") types.NAS_IP_ADDRESS attributes))) []

abbrev pub told_of : List ℕ → Attributes → Option StampedClient → List ℕ
told_of name attributes None = name
told_of name attributes (Some client) =
    if client.proxy then concat (name ∷ codes "/" ∷ device attributes ∷ []) else name

-- The client that a packet is told of: the one that sent it, or for a proxy the device behind it.
-- No client's own name has a `/`.
abbrev pub teller : Option Stamping → List ℕ → Attributes → List ℕ
teller stamping name attributes = told_of name attributes (stamped_called name stamping)
