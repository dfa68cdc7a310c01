-- Faultless attributes spell an entry.
use Rattle.std.proofs.Common.{◌≡◌, ℕ, true, false, cond, List, refl}
use Rattle.std.specs.Prelude.{Option, Some, None, is_none}
use Rattle.radius_codec.specs.Attributes.{value_of}
use Rattle.acct_model.specs.declared.entry.Entry.{Entry}
use Rattle.acct_model.specs.declared.entry.Entry.TheVariants as entry
use Rattle.acct_model.specs.declared.entry_reader.EntryError.{EntryError}
use Rattle.acct_model.specs.declared.entry_reader.EntryError.TheVariants.{NoStatus, UnknownStatus}
use Rattle.acct_model.specs.Entries.{Attributes, status_of, kind_of, is_restart, status_fault}
use Rattle.acct_model.specs.Entries.{report_fault, refusal_of, report_of, IsEntryOf}
use Rattle.acct_wire.specs.Clients.{ClientsFacts}
use Rattle.acct_wire.specs.inner.Hearing.{entry_in}
use Rattle.acct_wire.proofs.Heard.{heard_so}
use Rattle.acct_wire.specs.Datagrams.{RequestAsksFor, IsAsking}

no_fault : (e : EntryError) → Some e ≡ None → ⊥
no_fault e h = cc

spelled_by_status : (name : List ℕ) (attributes : Attributes) (moment : ℕ) (o : Option ℕ)
    → status_of attributes ≡ o → status_fault attributes o ≡ None
    → (e : Entry) × IsEntryOf name attributes moment e
spelled_by_status name attributes moment None is none = absurd (no_fault UnknownStatus none)
spelled_by_status name attributes moment (Some status) is none =
    elim (is_restart status) as (λ b. is_restart status ≡ b
    → cond b None (cond (is_none (kind_of status)) (Some UnknownStatus)
    (report_fault attributes)) ≡ None → (e : Entry) × IsEntryOf name attributes moment e) [
      | true ↦ λ restarts h. (
        entry.Restart (record { client = name }),
        (status, is, restarts, refl),
      )
      | false ↦ λ other h.
          elim (kind_of status) as (λ k. kind_of status ≡ k
          → cond (is_none k) (Some UnknownStatus) (report_fault attributes) ≡ None → (e : Entry)
          × IsEntryOf name attributes moment e) [
            | None ↦ λ kind g. absurd (no_fault UnknownStatus g)
            | Some k ↦ λ kind g. (
              entry.Report (report_of name attributes moment k),
              (status, k, is, kind, refl),
            )
          ] refl h
    ] refl none

-- faultless attributes spell an entry
spelled_some : (name : List ℕ) (attributes : Attributes) (moment : ℕ) → refusal_of attributes ≡ None
    → (e : Entry) × IsEntryOf name attributes moment e
spelled_some name attributes moment none =
    elim (is_none (value_of 40 attributes)) as
    (λ b. cond b (Some NoStatus) (status_fault attributes (status_of attributes)) ≡ None
    → (e : Entry) × IsEntryOf name attributes moment e) [
      | true ↦ λ h. absurd (no_fault NoStatus h)
      | false ↦ λ h. spelled_by_status name attributes moment (status_of attributes) refl h
    ] none

-- a datagram that asks for some entry asks for one that can be named
pub asked_some : (clients : ClientsFacts) (source bytes : List ℕ) (moment : ℕ)
    → IsAsking clients source bytes
    → (asked : Entry) × RequestAsksFor clients source bytes moment asked
asked_some clients source bytes moment
    (client, known, (identifier, authenticator, attributes, request, none)) =
    let spelled = spelled_some client.name attributes moment none in (
      entry_in clients.stamping client.name attributes spelled.0,
      record {
        client = client;
        identifier = identifier;
        authenticator = authenticator;
        attributes = attributes;
        asks = record {
          known = known;
          request = request;
          faultless = none;
          spelled = heard_so clients.stamping client.name attributes moment spelled.0 none spelled.1;
        };
      },
    )
