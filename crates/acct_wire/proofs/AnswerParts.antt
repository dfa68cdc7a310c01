-- What an answer says, put together from what its parts say.
use Rattle.std.proofs.Common.{◌≡◌, ℕ, ◌+◌, ◌≤◌, inl, inr, ⊎_elim, List, ◌++◌, take, drop, refl}
use Rattle.std.proofs.Common.{sym, ap, ◌∙◌, subst, arith, ◌⊎◌, length}
use Rattle.std.specs.Prelude.{Option, Some, None, Result, Ok, Err}
use Rattle.std.proofs.lemmas.Bool.{cases_order}
use Rattle.std.proofs.lemmas.List.{take_at, drop_at}
use Rattle.radius_codec.specs.Attributes.{spellings}
use Rattle.radius_codec.specs.declared.attribute_types.TheConstants as types
use Rattle.radius_codec.specs.Packet.{proxy_states, reply_octets}
use Rattle.radius_codec.proofs.Sealing.{length-sealed}
use Rattle.acct_model.specs.declared.plan.Plan.{Plan}
use Rattle.acct_model.specs.declared.entry.Entry.{Entry}
use Rattle.acct_model.specs.declared.entry.Entry.TheVariants as entries
use Rattle.acct_model.specs.declared.entry_reader.EntryError.{EntryError}
use Rattle.acct_model.specs.declared.entry_reader.EntryError.TheVariants as entry
use Rattle.acct_model.specs.Entries.{Attributes, count_at, refusal_of, RefusesEntry, IsEntryOf}
use Rattle.acct_model.specs.Vouchers.{TopUpFacts}
use Rattle.acct_book.specs.declared.book.Book.{Ghosts}
use Rattle.acct_book.specs.declared.recording.Recorded.{Recorded}
use Rattle.acct_book.specs.declared.recording.Recorded.TheVariants.{New, Repeat}
use Rattle.acct_book.specs.declared.recording.RecordError.{RecordError}
use Rattle.acct_book.specs.declared.recording.RecordError.TheVariants as error
use Rattle.acct_book.specs.Effect.{Effect, IsOfTopUp, effect_of, added, limited, failed, unasked}
use Rattle.acct_book.specs.Step.{Does}
use Rattle.acct_book.proofs.StepLemmas.{unasked_by, failed_by}
use Rattle.acct_wire.specs.declared.client.Client.{Client}
use Rattle.acct_wire.specs.declared.reason.Reason.{Reason}
use Rattle.acct_wire.specs.declared.reason.Reason.TheVariants.{UnknownClient, BalanceLimit}
use Rattle.acct_wire.specs.declared.reason.Reason.TheVariants.{Unavailable, TooOld}
use Rattle.acct_wire.specs.declared.answering.Outcome.TheVariants.{Reply, Drop}
use Rattle.acct_wire.specs.Clients.{ClientsFacts, client_at}
use Rattle.acct_wire.specs.Hearing.{heard, teller}
use Rattle.acct_wire.specs.Datagrams.{IsRequest, IsSpelled, BreaksFirst, Breaks, RequestAsks}
use Rattle.acct_wire.specs.Datagrams.{RequestAsksFor}
use Rattle.acct_wire.specs.Datagrams.{IsTooOld}
use Rattle.acct_wire.specs.inner.Datagrams.{SpellsEntry, reason_of, RefusesAs, IsDropped}
use Rattle.acct_wire.specs.Outcomes.{DropsWithin, AnswersWithin, WritesReply}
use Rattle.acct_wire.proofs.Spelled.{asked_some}

-- ---- only the datagram

-- refused attributes break a rule, or memory was refused
misspelled : (secret bytes : List ℕ) (identifier : ℕ) (authenticator : List ℕ)
    (attributes : Attributes) (error : EntryError)
    → IsRequest secret bytes identifier authenticator attributes
    → RefusesEntry (refusal_of attributes) error
    → BreaksFirst secret bytes (reason_of error)
    ⊎ ((reason_of error ≡ Unavailable) × IsSpelled secret bytes)
misspelled secret bytes identifier authenticator attributes entry.NoStatus request refuses =
    inl (identifier, authenticator, attributes, request, refuses)
misspelled secret bytes identifier authenticator attributes entry.UnknownStatus request refuses =
    inl (identifier, authenticator, attributes, request, refuses)
misspelled secret bytes identifier authenticator attributes entry.NoSessionId request refuses =
    inl (identifier, authenticator, attributes, request, refuses)
misspelled secret bytes identifier authenticator attributes entry.BadField request refuses =
    inl (identifier, authenticator, attributes, request, refuses)
misspelled secret bytes identifier authenticator attributes entry.TotalTooLarge request refuses =
    inl (identifier, authenticator, attributes, request, refuses)
misspelled secret bytes identifier authenticator attributes entry.Memory request refuses =
    inr (refl, (identifier, authenticator, attributes, request, refuses))

-- the attributes of a known client's request are refused
pub refused : (oldest : Option ℕ) (clients : ClientsFacts) (source bytes : List ℕ) (moment : ℕ)
    (client : Client) (identifier : ℕ) (authenticator : List ℕ) (attributes : Attributes)
    (reason : Reason)
    → client_at source clients.list ≡ Some client
    → IsRequest client.secret bytes identifier authenticator attributes
    → RefusesAs attributes reason
    → IsDropped oldest clients source bytes moment reason
refused oldest clients source bytes moment client identifier authenticator attributes reason known
    request (error, refuses, is) =
    ⊎_elim (λ breaks. inl
    (inr (client, known, subst (BreaksFirst client.secret bytes) (sym is) breaks)))
    (λ (memory, spelled). inr (inr (is ∙ memory, (client, known, spelled))))
    (misspelled client.secret bytes identifier authenticator attributes error request refuses)

no_limit : (clients : ClientsFacts) (source bytes : List ℕ) (reason : Reason)
    → Breaks clients source bytes reason → reason ≡ BalanceLimit → ⊥
no_limit clients source bytes reason (inl (none, is)) limit =
    let clash : UnknownClient ≡ BalanceLimit = sym is ∙ limit in cc
no_limit clients source bytes reason (inr (client, known, breaks)) limit =
    subst (BreaksFirst client.secret bytes) limit breaks

no_unavailable : (clients : ClientsFacts) (source bytes : List ℕ) (reason : Reason)
    → Breaks clients source bytes reason → reason ≡ Unavailable → ⊥
no_unavailable clients source bytes reason (inl (none, is)) memory =
    let clash : UnknownClient ≡ Unavailable = sym is ∙ memory in cc
no_unavailable clients source bytes reason (inr (client, known, breaks)) memory =
    subst (BreaksFirst client.secret bytes) memory breaks

no_age : (clients : ClientsFacts) (source bytes : List ℕ) (reason : Reason)
    → Breaks clients source bytes reason → reason ≡ TooOld → ⊥
no_age clients source bytes reason (inl (none, is)) old =
    let clash : UnknownClient ≡ TooOld = sym is ∙ old in cc
no_age clients source bytes reason (inr (client, known, breaks)) old =
    subst (BreaksFirst client.secret bytes) old breaks

-- a rule that is broken is the reason
breaks_so : (oldest : Option ℕ) (clients : ClientsFacts) (source bytes : List ℕ) (moment : ℕ)
    (reason : Reason) → Breaks clients source bytes reason
    → DropsWithin oldest clients source bytes moment reason unasked
breaks_so oldest clients source bytes moment BalanceLimit breaks =
    absurd (no_limit clients source bytes BalanceLimit breaks refl)
breaks_so oldest clients source bytes moment Unavailable breaks =
    absurd (no_unavailable clients source bytes Unavailable breaks refl)
breaks_so oldest clients source bytes moment TooOld breaks =
    absurd (no_age clients source bytes TooOld breaks refl)
breaks_so oldest clients source bytes moment reason breaks = (breaks, refl)

-- an entry is too old, or it is not
old_or_not : (oldest : Option ℕ) (attributes : Attributes) (asked : Entry)
    → IsTooOld oldest attributes asked ⊎ (¬ IsTooOld oldest attributes asked)
old_or_not (Some oldest) attributes (entries.Report report) =
    elim (cases_order oldest (count_at types.ACCT_DELAY_TIME attributes)) [
      | inl same ↦ inr (λ less. omega (arith, same, less))
      | inr order ↦ elim order [
        | inl less ↦ inl less
        | inr more ↦ inr (λ less. omega (arith, more, less))
      ]
    ]
old_or_not oldest attributes asked = inr (λ old. old)

-- ---- what was done

-- an entry that a datagram asks for is no top-up
no_topup : (name : List ℕ) (attributes : Attributes) (moment : ℕ) (asked : Entry)
    → IsEntryOf name attributes moment asked → IsOfTopUp asked → ⊥
no_topup name attributes moment (entries.Report report) spelled is = is
no_topup name attributes moment (entries.Restart restart) spelled is = is
no_topup name attributes moment (entries.TopUp topup) spelled is = spelled

module _ {B : Type 0} (b : Ghosts B) (oldest : Option ℕ) (clients : ClientsFacts)
    (plans : List Plan) (source bytes : List ℕ) (moment : ℕ) where
  -- an allocation failed for an entry that the datagram asks for
  no_memory : (array : List ℕ) (book : B) (asked : Entry)
      → (asks : RequestAsksFor clients source bytes moment asked)
      → IsTooOld oldest asks.attributes asked ⊎ (¬ IsTooOld oldest asks.attributes asked)
      → (effect : Effect)
      × AnswersWithin oldest clients source bytes moment array (Drop Unavailable) effect
      × Does b plans book book effect
  no_memory array book asked asks (inl old) =
      (unasked, (asked, asks, inl (old, refl)), unasked_by b plans book)
  no_memory array book asked asks (inr recent) =
      (failed asked, (asked, asks, inr (recent, refl)), failed_by b plans book asked)

  -- the book was not called
  pub dropped_does : (array : List ℕ) (book : B) (reason : Reason)
      → IsDropped oldest clients source bytes moment reason
      → (effect : Effect) × AnswersWithin oldest clients source bytes moment array (Drop reason)
      effect × Does b plans book book effect
  dropped_does array book reason (inl breaks) =
      (unasked, breaks_so oldest clients source bytes moment reason breaks, unasked_by b plans book)
  dropped_does array book reason (inr (inl (is, old))) = (
    unasked,
    subst (λ r. DropsWithin oldest clients source bytes moment r unasked) (sym is) (old, refl),
    unasked_by b plans book,
  )
  dropped_does array book reason (inr (inr (memory, asking))) =
      let (asked, asks) = asked_some clients source bytes moment asking in
      subst (λ r. (effect : Effect)
      × AnswersWithin oldest clients source bytes moment array (Drop r) effect
      × Does b plans book book effect) (sym memory)
      (no_memory array book asked asks (old_or_not oldest asks.attributes asked))

  module _ (old new : B) (client : Client) (identifier : ℕ) (authenticator : List ℕ)
      (attributes : Attributes) (asked : Entry)
      (asks : RequestAsks clients source bytes moment client identifier authenticator attributes
      asked) (recent : ¬ IsTooOld oldest attributes asked)
    where
      abbrev for : RequestAsksFor clients source bytes moment asked
      for = record {
        client = client;
        identifier = identifier;
        authenticator = authenticator;
        attributes = attributes;
        asks = asks;
      }

      no_repeat : Does b plans old new (effect_of asked (Ok Repeat)) → ⊥
      no_repeat does = no_topup (teller clients.stamping client.name attributes)
          (heard clients.stamping client.name attributes) moment asked asks.spelled does.own

      -- its entry was recorded
      pub reply_does : (size : ℕ) (before after : List ℕ) (result : Result Recorded RecordError)
          (x : Recorded) (secret : List ℕ) → secret ≡ client.secret → result ≡ Ok x
          → after ≡ reply_octets identifier authenticator attributes secret ++ drop size before
          → size ≡ 20 + length (spellings (proxy_states attributes))
          → Does b plans old new (effect_of asked result)
          → (effect : Effect)
          × AnswersWithin oldest clients source bytes moment after (Reply size) effect
          × Does b plans old new effect
      reply_does size before after result New secret same is octets counted does = (
        added asked,
        (
          asked,
          record {
            client = client;
            identifier = identifier;
            authenticator = authenticator;
            attributes = attributes;
            asks = asks;
            reply = ap (take size) octets
                ∙ take_at (reply_octets identifier authenticator attributes secret)
                (drop size before) size
                (length-sealed 5 identifier authenticator (spellings (proxy_states attributes))
                secret ∙ sym counted)
                ∙ ap (reply_octets identifier authenticator attributes) same;
          },
          recent,
          refl,
        ),
        subst (λ r. Does b plans old new (effect_of asked r)) is does,
      )
      reply_does size before after result Repeat secret same is octets counted does =
          absurd (no_repeat (subst (λ r. Does b plans old new (effect_of asked r)) is does))

      -- its entry may not be accepted, for the balance of its account
      pub limit_does : (array : List ℕ) (result : Result Recorded RecordError) (balance : _)
          → result ≡ Err (error.BalanceLimit balance)
          → Does b plans old new (effect_of asked result)
          → (effect : Effect)
          × AnswersWithin oldest clients source bytes moment array (Drop BalanceLimit) effect
          × Does b plans old new effect
      limit_does array result balance is does = (
        limited asked balance,
        (asked, for, recent, (balance, refl)),
        subst (λ r. Does b plans old new (effect_of asked r)) is does,
      )

      -- its entry was not recorded
      pub refused_does : (array : List ℕ) (result : Result Recorded RecordError)
          → result ≡ Err error.Unavailable
          → Does b plans old new (effect_of asked result)
          → (effect : Effect)
          × AnswersWithin oldest clients source bytes moment array (Drop Unavailable) effect
          × Does b plans old new effect
      refused_does array result is does = (
        failed asked,
        (asked, for, inr (recent, refl)),
        subst (λ r. Does b plans old new (effect_of asked r)) is does,
      )

      -- it is no top-up
      pub differs_never : (result : Result Recorded RecordError) (kept : TopUpFacts)
          → result ≡ Err (error.VoucherDiffers kept)
          → Does b plans old new (effect_of asked result) → ⊥
      differs_never result kept is does =
          no_topup (teller clients.stamping client.name attributes)
          (heard clients.stamping client.name attributes) moment asked asks.spelled
          (subst (λ r. Does b plans old new (effect_of asked r)) is does).own

-- past a reply the array is as it was
pub written_past : (identifier size : ℕ) (authenticator secret before after : List ℕ)
    (attributes : Attributes)
    → after ≡ reply_octets identifier authenticator attributes secret ++ drop size before
    → size ≡ 20 + length (spellings (proxy_states attributes)) → size ≤ 4096
    → WritesReply before after size
written_past identifier size authenticator secret before after attributes octets counted most =
    record {
      rest = ap (drop size) octets
          ∙ drop_at (reply_octets identifier authenticator attributes secret) (drop size before)
          size (length-sealed 5 identifier authenticator (spellings (proxy_states attributes))
          secret ∙ sym counted);
      least = omega (arith, counted);
      most = most;
    }

-- a client's signed request spells a report that is too old
pub aged : (oldest : Option ℕ) (clients : ClientsFacts) (source bytes : List ℕ) (moment : ℕ)
    (client : Client) (secret : List ℕ) (identifier : ℕ) (authenticator : List ℕ)
    (attributes : Attributes) (asked : Entry)
    → client_at source clients.list ≡ Some client → secret ≡ client.secret
    → IsRequest secret bytes identifier authenticator attributes
    → SpellsEntry clients.stamping client.name attributes moment asked
    → IsTooOld oldest attributes asked
    → IsDropped oldest clients source bytes moment TooOld
aged oldest clients source bytes moment client secret identifier authenticator attributes asked
    known of_secret request (faultless, spelled) old =
    let asks : RequestAsksFor clients source bytes moment asked = record {
      client = client;
      identifier = identifier;
      authenticator = authenticator;
      attributes = attributes;
      asks = record {
        known = known;
        request = subst (λ s. IsRequest s bytes identifier authenticator attributes) of_secret
            request;
        faultless = faultless;
        spelled = spelled;
      };
    } in
    inr (inl (refl, (asked, asks, old)))
