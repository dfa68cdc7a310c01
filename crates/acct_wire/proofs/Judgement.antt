-- A datagram has one judgement: the rules that its bytes keep before the first that they break are
-- counted.
use Rattle.std.proofs.Common.{◌≡◌, ◌⊎◌, inl, inr, ℕ, zero, suc, ◌+◌, ◌-◌, ◌<◌, ◌≤◌, Option, List}
use Rattle.std.proofs.Common.{length, drop, refl, sym, ◌∙◌, ap, subst, arith}
use Rattle.std.proofs.lemmas.Bool.{cases_order}
use Rattle.std.specs.Prelude.{Some, None, slice_index}
use Rattle.radius_codec.specs.Attributes.{Spells}
use Rattle.radius_codec.specs.Packet.{front_of}
use Rattle.radius_codec.proofs.Spelling.{Spells_one, Spells-framed}
use Rattle.acct_model.specs.declared.entry_reader.EntryError.{EntryError}
use Rattle.acct_model.specs.declared.entry_reader.EntryError.TheVariants as entry
use Rattle.acct_model.specs.Entries.{Attributes, refusal_of}
use Rattle.acct_wire.specs.declared.client.Client.{Client}
use Rattle.acct_wire.specs.declared.reason.Reason.{Reason}
use Rattle.acct_wire.specs.declared.reason.Reason.TheVariants.{UnknownClient, TooShort, BadLength}
use Rattle.acct_wire.specs.declared.reason.Reason.TheVariants.{WrongCode, BadAuthenticator}
use Rattle.acct_wire.specs.declared.reason.Reason.TheVariants.{BadAttribute, NoStatus}
use Rattle.acct_wire.specs.declared.reason.Reason.TheVariants.{UnknownStatus, NoSessionId, BadField}
use Rattle.acct_wire.specs.declared.reason.Reason.TheVariants.{TotalTooLarge, BalanceLimit}
use Rattle.acct_wire.specs.declared.reason.Reason.TheVariants.{Unavailable, TooOld}
use Rattle.acct_wire.specs.Clients.{ClientsFacts, client_at}
use Rattle.acct_wire.specs.Datagrams.{IsRequest, BeginsFront, BeginsRequest, BeginsSigned}
use Rattle.acct_wire.specs.Datagrams.{IsMisspelled, IsSpelled, BreaksFirst, IsBroken, IsAsking}
use Rattle.acct_wire.specs.inner.Datagrams.{reason_of}
use Rattle.acct_wire.specs.Laws.{OneRuleIsBrokenFirst, AskingBreaksNone}

-- some attributes are spelled behind a signed request's first twenty octets
record IsRead (secret bytes : List ℕ) : Type 0 where
  pub begins : BeginsSigned secret bytes
  pub attributes : Attributes
  pub spells : Spells (drop 20 (front_of bytes)) attributes

-- the bytes keep so many of the rules, in their order
abbrev Keeps : List ℕ → List ℕ → ℕ → Type 0
Keeps secret bytes zero = Unit {0}
Keeps secret bytes (suc zero) = 20 ≤ length bytes
Keeps secret bytes (suc (suc zero)) = BeginsFront bytes
Keeps secret bytes (suc (suc (suc zero))) = BeginsRequest bytes
Keeps secret bytes (suc (suc (suc (suc zero)))) = BeginsSigned secret bytes
Keeps secret bytes (suc (suc (suc (suc (suc zero))))) = IsRead secret bytes
Keeps secret bytes (suc (suc (suc (suc (suc (suc n)))))) = IsSpelled secret bytes

-- how many rules are kept before this one; the five of the attributes are one
abbrev kept_before : Reason → ℕ
kept_before UnknownClient = 5
kept_before TooShort = 0
kept_before BadLength = 1
kept_before WrongCode = 2
kept_before BadAuthenticator = 3
kept_before BadAttribute = 4
kept_before NoStatus = 5
kept_before UnknownStatus = 5
kept_before NoSessionId = 5
kept_before BadField = 5
kept_before TotalTooLarge = 5
kept_before BalanceLimit = 5
kept_before Unavailable = 5
kept_before TooOld = 5

-- a signed request begins so, and its attributes are read
read_of : (secret bytes : List ℕ) (identifier : ℕ) (authenticator : List ℕ)
    (attributes : Attributes) → IsRequest secret bytes identifier authenticator attributes
    → IsRead secret bytes
read_of secret bytes identifier authenticator attributes request = record {
  begins = record {
    request =
        record {
          front = record { size = request.framed.size; field = request.framed.field };
          code = ap (λ xs. slice_index xs 0) request.framed.front;
        };
    signed = request.signed;
  };
  attributes = attributes;
  spells = Spells-framed bytes 4 identifier authenticator attributes request.framed;
}

-- the refusal of a signed request's attributes
refusal_one : (secret bytes : List ℕ) (i j : ℕ) (a b : List ℕ) (ps qs : Attributes)
    → IsRequest secret bytes i a ps → IsRequest secret bytes j b qs → refusal_of ps ≡ refusal_of qs
refusal_one secret bytes i j a b ps qs x y =
    ap refusal_of (Spells_one _ ps qs (Spells-framed bytes 4 i a ps x.framed)
    (Spells-framed bytes 4 j b qs y.framed))

misspelled_one : (secret bytes : List ℕ) (e f : EntryError) → IsMisspelled secret bytes e
    → IsMisspelled secret bytes f → e ≡ f
misspelled_one secret bytes e f (i, a, ps, x, is) (j, b, qs, y, also) =
    let same : Some e ≡ Some f = sym is ∙ refusal_one secret bytes i j a b ps qs x y ∙ also in cc

misspelled_none : (secret bytes : List ℕ) (e : EntryError) → IsMisspelled secret bytes e
    → IsSpelled secret bytes → ⊥
misspelled_none secret bytes e (i, a, ps, x, is) (j, b, qs, y, none) =
    let clash : Some e ≡ None = sym is ∙ refusal_one secret bytes i j a b ps qs x y ∙ none in cc

-- fewer rules are kept too
keeps_fewer : (secret bytes : List ℕ) (n : ℕ) → Keeps secret bytes (suc n) → Keeps secret bytes n
keeps_fewer secret bytes zero kept = tt
keeps_fewer secret bytes (suc zero) kept = kept.size
keeps_fewer secret bytes (suc (suc zero)) kept = kept.front
keeps_fewer secret bytes (suc (suc (suc zero))) kept = kept.request
keeps_fewer secret bytes (suc (suc (suc (suc zero)))) kept = kept.begins
keeps_fewer secret bytes (suc (suc (suc (suc (suc zero))))) (i, a, ps, request, none) =
    read_of secret bytes i a ps request
keeps_fewer secret bytes (suc (suc (suc (suc (suc (suc n)))))) kept = kept

keeps_to : (secret bytes : List ℕ) (m n : ℕ) → Keeps secret bytes (m + n) → Keeps secret bytes n
keeps_to secret bytes zero n kept =
    let e : 0 + n ≡ n = omega arith in subst (Keeps secret bytes) e kept
keeps_to secret bytes (suc m) n kept =
    let e : suc m + n ≡ suc (m + n) =
    omega arith in keeps_to secret bytes m n
    (keeps_fewer secret bytes (m + n) (subst (Keeps secret bytes) e kept))

keeps_up_to : (secret bytes : List ℕ) (m n : ℕ) → n ≤ m → Keeps secret bytes m
    → Keeps secret bytes n
keeps_up_to secret bytes m n less kept =
    let e : m ≡ (m - n) + n =
    omega (arith, less) in keeps_to secret bytes (m - n) n (subst (Keeps secret bytes) e kept)

-- the rules before the first that is broken are kept
keeps_before : (secret bytes : List ℕ) (reason : Reason) → BreaksFirst secret bytes reason
    → Keeps secret bytes (kept_before reason)
keeps_before secret bytes UnknownClient breaks = absurd breaks
keeps_before secret bytes TooShort breaks = tt
keeps_before secret bytes BadLength breaks = breaks.0
keeps_before secret bytes WrongCode breaks = breaks.0
keeps_before secret bytes BadAuthenticator breaks = breaks.0
keeps_before secret bytes BadAttribute breaks = breaks.0
keeps_before secret bytes NoStatus (i, a, ps, request, is) = read_of secret bytes i a ps request
keeps_before secret bytes UnknownStatus (i, a, ps, request, is) =
    read_of secret bytes i a ps request
keeps_before secret bytes NoSessionId (i, a, ps, request, is) = read_of secret bytes i a ps request
keeps_before secret bytes BadField (i, a, ps, request, is) = read_of secret bytes i a ps request
keeps_before secret bytes TotalTooLarge (i, a, ps, request, is) =
    read_of secret bytes i a ps request
keeps_before secret bytes BalanceLimit breaks = absurd breaks
keeps_before secret bytes Unavailable breaks = absurd breaks
keeps_before secret bytes TooOld breaks = absurd breaks

-- the first rule that is broken isn't kept
breaks_next : (secret bytes : List ℕ) (reason : Reason) → BreaksFirst secret bytes reason
    → Keeps secret bytes (suc (kept_before reason)) → ⊥
breaks_next secret bytes UnknownClient breaks kept = breaks
breaks_next secret bytes TooShort breaks kept = omega (arith, breaks, kept)
breaks_next secret bytes BadLength breaks kept = breaks.1 kept.field
breaks_next secret bytes WrongCode breaks kept = breaks.1 kept.code
breaks_next secret bytes BadAuthenticator breaks kept = breaks.1 kept.signed
breaks_next secret bytes BadAttribute breaks kept = breaks.1 kept.attributes kept.spells
breaks_next secret bytes NoStatus breaks kept =
    misspelled_none secret bytes entry.NoStatus breaks kept
breaks_next secret bytes UnknownStatus breaks kept =
    misspelled_none secret bytes entry.UnknownStatus breaks kept
breaks_next secret bytes NoSessionId breaks kept =
    misspelled_none secret bytes entry.NoSessionId breaks kept
breaks_next secret bytes BadField breaks kept =
    misspelled_none secret bytes entry.BadField breaks kept
breaks_next secret bytes TotalTooLarge breaks kept =
    misspelled_none secret bytes entry.TotalTooLarge breaks kept
breaks_next secret bytes BalanceLimit breaks kept = breaks
breaks_next secret bytes Unavailable breaks kept = breaks
breaks_next secret bytes TooOld breaks kept = breaks

-- the reason of the rule behind so many
abbrev reason_behind : ℕ → Reason
reason_behind zero = TooShort
reason_behind (suc zero) = BadLength
reason_behind (suc (suc zero)) = WrongCode
reason_behind (suc (suc (suc zero))) = BadAuthenticator
reason_behind (suc (suc (suc (suc n)))) = BadAttribute

-- a reason is one of the first five that the bytes may break, or a refusal of the attributes
abbrev IsEarly : Reason → Type 0
IsEarly reason = (kept_before reason < 5) × (reason_behind (kept_before reason) ≡ reason)

abbrev IsLate : List ℕ → List ℕ → Reason → Type 0
IsLate secret bytes reason =
    (kept_before reason ≡ 5) × ((error : EntryError) × IsMisspelled secret bytes error
    × (reason_of error ≡ reason))

early_or_late : (secret bytes : List ℕ) (reason : Reason) → BreaksFirst secret bytes reason
    → IsEarly reason ⊎ IsLate secret bytes reason
early_or_late secret bytes UnknownClient breaks = absurd breaks
early_or_late secret bytes TooShort breaks = inl (omega arith, refl)
early_or_late secret bytes BadLength breaks = inl (omega arith, refl)
early_or_late secret bytes WrongCode breaks = inl (omega arith, refl)
early_or_late secret bytes BadAuthenticator breaks = inl (omega arith, refl)
early_or_late secret bytes BadAttribute breaks = inl (omega arith, refl)
early_or_late secret bytes NoStatus breaks = inr (refl, (entry.NoStatus, breaks, refl))
early_or_late secret bytes UnknownStatus breaks = inr (refl, (entry.UnknownStatus, breaks, refl))
early_or_late secret bytes NoSessionId breaks = inr (refl, (entry.NoSessionId, breaks, refl))
early_or_late secret bytes BadField breaks = inr (refl, (entry.BadField, breaks, refl))
early_or_late secret bytes TotalTooLarge breaks = inr (refl, (entry.TotalTooLarge, breaks, refl))
early_or_late secret bytes BalanceLimit breaks = absurd breaks
early_or_late secret bytes Unavailable breaks = absurd breaks
early_or_late secret bytes TooOld breaks = absurd breaks

at_one : (secret bytes : List ℕ) (one other : Reason) → kept_before one ≡ kept_before other
    → IsEarly one ⊎ IsLate secret bytes one → IsEarly other ⊎ IsLate secret bytes other → one
    ≡ other
at_one secret bytes one other same (inl x) (inl y) = sym x.1 ∙ ap reason_behind same ∙ y.1
at_one secret bytes one other same (inl x) (inr y) = absurd (omega (arith, x.0, y.0, same))
at_one secret bytes one other same (inr x) (inl y) = absurd (omega (arith, x.0, y.0, same))
at_one secret bytes one other same (inr (five, (e, x, is))) (inr (also_five, (f, y, also))) =
    sym is ∙ ap reason_of (misspelled_one secret bytes e f x y) ∙ also

-- no bytes break two rules first
first_one : (secret bytes : List ℕ) (one other : Reason) → BreaksFirst secret bytes one
    → BreaksFirst secret bytes other → one ≡ other
first_one secret bytes one other x y =
    elim (cases_order (kept_before one) (kept_before other)) [
      | inl same ↦ at_one secret bytes one other same (early_or_late secret bytes one x)
          (early_or_late secret bytes other y)
      | inr order ↦ elim order [
        | inl less ↦ absurd
            (breaks_next secret bytes one x (keeps_up_to secret bytes (kept_before other)
            (suc (kept_before one)) (omega (arith, less)) (keeps_before secret bytes other y)))
        | inr less ↦ absurd
            (breaks_next secret bytes other y (keeps_up_to secret bytes (kept_before one)
            (suc (kept_before other)) (omega (arith, less)) (keeps_before secret bytes one x)))
      ]
    ]

five_at_most : (secret bytes : List ℕ) (reason : Reason) → IsEarly reason
    ⊎ IsLate secret bytes reason → suc (kept_before reason) ≤ 6
five_at_most secret bytes reason (inl early) = omega (arith, early.0)
five_at_most secret bytes reason (inr late) = omega (arith, late.0)

-- bytes whose attributes spell an entry break no rule
spelled_none : (secret bytes : List ℕ) (reason : Reason) → IsSpelled secret bytes
    → BreaksFirst secret bytes reason → ⊥
spelled_none secret bytes reason spelled breaks =
    breaks_next secret bytes reason breaks (keeps_up_to secret bytes 6 (suc (kept_before reason))
    (five_at_most secret bytes reason (early_or_late secret bytes reason breaks)) spelled)

-- the source is no client's
abbrev IsUnknown : ClientsFacts → List ℕ → Reason → Type 0
IsUnknown clients source reason = (client_at source clients.list ≡ None) × (reason ≡ UnknownClient)

-- a source has one client at most
client_one : (found : Option Client) (c d : Client) → found ≡ Some c → found ≡ Some d → d ≡ c
client_one found c d x y = let same : Some d ≡ Some c = sym y ∙ x in cc

both_one : (clients : ClientsFacts) (source bytes : List ℕ) (one other : Reason)
    → IsUnknown clients source one ⊎ IsBroken clients source bytes one
    → IsUnknown clients source other ⊎ IsBroken clients source bytes other → one ≡ other
both_one clients source bytes one other (inl x) (inl y) = x.1 ∙ sym y.1
both_one clients source bytes one other (inl x) (inr (c, at, y)) =
    let clash : Some c ≡ None = sym at ∙ x.0 in cc
both_one clients source bytes one other (inr (c, at, x)) (inl y) =
    let clash : Some c ≡ None = sym at ∙ y.0 in cc
both_one clients source bytes one other (inr (c, at, x)) (inr (d, also, y)) =
    first_one c.secret bytes one other x (subst (λ k. BreaksFirst k.secret bytes other)
    (client_one (client_at source clients.list) c d at also) y)

pub once : OneRuleIsBrokenFirst
once clients source bytes one other x y = both_one clients source bytes one other x y

asks_none : (clients : ClientsFacts) (source bytes : List ℕ) (reason : Reason)
    → IsAsking clients source bytes
    → IsUnknown clients source reason ⊎ IsBroken clients source bytes reason → ⊥
asks_none clients source bytes reason (c, at, spelled) (inl y) =
    let clash : Some c ≡ None = sym at ∙ y.0 in cc
asks_none clients source bytes reason (c, at, spelled) (inr (d, also, y)) =
    spelled_none c.secret bytes reason spelled (subst (λ k. BreaksFirst k.secret bytes reason)
    (client_one (client_at source clients.list) c d at also) y)

pub asking : AskingBreaksNone
asking clients source bytes reason asks breaks = asks_none clients source bytes reason asks breaks
