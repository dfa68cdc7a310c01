-- How long a caller keeps its place: until its time is up, or another one that waits needs it.
use Rattle.std.specs.Prelude.{◌⊎◌, ◌≡◌, ◌≤◌, ◌<◌, ◌-◌, ◌/◌, ⊤, ℕ, List, length}
use Rattle.std.specs.Time.{instant_nanos}
use Rattle.std.specs.declared.time.Instant.{Instant}
use Rattle.acct_net_callers.specs.declared.caller.Stage.{Stage}
use Rattle.acct_net_callers.specs.declared.caller.Stage.TheVariants as stage
use Rattle.acct_net_callers.specs.declared.request_buffer.RequestBuffer.{RequestBuffer}
use Rattle.acct_net_callers.specs.Transfer.{HasGrown}

-- whole seconds, and milliseconds, from one moment to a later one; to an earlier one there are none
abbrev pub seconds_from : Instant → Instant → ℕ
seconds_from before now = (instant_nanos now - instant_nanos before) / 1_000_000_000

abbrev pub milliseconds_from : Instant → Instant → ℕ
milliseconds_from before now = (instant_nanos now - instant_nanos before) / 1_000_000

-- A caller's time is up, so many seconds after its accept and after the last octet that was read or
-- written. It has four seconds until its request is read, and may be silent for two of them. While
-- its response is written, it may be silent for thirty.
abbrev pub HasTimedOut : Stage → ℕ → ℕ → Type 0
HasTimedOut (stage.Reading buffer) stay silence = (2 ≤ silence) ⊎ (4 ≤ stay)
HasTimedOut (stage.Waiting asked) stay silence = 2 ≤ silence
HasTimedOut (stage.Writing left) stay silence = 30 ≤ silence
HasTimedOut stage.Closing stay silence = 2 ≤ silence

-- A caller of whom nothing can be read or written now may be dropped for another one: so many
-- milliseconds after its accept while its request is read, so many seconds after the last octet of
-- its response was written, and at once if all of that is written.
abbrev pub MayBeDropped : Stage → ℕ → ℕ → Type 0
MayBeDropped (stage.Reading buffer) stay silence = 25 ≤ stay
MayBeDropped (stage.Waiting asked) stay silence = ⊥
MayBeDropped (stage.Writing left) stay silence = 2 ≤ silence
MayBeDropped stage.Closing stay silence = ⊤

-- more of a request was read, its end, or all of it
abbrev pub HasReadMore : RequestBuffer → Stage → Type 0
HasReadMore buffer (stage.Reading more) = HasGrown buffer more
HasReadMore buffer (stage.Waiting asked) = ⊤
HasReadMore buffer (stage.Writing left) = ⊥
HasReadMore buffer stage.Closing = ⊥

-- some of a response was written, or all that was left
abbrev pub HasWrittenMore : List ℕ → Stage → Type 0
HasWrittenMore left (stage.Writing rest) = length rest < length left
HasWrittenMore left stage.Closing = ⊤
HasWrittenMore left (stage.Waiting asked) = ⊥
HasWrittenMore left (stage.Reading buffer) = ⊥

-- An octet of a caller's request was read, or the end of what he sends, or an octet of his response
-- was written. What he sends after his request does not count.
abbrev pub HasMoved : Stage → Stage → Type 0
HasMoved (stage.Reading buffer) new = HasReadMore buffer new
HasMoved (stage.Writing left) new = HasWrittenMore left new
HasMoved (stage.Waiting asked) new = ⊥
HasMoved stage.Closing new = ⊥

-- A step makes now the moment when a caller was last active, exactly if an octet moved. If none did
-- the caller is as far as he was.
abbrev pub TracksActivity : Instant → Instant → Instant → Stage → Stage → Type 0
TracksActivity now old new before after = ((new ≡ now) × HasMoved before after)
    ⊎ ((new ≡ old) × (after ≡ before))
