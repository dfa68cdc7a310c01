-- What `serve` does, and how it ends.
use Rattle.std.specs.Prelude.{◌≡◌, ◌⊎◌, ⊤, ℕ, true, List, [], ◌∷◌, Option, Some, Result, Ok, Err}
use Rattle.std.specs.declared.fd.AsRawFd as fd
use Rattle.std.specs.declared.io.traits.Read as read
use Rattle.std.specs.declared.io.traits.Write as write
use Rattle.std.specs.Io.KnownBytes.{Appends}
use Rattle.std.specs.List.{AllZip}
use Rattle.std.specs.Net.Grammar.{IsDotted}
use Rattle.acct_book.specs.declared.book.Book as book
use Rattle.acct_book.specs.Step.{OnlyLooks}
use Rattle.acct_site.specs.declared.config.Config.{Config}
use Rattle.acct_service.specs.Slices.{Slice}
use Rattle.acct_service.specs.declared.exchange.Exchange as exchange
use Rattle.acct_service.specs.declared.slices.Until.TheVariants as until
use Rattle.acct_net.specs.Bound.{AreBoundAt, AreUnheardAt}
use Rattle.acct_net.specs.Doors.{datagrams_of, desk_of}
use Rattle.acct_net.specs.declared.datagrams.Datagrams.{Datagrams}
use Rattle.acct_net.specs.declared.sockets.Sockets.{Sockets}
use Rattle.acct_program_args.specs.declared.job.Listening.{Listening}
use Rattle.acct_program_args.specs.declared.job.Serving.{Serving}
use Rattle.acct_program_args.specs.Orders.{seconds_of}
use Rattle.acct_program_commands.specs.Names.{NamesSeen}
use Rattle.acct_program_commands.specs.Placed.{IsPut, PutsBalances}
use Rattle.acct_program_commands.specs.Rounds.{GoesRound, RoundState, are_away}
use Rattle.acct_program_commands.specs.Sights.{Poll}
use Rattle.acct_program_commands.specs.declared.fault.Fault.{Fault}
use Rattle.acct_program_commands.specs.declared.fault.Fault.TheVariants as fault
use Rattle.acct_program_commands.specs.declared.fault.StoreFault.TheVariants as store
use Rattle.acct_program.specs.declared.status.Status.{Status}
use Rattle.acct_program.specs.declared.status.Status.TheVariants as status
use Rattle.acct_program_serving.specs.Files.{Begins, HaveMoved}
use Rattle.acct_program_serving.specs.Runs.{Ran, whole_text}
use Rattle.acct_program_serving.specs.declared.ended.Ended.{Ended}
use Rattle.acct_program_serving.specs.declared.ended.Ended.TheVariants as how

-- how the command ends: with the book's fault, if that was found shut or stuck, or a round ended it
abbrev pub ended_of : Ended → Result Status Fault
ended_of (how.Told served until.AllMade) = Ok status.Done
ended_of (how.Told served until.Shut) = Err (fault.Store store.Unavailable)
ended_of (how.Told served until.Stuck) = Err (fault.Store store.Unavailable)
ended_of (how.Told served until.Over) = Err (fault.Store store.Unavailable)
ended_of (how.Untold served until.AllMade) = Err fault.CannotWrite
ended_of (how.Untold served until.Shut) = Err (fault.Store store.Unavailable)
ended_of (how.Untold served until.Stuck) = Err (fault.Store store.Unavailable)
ended_of (how.Untold served until.Over) = Err (fault.Store store.Unavailable)
ended_of how.NotBegun = Err fault.CannotWrite

-- the sockets could not be bound, or there was no memory for datagrams or names
abbrev pub IsUnbound : Fault → Type 0
IsUnbound told = (told ≡ fault.CannotBind) ⊎ (told ≡ fault.NoMemory)

-- Sockets for datagrams are bound as the options say: one at each address that they name, in their
-- order, and each at its port. Nothing was received at them. Or it is told why there are none.
abbrev pub AreReports : Listening → Result Datagrams Fault → Type 0
AreReports listening (Ok datagrams) = (addresses : List (List ℕ))
    × AllZip IsDotted listening.addresses.items addresses
    × AreUnheardAt addresses listening.radius_port datagrams
AreReports listening (Err told) = IsUnbound told

-- The sockets are bound as the options say: one for datagrams at each address that they name, in
-- their order, and the desk at its own; each at its port.
module _ {R S L : Type 0} {r : read.Ghosts S} {w : write.Ghosts S} {s : fd.Ghosts S}
    {l : fd.Ghosts L} where
  pub record IsBoundTo (listening : Listening) (sockets : Sockets R S L r w s l) : Type 0 where
    pub addresses : List (List ℕ)
    pub spelt : AllZip IsDotted listening.addresses.items addresses
    pub datagrams_are : AreBoundAt addresses listening.radius_port (datagrams_of sockets)
    pub desk_is : IsDotted listening.desk_address (desk_of sockets).0
    pub desk_port_is : (desk_of sockets).1 ≡ listening.desk_port

-- After each slice a round went, and nothing else did. The turns that follow have what was taken
-- from its poll: other clients and keys, or what was in force. If the book is open, each file of
-- balances that was put in its place has those of the content after that slice. While a name of the
-- book leads elsewhere, nobody is heard.
abbrev pub RoundsAfter : (List ℕ → List ℕ → Type 0) → Type 0 → RoundState → List Slice
    → RoundState → Type 0
RoundsAfter Put is_open known [] last = known ≡ last
RoundsAfter Put is_open known (slice ∷ later) last =
    (are_away known.names ≡ true → slice.visits ≡ []) × (next : RoundState)
    × GoesRound (λ name. IsPut (Put name)) slice.site.plans known slice.given next
    × (is_open → GoesRound (λ name. PutsBalances (Put name) slice.content ⊤)
    slice.site.plans known slice.given next)
    × RoundsAfter Put is_open next later last

-- A run of a server over a book and an exchange.
module _ {B X : Type 0} (b : book.Ghosts B) (x : exchange.Ghosts X) where
  -- an exchange made no turn and no fault, and recorded no call
  pub record IsUnasked (first last : X) : Type 0 where
    pub turns : x.turn_count last ≡ x.turn_count first
    pub failures : x.failure_count last ≡ x.failure_count first
    pub told : x.told last ≡ x.told first

  -- How a server ended over an exchange that is returned. Once it has begun, its turns are a run,
  -- even if the output fails. What it then printed is `serving` and the counts of that run, and
  -- nothing else. Before that it does nothing.
  abbrev pub EndsOver : Option ℕ → Config → ℕ → (List Slice → Type 0) → B → B → X → X
      → Option (List ℕ) → Option (List ℕ) → Ended → Type 0
  EndsOver oldest config turns Went old new first last before after (how.Told served why) =
      Ran b x oldest config turns Went old new first last served why
      × Appends before after (whole_text served)
  EndsOver oldest config turns Went old new first last before after (how.Untold served why) =
      Ran b x oldest config turns Went old new first last served why
  EndsOver oldest config turns Went old new first last before after how.NotBegun =
      (new ≡ old) × IsUnasked first last

  -- A server ended this way over an exchange that was bound so, and had made no turn and no fault.
  -- Before it began, the book was only read, for the file of balances. Its rounds went on from what
  -- the text and its clock had shown, with the file of balances that was named and the names of the
  -- book, which led where they had led: each configuration is the first one, or was taken from a
  -- poll.
  pub record EndsAfresh (Put : List ℕ → List ℕ → Type 0) (IsBound : X → Type 0)
      (file : Option (List ℕ)) (polls : Option (List Poll)) (moments : Option (List ℕ))
      (names : NamesSeen) (serving : Serving) (config : Config) (old new : B) (last : X)
      (before after : Option (List ℕ)) (ended : Ended) : Type 0 where
    pub begun : B
    pub looked : OnlyLooks b old begun
    pub first : X
    pub fresh : x.turn_count first ≡ 0
    pub faultless : x.failure_count first ≡ 0
    pub known : RoundState
    pub bound : IsBound first
    pub begins : Begins
        (λ name. PutsBalances (Put name) (b.content old) (b.is_open begun))
        serving.telling.balances file polls moments names known
    pub then : RoundState
    pub ends : EndsOver (seconds_of serving.oldest_report) config serving.turns
        (λ slices. RoundsAfter Put (b.is_open new) known slices then) begun new first last before
        after ended

  -- The command. The sockets could not be bound, and nothing was done. Or a name of the book led
  -- elsewhere than before it was opened, and the book was only read. Or a server ended this way
  -- over an exchange that was bound so, and had made no turn and no fault.
  abbrev pub RunsServer : (List ℕ → List ℕ → Type 0) → (X → Type 0)
      → Option (List ℕ) → Option (List Poll) → Option (List ℕ) → Option NamesSeen → Serving
      → Config → Option (List ℕ) → Option (List ℕ) → Result Status Fault → B → B → Type 0
  RunsServer Put IsBound file polls moments seen serving config before after result old new =
      ((told : Fault) × (result ≡ Err told) × IsUnbound told × (new ≡ old) × (after ≡ before))
      ⊎ (((names : NamesSeen) × (seen ≡ Some names) × HaveMoved names
      × (result ≡ Err fault.CannotOpen) × OnlyLooks b old new × (after ≡ before))
      ⊎ ((ended : Ended) × (result ≡ ended_of ended) × ((names : NamesSeen) × (seen ≡ Some names)
      × ((last : X) × EndsAfresh Put IsBound file polls moments names serving config old new last
      before after ended))))
