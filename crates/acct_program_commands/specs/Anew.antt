-- The open sessions that are charged anew since the logins of their clients are stamped: their next
-- reports name other sessions.
use Rattle.std.specs.Prelude.{◌≡◌, ◌==◌, ℕ, Bool, false, not, ◌&&◌, ◌||◌, List, [], ◌∷◌, ◌++◌}
use Rattle.std.specs.Prelude.{Option, None, Some, codes, decimal, map, OnOk, Result, nat_eq}
use Rattle.std.specs.Prelude.{if◌then◌else◌}
use Rattle.std.specs.List.{concat, count_by, ends_with}
use Rattle.acct_model.specs.Coded.{coded}
use Rattle.acct_book.specs.declared.book.Book.{Ghosts}
use Rattle.acct_book.specs.Content.{Content, key_of}
use Rattle.acct_book.specs.Maps.{key_cmp}
use Rattle.acct_book.specs.Row.{RowFacts}
use Rattle.acct_book.specs.Step.{OnlyLooks}
use Rattle.acct_book.specs.Walk.{AreAllPast}
use Rattle.acct_site.specs.declared.config.Config.{Config}
use Rattle.acct_wire.specs.declared.hearing.StampedClient.{StampedClient}
use Rattle.acct_wire.specs.declared.hearing.Stamping.{Stamping}
use Rattle.acct_wire.specs.Hearing.{stamped_called}
use Rattle.acct_program.specs.declared.status.Status.{Status}
use Rattle.acct_program_commands.specs.declared.fault.Fault.{Fault}
use Rattle.acct_program_commands.specs.Checks.{sizes_line}
use Rattle.acct_program_commands.specs.Survey.{is_live}

-- the name of a session ends with who pays, as that of each stamped client's session does
abbrev pub names_payer : RowFacts → Bool
names_payer row = ends_with nat_eq row.session (concat (codes "/" ∷ coded row.account ∷ []))

-- The session is of another name today. What a proxy passes on is told of a device of it, and not
-- of the proxy.
abbrev pub is_renamed : Option StampedClient → RowFacts → Bool
is_renamed None row = false
is_renamed (Some client) row = client.proxy || not (names_payer row)

-- it is open, and of another name today
abbrev pub is_anew : Stamping → RowFacts → Bool
is_anew stamping row =
    is_live row.state && is_renamed (stamped_called row.client (Some stamping)) row

-- so many sessions of a content are charged anew; the content is known while the book is open
abbrev pub CountsAnew : Stamping → Content → Type 0 → ℕ → Type 0
CountsAnew stamping content opens count = (rows : List RowFacts)
    × (count ≡ count_by (is_anew stamping) rows)
    × (opens → AreAllPast key_cmp content.rows None (map (λ row. (key_of row, row)) rows))

-- none of a site without stamps
abbrev pub AreAnew : Option Stamping → Content → Type 0 → ℕ → Type 0
AreAnew None content opens count = count ≡ 0
AreAnew (Some stamping) content opens count = CountsAnew stamping content opens count

-- how many there are, if there are any
abbrev pub anew_line : ℕ → List ℕ
anew_line count =
    if count == 0 then []
    else concat (decimal count ∷ codes
    " open sessions of stamped clients have no stamp, and are charged anew if they go on"
    ∷ (10 ∷ []) ∷ [])

-- The book was only read, and not at all for a site without stamps. The sizes of the configuration
-- were printed, and how many sessions are charged anew.
pub record ChecksOver {B : Type 0} (b : Ghosts B) (config : Config) (Prints : List ℕ → Type 0)
    (old new : B) (ended : Result Status Fault) : Type 0 where
  pub looks : OnlyLooks b old new
  pub unasked : config.clients.stamping ≡ None → new ≡ old
  pub told : OnOk ended ((count : ℕ)
      × AreAnew config.clients.stamping (b.content old) (b.is_open new) count
      × Prints (sizes_line config ++ anew_line count))
