-- What `export` prints.
use Rattle.std.specs.Prelude.{◌≡◌, ◌⊎◌, ℕ, ℤ, List, Option, None, length}
use Rattle.std.specs.Io.KnownBytes.{Appends}
use Rattle.acct_model.specs.declared.plan.Plan.{Plan}
use Rattle.acct_model.specs.Vouchers.{TopUpFacts}
use Rattle.acct_book.specs.declared.key.Key.{Key}
use Rattle.acct_book.specs.Content.{Content}
use Rattle.acct_book.specs.Maps.{key_cmp, octets_cmp}
use Rattle.acct_book.specs.Row.{RowFacts}
use Rattle.acct_book.specs.Walk.{AreAllPast}
use Rattle.acct_files.specs.Exporting.{export_text, line, session_header, session_fields}
use Rattle.acct_files.specs.Exporting.{topup_header, topup_fields, account_header, account_line}
use Rattle.acct_files.specs.Exporting.{plan_header, plan_fields}
use Rattle.acct_files.specs.declared.account_lines.AccountExport.{AccountExport}
use Rattle.acct_files.specs.declared.account_lines.AccountExport.TheVariants as which
use Rattle.acct_program_args.specs.declared.job.Export.{Export}
use Rattle.acct_program_args.specs.declared.job.Export.TheVariants as what
use Rattle.acct_program_commands.specs.declared.fault.Fault.{Fault}
use Rattle.acct_program_commands.specs.declared.fault.Fault.TheVariants as fault
use Rattle.acct_program_commands.specs.declared.fault.StoreFault.TheVariants as store

-- why an export ended early: the book failed, an allocation failed, or the output failed
abbrev pub IsExportFault : Fault → Type 0
IsExportFault told = (told ≡ fault.Store store.Unavailable) ⊎ (told ≡ fault.StoreMemory)
    ⊎ (told ≡ fault.CannotWrite)

-- a header, and a line for each plan
abbrev pub plans_text : List Plan → List ℕ
plans_text plans = export_text plan_header (λ plan. line (plan_fields plan)) plans

-- The balance of each account of a content is written, and there are so many accounts. The content
-- is `known` if the book is open.
abbrev pub WritesBalances : Content → Type 0 → Option (List ℕ) → Option (List ℕ) → ℕ → Type 0
WritesBalances content known before after count =
    (entries : List (List ℕ × ℤ))
    × Appends before after (export_text (account_header which.Balances)
    (λ e. account_line which.Balances e.0 e.1) entries)
    × (length entries ≡ count)
    × (known → AreAllPast octets_cmp content.balances None entries)

-- What is written of a content: a header, and a line for each member, once and in order. `told`
-- means that the book is open, so that its content is known.
module _ (plans : List Plan) (content : Content) (told : Type 0) (before after : Option (List ℕ))
  where
    abbrev pub Sessions : Type 0
    Sessions = (entries : List (Key × RowFacts))
        × Appends before after
        (export_text session_header (λ e. line (session_fields plans e.1)) entries)
        × (told → AreAllPast key_cmp content.rows None entries)

    abbrev pub TopUps : Type 0
    TopUps = (entries : List (List ℕ × TopUpFacts))
        × Appends before after (export_text topup_header (λ e. line (topup_fields e.1)) entries)
        × (told → AreAllPast octets_cmp content.topups None entries)

    abbrev pub Accounts : AccountExport → Type 0
    Accounts which = (entries : List (List ℕ × ℤ))
        × Appends before after
        (export_text (account_header which) (λ e. account_line which e.0 e.1) entries)
        × (told → AreAllPast octets_cmp content.balances None entries)

    abbrev pub Exports : Export → Type 0
    Exports what.Sessions = Sessions
    Exports what.Balances = Accounts which.Balances
    Exports what.TopUps = TopUps
    Exports what.Overruns = Accounts which.Overruns
