-- What a book contains: three maps, each seen as a function, and the plans that it keeps.
use Rattle.std.specs.Prelude.{◌≡◌, ◌≢◌, ℕ, ℤ, pos, Bool, ◌&&◌, if◌then◌else◌, bytes_eq, List, []}
use Rattle.std.specs.Prelude.{◌∷◌, Contains, Option, Some, None, unwrap_or, option_map}
use Rattle.std.specs.Map.{update}
use Rattle.acct_model.specs.declared.plan.Plan.{Plan}
use Rattle.acct_model.specs.Plans.{plan_for}
use Rattle.acct_model.specs.Vouchers.{TopUpFacts}
use Rattle.acct_book.specs.declared.key.Key.{Key}
use Rattle.acct_book.specs.declared.row.SessionState.{SessionState}
use Rattle.acct_book.specs.declared.row.SessionState.TheVariants.{Live, Closed, Stopped}
use Rattle.acct_book.specs.Row.{RowFacts}

-- the same session
abbrev pub same_key : Key → Key → Bool
same_key a b = bytes_eq a.client b.client && bytes_eq a.session b.session

-- the key of a row
abbrev pub key_of : RowFacts → Key
key_of row = record { client = row.client; session = row.session }

-- Rows by their keys, balances by account, top-ups by the voucher's number. If the book keeps a
-- list of plans too, the plan of each class by that list.
pub record Content : Type 0 where
  pub rows : Key → Option RowFacts
  pub balances : List ℕ → Option ℤ
  pub topups : List ℕ → Option TopUpFacts
  pub plans : Option (List ℕ → Option Plan)

-- no row, no balance, no top-up, and no list of plans
abbrev pub empty_content : Content
empty_content = record {
  rows = λ key. None;
  balances = λ account. None;
  topups = λ number. None;
  plans = None;
}

-- no row, no balance, no top-up, in a book that keeps these plans
abbrev pub empty_keeping : List Plan → Content
empty_keeping plans = record empty_content { plans = Some (plan_for plans) }

-- the content of a book whose list of plans, if it keeps one, is now this
abbrev pub keeping : List Plan → Content → Content
keeping plans content =
    record content { plans = option_map (λ kept. plan_for plans) content.plans }

-- the balance of an account, which is 0 if none is kept
abbrev pub kept_balance : Content → List ℕ → ℤ
kept_balance content account = unwrap_or (content.balances account) (pos 0)

-- with this row, and this balance of its account
abbrev pub with_session : Content → RowFacts → ℤ → Content
with_session content row balance = record {
  rows = update same_key content.rows (key_of row) (Some row);
  balances = update bytes_eq content.balances row.account (Some balance);
  topups = content.topups;
  plans = content.plans;
}

-- with this top-up, and this balance of its account
abbrev pub with_topup : Content → TopUpFacts → ℤ → Content
with_topup content topup balance = record {
  rows = content.rows;
  balances = update bytes_eq content.balances topup.account (Some balance);
  topups = update bytes_eq content.topups topup.voucher (Some topup);
  plans = content.plans;
}

-- the cause of a session that a restart of its client closed: NAS Reboot (RFC 2866, section 5.10)
abbrev pub nas_reboot : ℕ
nas_reboot = 11

-- a live session is closed by a restart of its client
abbrev pub closed_row : RowFacts → SessionState → RowFacts
closed_row row Live = record row { state = Closed; cause = nas_reboot }
closed_row row Closed = row
closed_row row Stopped = row

-- a live session of the client is closed
abbrev pub closed_by : List ℕ → RowFacts → RowFacts
closed_by client row = if bytes_eq client row.client then closed_row row row.state else row

-- with each live session of the client closed
abbrev pub with_closed : Content → List ℕ → Content
with_closed content client = record {
  rows = λ key. option_map (closed_by client) (content.rows key);
  balances = content.balances;
  topups = content.topups;
  plans = content.plans;
}

-- the rows without those of these keys
abbrev pub rows_without : (Key → Option RowFacts) → List Key → Key → Option RowFacts
rows_without rows [] = rows
rows_without rows (key ∷ keys) = rows_without (update same_key rows key None) keys

-- without the rows of these keys, and with this row: no balance and no top-up changes
abbrev pub with_forward : Content → List Key → RowFacts → Content
with_forward content gone row = record {
  rows = update same_key (rows_without content.rows gone) (key_of row) (Some row);
  balances = content.balances;
  topups = content.topups;
  plans = content.plans;
}

-- the key is none of these
abbrev pub IsNone : List Key → Key → Type 0
IsNone gone key = (other : Key) → Contains gone other → key ≢ other

-- each row is kept under its own key, and each top-up under its own number
pub record HasOwnKeys (content : Content) : Type 0 where
  pub rows : (key : Key) (row : RowFacts) → content.rows key ≡ Some row → key_of row ≡ key
  pub topups : (number : List ℕ) (topup : TopUpFacts) → content.topups number ≡ Some topup
      → topup.voucher ≡ number
