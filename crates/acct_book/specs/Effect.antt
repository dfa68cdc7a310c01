-- What a call does to a history. The effect determines the history after the call.
use Rattle.std.specs.Prelude.{◌≡◌, ℤ, List, ◌∷◌, Result, Ok, Err}
use Rattle.acct_model.specs.declared.plan.Plan.{Plan}
use Rattle.acct_model.specs.declared.entry.Entry.{Entry}
use Rattle.acct_model.specs.declared.entry.Entry.TheVariants as entry
use Rattle.acct_model.specs.Vouchers.{TopUpFacts}
use Rattle.acct_model.specs.History.{Accepted, History, Admissible}
use Rattle.acct_book.specs.declared.recording.Recorded.{Recorded}
use Rattle.acct_book.specs.declared.recording.Recorded.TheVariants.{New, Repeat}
use Rattle.acct_book.specs.declared.recording.RecordError.{RecordError}
use Rattle.acct_book.specs.declared.recording.RecordError.TheVariants.{VoucherDiffers, BalanceLimit}
use Rattle.acct_book.specs.declared.recording.RecordError.TheVariants.{Unavailable}
use Rattle.acct_book.specs.Outcome.{IsFresh, IsRepeated, Differs, IsOverLimit}

pub data Effect : Type 0 where
  -- the entry was accepted
  added : Entry → Effect
  -- the top-up was kept already, with the same account and sum
  repeated : Entry → Effect
  -- the top-up was refused: its number is kept by this one, of another account or sum
  differs : Entry → TopUpFacts → Effect
  -- the entry was refused: the balance of its account, now this one, would leave its range
  limited : Entry → ℤ → Effect
  -- the entry was requested, and the store or an allocation failed
  failed : Entry → Effect
  -- no entry was requested, and the book returned what was read
  looked : Effect
  -- no entry was requested, and the book was called and returned nothing
  passed : Effect
  -- the book was not called
  unasked : Effect

-- the history after it
abbrev pub after_effect : History → Effect → History
after_effect history (added asked) = Accepted asked ∷ history
after_effect history effect = history

-- what it says of the history before
abbrev pub Holds : List Plan → History → Effect → Type 0
Holds plans history (added asked) = Admissible plans history asked × IsFresh history asked
Holds plans history (repeated asked) = IsRepeated history asked
Holds plans history (differs asked kept) = Differs history asked kept
Holds plans history (limited asked balance) = IsOverLimit plans history asked balance
Holds plans history effect = Unit {0}

-- the book returned something
abbrev pub IsTold : Effect → Type 0
IsTold (failed asked) = ⊥
IsTold passed = ⊥
IsTold unasked = ⊥
IsTold effect = Unit {0}

abbrev pub IsUnasked : Effect → Type 0
IsUnasked unasked = Unit {0}
IsUnasked effect = ⊥

-- the history stays
abbrev pub IsNotAdded : Effect → Type 0
IsNotAdded (added asked) = ⊥
IsNotAdded effect = Unit {0}

-- the entry was added, or its call failed: a crash may leave its whole effect
abbrev pub Tries : Effect → Entry → Type 0
Tries (added next) asked = asked ≡ next
Tries (failed next) asked = asked ≡ next
Tries effect asked = ⊥

abbrev pub IsOfTopUp : Entry → Type 0
IsOfTopUp (entry.TopUp topup) = Unit {0}
IsOfTopUp other = ⊥

-- only a top-up is kept already, or differs
abbrev pub IsOwn : Effect → Type 0
IsOwn (repeated asked) = IsOfTopUp asked
IsOwn (differs asked kept) = IsOfTopUp asked
IsOwn effect = Unit {0}

-- what recording an entry did, by the answer
abbrev pub effect_of : Entry → Result Recorded RecordError → Effect
effect_of asked (Ok New) = added asked
effect_of asked (Ok Repeat) = repeated asked
effect_of asked (Err (VoucherDiffers kept)) = differs asked kept
effect_of asked (Err (BalanceLimit balance)) = limited asked balance
effect_of asked (Err Unavailable) = failed asked
