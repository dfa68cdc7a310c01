-- Why an audit of a sound book finds nothing.
use Rattle.std.specs.Prelude.{◌≡◌, ℕ, List, [], ◌∷◌, None, All}
use Rattle.acct_model.specs.declared.plan.Plan.{Plan}
use Rattle.acct_model.specs.declared.entry.Entry.{Entry}
use Rattle.acct_model.specs.PlanFaults.{plans_fault}
use Rattle.acct_model.specs.History.{Accepted, History, all_topups, Agrees, Admissible}
use Rattle.acct_book.specs.Content.{Content}
use Rattle.acct_book.specs.Stands.{Stands}
use Rattle.acct_book_audit.specs.Balancing.{IsBalanced}

-- each number of a voucher has one account and one sum
abbrev pub VouchersAgree : History → Type 0
VouchersAgree history = All (Agrees history) (all_topups history)

-- If a content stands for a history whose vouchers agree, every account is balanced. The vouchers
-- of a history agree if it was accepted entry by entry.
pub record SoundBooksBalance : Type 0 where
  pub balanced : (plans : List Plan) (content : Content) (history : History)
      → plans_fault plans ≡ None → Stands plans content history → VouchersAgree history
      → (account : List ℕ) → IsBalanced plans content account
  pub at_first : VouchersAgree []
  pub accepted : (plans : List Plan) (history : History) (next : Entry)
      → Admissible plans history next → VouchersAgree history
      → VouchersAgree (Accepted next ∷ history)
  -- plans that are added, and sessions that are carried forward, leave the top-ups as they are
  pub same_topups : (before after : History) → all_topups after ≡ all_topups before
      → VouchersAgree before → VouchersAgree after
