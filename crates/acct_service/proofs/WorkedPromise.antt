-- Worked rows of what is accepted and due, and contents that do not have it.
use Rattle.std.proofs.Common.{◌≡◌, ◌<◌, ℕ, true, List, [], ◌∷◌, refl, ap, arith, lit<}
use Rattle.std.specs.Prelude.{pos, codes, None, Some, if◌then◌else◌, bytes_eq}
use Rattle.std.specs.Int.Signed.{mag}
use Rattle.acct_model.specs.declared.plan.Plan.{Plan}
use Rattle.acct_model.specs.declared.plan.Count.TheVariants.{Both}
use Rattle.acct_model.specs.declared.entry.Entry.{Entry}
use Rattle.acct_model.specs.declared.entry.Entry.TheVariants as entry
use Rattle.acct_model.specs.declared.report.ReportKind.TheVariants.{Interim}
use Rattle.acct_model.specs.History.{Accepted, History}
use Rattle.acct_book.specs.Content.{Content, empty_content}
use Rattle.acct_book.specs.Effect.{Effect, added, repeated, failed, looked}
use Rattle.acct_service.specs.declared.event.What.TheVariants.{Desk}
use Rattle.acct_service.specs.Machine.{replied, Visit}
use Rattle.acct_service.specs.Promise.{accepted, balance_due, AreBalancesDue}

abbrev plans : List Plan
plans = record { class = codes "gold"; block = 1048576; unit = 10; count = Both } ∷ []

abbrev voucher : Entry
voucher = entry.TopUp (record {
  voucher = codes "V-1";
  account = codes "al";
  sum = 500;
  when = 1000;
})

-- a report of the session s1 of `al`
abbrev report : ℕ → Entry
report octets = entry.Report (record {
  client = codes "ap1";
  session = codes "s1";
  user = codes "al";
  class = codes "gold";
  kind = Interim;
  input = octets;
  output = 0;
  seconds = 0;
  when = 2000;
  cause = 0;
  calling = [];
  framed = None;
})

-- a visit with this effect; its event and its answer are not looked at
abbrev visit : Effect → Visit
visit effect = record {
  site = record {
    clients = record { list = []; stamping = None };
    plans = plans;
    keys = record { list = []; signing = None };
  };
  oldest = None;
  event = record { moment = 1000; what = Desk []; moment_fits = omega arith };
  answer = replied [];
  effect = effect;
  is_taken = true;
}

-- a voucher and its repeat, a report that failed, the same again, an older one that came late, and
-- a page
abbrev visits : List Visit
visits = visit (added voucher) ∷ visit (repeated voucher) ∷ visit (failed (report 1048577))
    ∷ visit (added (report 1048577)) ∷ visit (added (report 4096)) ∷ visit looked ∷ []

abbrev history : History
history = Accepted (report 4096) ∷ Accepted (report 1048577) ∷ Accepted voucher ∷ []

what_is_accepted : accepted [] visits ≡ history
what_is_accepted = refl

-- 500 less two blocks of 10, once
what_is_due : balance_due plans (accepted [] visits) (codes "al") ≡ pos 480
what_is_due = refl

nothing_due : balance_due plans (accepted [] visits) (codes "bo") ≡ pos 0
nothing_due = refl

-- a content in which `al` has this balance, and nobody else any
abbrev keeps : ℕ → Content
keeps balance = record empty_content {
  balances = λ account. if bytes_eq account (codes "al") then Some (pos balance) else None;
}

apart : (low high : ℕ) → low < high → pos low ≡ pos high → ⊥
apart low high less same = let is : low ≡ high = ap mag same in omega (arith, less, is)

-- 470 is not due, as if the session were charged twice; nor is 0, as if the voucher were lost
charged_twice : AreBalancesDue plans history (keeps 470) → ⊥
charged_twice due = apart 470 480 (lit< tt) (due (codes "al"))

voucher_lost : AreBalancesDue plans history empty_content → ⊥
voucher_lost due = apart 0 480 (lit< tt) (due (codes "al"))
