-- Worked rows of `acknowledged`: what counts as acknowledged, and what doesn't.
use Rattle.std.proofs.Common.{◌≡◌, ℕ, Bool, true, false, List, [], ◌∷◌, refl, arith}
use Rattle.std.specs.Prelude.{codes, None}
use Rattle.acct_model.specs.declared.entry.Entry.{Entry}
use Rattle.acct_model.specs.declared.entry.Entry.TheVariants as entry
use Rattle.acct_book.specs.Effect.{Effect, added, repeated, differs, failed, looked}
use Rattle.acct_book.specs.Effect.{unasked}
use Rattle.acct_wire.specs.declared.reason.Reason.TheVariants as reason
use Rattle.acct_site.specs.declared.config.Config.{Config}
use Rattle.acct_service.specs.declared.event.Event.{Event}
use Rattle.acct_service.specs.declared.event.What.TheVariants.{Desk}
use Rattle.acct_service.specs.Machine.{Answer, replied, dropped, mute, Visit}
use Rattle.acct_service.specs.Life.{served, acknowledged}

abbrev voucher : List ℕ → List ℕ → ℕ → ℕ → Entry
voucher number account amount moment = entry.TopUp (record {
  voucher = number;
  account = account;
  sum = amount;
  when = moment;
})

abbrev v1 : Entry
v1 = voucher (codes "V-1") (codes "al") 500 1000

abbrev site : Config
site = record {
  clients = record { list = []; stamping = None };
  plans = [];
  keys = record { list = []; signing = None };
}

abbrev event : Event
event = record { moment = 1000; what = Desk []; moment_fits = omega arith }

abbrev visit : Answer → Effect → Bool → Visit
visit answer effect is_taken = record {
  site = site;
  oldest = None;
  event = event;
  answer = answer;
  effect = effect;
  is_taken = is_taken;
}

-- A voucher whose 201 is lost is not acknowledged. It is acknowledged once it is sent again and its
-- 200 is taken.
a_lost_response : acknowledged (served [] (
    visit (replied (codes "201")) (added v1) false
    ∷ visit (replied (codes "200")) (repeated v1) true ∷ []
    ) ∷ []) ≡ v1 ∷ []
a_lost_response = refl

-- nor does one count that was refused, that failed, or that had no response
no_success : acknowledged (served [] (
    visit (replied (codes "409")) (differs v1 (record {
      voucher = codes "V-1";
      account = codes "bo";
      sum = 1;
      when = 900;
    })) true
    ∷ visit (replied (codes "503")) (failed v1) true
    ∷ visit (dropped reason.Unavailable) (failed v1) false
    ∷ visit mute unasked false
    ∷ visit (replied (codes "200")) looked true ∷ []
    ) ∷ []) ≡ []
no_success = refl
