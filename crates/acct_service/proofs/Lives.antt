-- What is kept has its claims, and so settles.
use Rattle.std.proofs.Common.{◌≡◌, inl, inr, List, [], ◌∷◌, refl, sym}
use Rattle.std.proofs.Common.{◌∙◌, ◌≤◌, ap, subst, arith, Some, None}
use Rattle.std.specs.Prelude.{Contains, bytes_eq}
use Rattle.std.specs.List.{filter}
use Rattle.std.specs.Option.{option_or}
use Rattle.acct_model.specs.declared.plan.Plan.{Plan}
use Rattle.acct_model.specs.declared.entry.Entry.{Entry}
use Rattle.acct_model.specs.declared.entry.Entry.TheVariants as entry
use Rattle.acct_model.specs.Vouchers.{TopUpFacts}
use Rattle.acct_model.specs.Plans.{plan_for}
use Rattle.acct_model.specs.History.{Member, Accepted, PlansAdded, History, counted_of}
use Rattle.acct_model.specs.History.{all_topups, first_of, topup_of}
use Rattle.acct_model.specs.Claims.{Claim, OfReport, OfTopUp, report_claim, topup_claim, claim_of}
use Rattle.acct_model.specs.Claims.{claims, ClaimsNoMore}
use Rattle.acct_model.specs.Agreement.{AddsForNone, BalancesAreEqual}
use Rattle.acct_model.proofs.Agree.{counted-claimed, balances-covered}
use Rattle.acct_model.proofs.Claimed.{claim_of_topup}
use Rattle.acct_model.proofs.Lists.{here, deeper, nowhere, front_or_behind, from_filter}
use Rattle.acct_model.proofs.Same.{Decides-bytes_eq}
use Rattle.acct_service.specs.Settling.{IsDelivered, IsKept, history_of}

-- ---- claims

-- the claim of the first entry, or one of the others'
claimed_by : (e : Entry) (one : Claim) (es : History) (claim : Claim) → claim_of e ≡ Some one
    → Contains (one ∷ claims es) claim
    → ((claim_of e ≡ Some claim) → Contains (Accepted e ∷ es) (Accepted e)
    → (x : Entry) × Contains (Accepted e ∷ es) (Accepted x) × (claim_of x ≡ Some claim))
    → (Contains (claims es) claim
    → (x : Entry) × Contains (Accepted e ∷ es) (Accepted x) × (claim_of x ≡ Some claim))
    → (x : Entry) × Contains (Accepted e ∷ es) (Accepted x) × (claim_of x ≡ Some claim)
claimed_by e one es claim is h first rest =
    elim (front_or_behind one claim (claims es) h) [
      | inl same ↦ first (is ∙ ap Some same) (here (Accepted e) es)
      | inr behind ↦ rest behind
    ]

-- each claim of a history is that of an entry that was accepted in it
pub from_claims : (es : History) (claim : Claim) → Contains (claims es) claim
    → (e : Entry) × Contains es (Accepted e) × (claim_of e ≡ Some claim)
from_claims [] claim h = absurd (nowhere claim h)
from_claims (Accepted (entry.Report r) ∷ es) claim h =
    claimed_by (entry.Report r) (OfReport (report_claim r)) es claim refl h
    (λ is at. (entry.Report r, at, is))
    (λ behind. let (e, at, is) = from_claims es claim behind in
    (e, deeper (Accepted (entry.Report r)) (Accepted e) es at, is))
from_claims (Accepted (entry.Restart r) ∷ es) claim h =
    let (e, at, is) = from_claims es claim h in
    (e, deeper (Accepted (entry.Restart r)) (Accepted e) es at, is)
from_claims (Accepted (entry.TopUp t) ∷ es) claim h =
    claimed_by (entry.TopUp t) (OfTopUp (topup_claim t)) es claim refl h
    (λ is at. (entry.TopUp t, at, is))
    (λ behind. let (e, at, is) = from_claims es claim behind in
    (e, deeper (Accepted (entry.TopUp t)) (Accepted e) es at, is))
from_claims (PlansAdded plans ∷ es) claim h =
    let (e, at, is) = from_claims es claim h in
    (e, deeper (PlansAdded plans) (Accepted e) es at, is)

claimed_after : (next : Member) (es : History) (claim : Claim) → Contains (claims es) claim
    → Contains (claims (next ∷ es)) claim
claimed_after (Accepted (entry.Report r)) es claim h =
    deeper (OfReport (report_claim r)) claim (claims es) h
claimed_after (Accepted (entry.Restart r)) es claim h = h
claimed_after (Accepted (entry.TopUp t)) es claim h =
    deeper (OfTopUp (topup_claim t)) claim (claims es) h
claimed_after (PlansAdded plans) es claim h = h

claimed_first : (e : Entry) (es : History) (claim : Claim) → claim_of e ≡ Some claim
    → Contains (claims (Accepted e ∷ es)) claim
claimed_first (entry.Report r) es claim is =
    let same : OfReport (report_claim r) ≡ claim = cc in
    subst (λ c. Contains (OfReport (report_claim r) ∷ claims es) c) same
    (here (OfReport (report_claim r)) (claims es))
claimed_first (entry.Restart r) es claim is = cc
claimed_first (entry.TopUp t) es claim is =
    let same : OfTopUp (topup_claim t) ≡ claim = cc in
    subst (λ c. Contains (OfTopUp (topup_claim t) ∷ claims es) c) same
    (here (OfTopUp (topup_claim t)) (claims es))

-- the claim of an accepted entry is one of the history's
pub to_claims : (es : History) (e : Entry) (claim : Claim) → Contains es (Accepted e)
    → claim_of e ≡ Some claim → Contains (claims es) claim
to_claims [] e claim h is = absurd (nowhere (Accepted e) h)
to_claims (x ∷ es) e claim h is =
    elim (front_or_behind x (Accepted e) es h) [
      | inl same ↦ subst (λ m. Contains (claims (m ∷ es)) claim) (sym same)
          (claimed_first e es claim is)
      | inr behind ↦ claimed_after x es claim (to_claims es e claim behind is)
    ]

-- if each entry that was accepted in one history is kept in another, no claim is more
pub kept_claims : (these those : History)
    → ((e : Entry) → Contains these (Accepted e) → IsKept those e) → ClaimsNoMore these those
kept_claims these those kept claim h =
    let (e, at, is) = from_claims these claim h in
    elim (kept e at) [
      | inl there ↦ to_claims those e claim there is
      | inr (t, same, claimed) ↦
          let topup : claim_of e ≡ Some (OfTopUp (topup_claim t)) = ap claim_of same in
          let one : OfTopUp (topup_claim t) ≡ claim = cc (is, topup) in
          subst (λ c. Contains (claims those) c) one claimed
    ]

-- ---- settling

-- A history whose claims are sent ones and which has each acknowledged claim has the balances of
-- what was sent.
pub settles : (plans : List Plan) (sent : History) (told : List Entry) (last : History)
    → AddsForNone last → AddsForNone sent → ClaimsNoMore (history_of told) last
    → IsDelivered plans sent told last → BalancesAreEqual plans last sent
settles plans sent told last fresh new kept (no_other, by) =
    balances-covered plans last sent fresh new by.consistent no_other
    (λ t h. kept (OfTopUp (topup_claim t)) (by.topups t h))
    (λ r h.
    let plan = plan_for plans r.class in
    let s = by.reports r h in
    let q = counted-claimed plan (history_of told) last kept s.0 s.1 in
    let sent_counts = counted_of plan r in
    let told_counts = counted_of plan s.0 in
    let last_counts = counted_of plan q.0 in
    let up : sent_counts ≤ told_counts = s.3 in
    let on : told_counts ≤ last_counts = q.3 in
    let no_less : sent_counts ≤ last_counts = omega (arith, up, on) in
    (q.0, q.1, q.2 ∙ s.2, no_less))

-- ---- repeated top-ups

pub first_stands : (kept : TopUpFacts) (ts : List TopUpFacts) → first_of ts ≡ Some kept
    → Contains ts kept
first_stands kept [] e = cc
first_stands kept (t ∷ ts) e =
    elim (first_of ts) as (λ o. first_of ts ≡ o → option_or o (Some t) ≡ Some kept
    → Contains (t ∷ ts) kept) [
      | None ↦ λ is h. let same : t ≡ kept = cc in
          subst (λ v. Contains (t ∷ ts) v) same (here t ts)
      | Some x ↦ λ is h. deeper t kept ts (first_stands kept ts (is ∙ h))
    ] refl e

-- the claim of a repeated top-up is there already
pub repeated_claimed : (old : History) (t kept : TopUpFacts) → topup_of old t.voucher ≡ Some kept
    → kept.account ≡ t.account → kept.sum ≡ t.sum
    → Contains (claims old) (OfTopUp (topup_claim t))
repeated_claimed old t kept first account amount =
    let stands = first_stands kept (filter (λ x. bytes_eq t.voucher x.voucher) (all_topups old))
    first in
    let one = from_filter (λ x. bytes_eq t.voucher x.voucher) (all_topups old) kept stands in
    let number : kept.voucher ≡ t.voucher =
    sym ((Decides-bytes_eq t.voucher kept.voucher).0 one.1) in
    let same : topup_claim kept ≡ topup_claim t =
    λ i. record { voucher = number i; account = account i; sum = amount i } in
    subst (λ c. Contains (claims old) (OfTopUp c)) same (claim_of_topup old kept one.0)
