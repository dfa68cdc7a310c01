-- A worked span in which a session is carried forward, and what a late report of it does.
use Rattle.std.proofs.Common.{◌≡◌, ℕ, inl, inr, List, [], ◌∷◌, refl, sym, ap, subst, arith}
use Rattle.std.specs.Prelude.{ℤ, negsuc, Some, None, codes, Contains}
use Rattle.acct_model.specs.declared.plan.Plan.{Plan}
use Rattle.acct_model.specs.declared.plan.Count.TheVariants.{Both}
use Rattle.acct_model.specs.declared.entry.Entry.TheVariants as entry
use Rattle.acct_model.specs.declared.report.ReportKind.TheVariants.{Stop}
use Rattle.acct_model.specs.Report.{ReportFacts}
use Rattle.acct_model.specs.Plans.{plan_for}
use Rattle.acct_model.specs.History.{Accepted, History, SessionName, session_of, balance_of}
use Rattle.acct_model.specs.Forward.{Batch, sessions_in, forwarded, CarriesForward}
use Rattle.acct_model.proofs.Lists.{nowhere, front_or_behind}
use Rattle.acct_book.specs.declared.key.Key.{Key}
use Rattle.acct_book.specs.declared.row.SessionState.TheVariants.{Live, Stopped}
use Rattle.acct_book_forward.specs.declared.selection.Stay.TheVariants.{Kept, Open, Recent}
use Rattle.acct_book.specs.Row.{RowFacts}
use Rattle.acct_book.specs.Rows.{name_of, row_of}
use Rattle.acct_book_forward.specs.Carrying.{SelectionFacts, stay_of, IsBare}
use Rattle.acct_service.specs.Life.{carried, set_aside, LivesOn}
use Rattle.acct_service.specs.Settling.{uncarried}

abbrev plans : List Plan
plans = record { class = codes "gold"; block = 1048576; unit = 10; count = Both }
    ∷ record { class = codes "default"; block = 1000000; unit = 5; count = Both } ∷ []

-- the last report of a session of `al`, of so many octets
abbrev stop : List ℕ → List ℕ → ℕ → ReportFacts
stop client session octets = record {
  client = client;
  session = session;
  user = codes "al";
  class = codes "gold";
  kind = Stop;
  input = octets;
  output = 0;
  seconds = 0;
  when = 2000;
  cause = 0;
  calling = [];
  framed = None;
}

-- a session that started two blocks, and the line into which it is carried
abbrev ended : ReportFacts
ended = stop (codes "ap1") (codes "s1") 1500000

abbrev line : ReportFacts
line = stop (codes "(gold)") (codes "al") 2097152

abbrev history : History
history = Accepted (entry.Report ended) ∷ []

abbrev batch : Batch
batch = record { name = session_of ended; names = []; report = line }

abbrev after : History
after = forwarded history (sessions_in batch) line

abbrev row : RowFacts
row = record {
  client = codes "ap1";
  session = codes "s1";
  account = codes "al";
  class = codes "gold";
  plan = codes "gold";
  input = 1500000;
  output = 0;
  seconds = 0;
  first = 2000;
  last = 2000;
  state = Stopped;
  cause = 0;
  calling = [];
  framed = None;
}

row_is : (key : Key) → Contains (sessions_in batch) (name_of key)
    → row_of plans history key ≡ Some row
row_is key at =
    elim (front_or_behind (session_of ended) (name_of key) [] at) [
      | inl same ↦
          let client = sym (ap (λ (n : SessionName). n.client) same) in
          let session = sym (ap (λ (n : SessionName). n.session) same) in
          let is : key ≡ record { client = codes "ap1"; session = codes "s1" } =
          λ i. record { client = client i; session = session i } in
          ap (row_of plans history) is
      | inr none ↦ absurd (nowhere (name_of key) none)
    ]

carries : CarriesForward plans history batch.name batch.names batch.report
carries = record {
  plan = record { class = codes "gold"; block = 1048576; unit = 10; count = Both };
  owner = codes "al";
  are = ((ended, refl, refl, refl), tt);
  raises = record {
    some = omega arith;
    same_plan = refl;
    into = line;
    into_is = refl;
    same_owner = refl;
    blocks = 0;
    whole = refl;
    raised = refl;
  };
}

-- the line says nothing but what the session costs
is_bare : (plan : Plan) → plan_for plans (codes "gold") ≡ Some plan → IsBare plan line
is_bare plan planned =
    let gold : Plan = record { class = codes "gold"; block = 1048576; unit = 10; count = Both } in
    let same : gold ≡ plan = cc in
    subst (λ p. IsBare p line) same (record {
      session = refl;
      counts = refl;
      kind = refl;
      seconds = refl;
      cause = refl;
      calling = refl;
      framed = refl;
    })

-- what ended before the moment 3000 is carried forward, and nothing that is open
abbrev selection : SelectionFacts
selection = record { ended_before = 3000; silent_before = 0; kept = codes "sample" ∷ [] }

a_carried_session : LivesOn (uncarried plans history) (carried plans selection (batch ∷ []))
    (record { plans = plans; history = after; whole = history; aside = set_aside batch })
a_carried_session = (
  after,
  (
    λ class. refl,
    (
      after,
      record {
        taken = λ key at. (row, row_is key at, refl, refl, refl);
        line = refl;
        bare = λ plan planned. is_bare plan planned;
      },
      (carries, refl),
      refl,
    ),
  ),
  refl,
  inl refl,
  (refl, refl),
)

-- a session that ended later, an open one, and one of a kept client stay
others_stay : (stay_of selection (record row { last = 3000 }) ≡ Some Recent)
    × (stay_of selection (record row { state = Live }) ≡ Some Open)
    × (stay_of selection (record row { client = codes "sample" }) ≡ Some Kept)
others_stay = (refl, refl, refl)

abbrev al : History → ℤ
al members = balance_of plans members (codes "al")

-- no balance moves
same_balance : (al history ≡ negsuc 19) × (al after ≡ negsuc 19)
same_balance = (refl, refl)

-- a late report of it is charged again in the book, and moves nothing in the whole history
a_late_report : (al (Accepted (entry.Report ended) ∷ after) ≡ negsuc 39)
    × (al (Accepted (entry.Report ended) ∷ history) ≡ negsuc 19)
a_late_report = (refl, refl)
