-- The definitions of a history, computed on worked examples.
use Rattle.std.proofs.Common.{◌≡◌, ℕ, List, [], ◌∷◌, ◌++◌, refl}
use Rattle.std.specs.Prelude.{ℤ, pos, negsuc, None, codes, true, false}
use Rattle.acct_model.specs.declared.plan.Plan.{Plan}
use Rattle.acct_model.specs.declared.plan.Count.{Count}
use Rattle.acct_model.specs.declared.plan.Count.TheVariants.{Both, Input, Output}
use Rattle.acct_model.specs.declared.entry.Entry.TheVariants as entry
use Rattle.acct_model.specs.declared.report.ReportKind.TheVariants.{Interim}
use Rattle.acct_model.specs.History.{Member, Accepted, PlansAdded, History, balance_of, is_known}

abbrev plans : List Plan
plans = record { class = codes "gold"; block = 1048576; unit = 10; count = Both }
    ∷ record { class = codes "default"; block = 1000000; unit = 5; count = Both } ∷ []

-- an interim update of a session of `al`
abbrev update : List ℕ → List ℕ → ℕ → Member
update session class octets = Accepted (entry.Report (record {
  client = codes "ap1";
  session = session;
  user = codes "al";
  class = class;
  kind = Interim;
  input = octets;
  output = 0;
  seconds = 0;
  when = 2000;
  cause = 0;
  calling = [];
  framed = None;
}))

abbrev topup : List ℕ → List ℕ → ℕ → Member
topup voucher account amount =
    Accepted (entry.TopUp (record {
      voucher = voucher;
      account = account;
      sum = amount;
      when = 1000;
    }))

abbrev al : History → ℤ
al history = balance_of plans history (codes "al")

-- the newest entry is first: totals 0, 1, 1,048,576 and 1,048,577 of one session cost 0, 10, 10 and
-- 20
rises_0 : al (update (codes "s2") (codes "gold") 0 ∷ []) ≡ pos 0
rises_0 = refl

rises_1 : al (update (codes "s2") (codes "gold") 1 ∷ update (codes "s2") (codes "gold") 0 ∷ [])
    ≡ negsuc 9
rises_1 = refl

rises_3 : al (update (codes "s2") (codes "gold") 1048577
    ∷ update (codes "s2") (codes "gold") 1048576 ∷ update (codes "s2") (codes "gold") 1
    ∷ update (codes "s2") (codes "gold") 0 ∷ []) ≡ negsuc 19
rises_3 = refl

-- a total of 2^32 octets costs 40,960
gigaword : al (update (codes "s3") (codes "gold") 4294967296 ∷ []) ≡ negsuc 40959
gigaword = refl

-- a lower total that is reported later changes nothing, and one that is reported first is overtaken
lower_later : al (update (codes "s4") (codes "gold") 1048576
    ∷ update (codes "s4") (codes "gold") 3145728 ∷ []) ≡ negsuc 29
lower_later = refl

lower_first : al (update (codes "s4") (codes "gold") 3145728
    ∷ update (codes "s4") (codes "gold") 1048576 ∷ []) ≡ negsuc 29
lower_first = refl

-- the Class of the first report counts
gold_first : al (update (codes "s9") [] 3000000 ∷ update (codes "s9") (codes "gold") 3000000 ∷ [])
    ≡ negsuc 29
gold_first = refl

none_first : al (update (codes "s9") (codes "gold") 3000000 ∷ update (codes "s9") [] 3000000 ∷ [])
    ≡ negsuc 14
none_first = refl

-- a voucher that is received twice counts once, and one to another account not at all
vouchers : al (topup (codes "V-2") (codes "bo") 300 ∷ topup (codes "V-1") (codes "al") 500
    ∷ update (codes "s2") (codes "gold") 1048577 ∷ topup (codes "V-1") (codes "al") 500 ∷ [])
    ≡ pos 480
vouchers = refl

-- who owns a session or a voucher is known
owner : is_known (update (codes "s1") [] 0 ∷ []) (codes "al") ≡ true
owner = refl

stranger : is_known (update (codes "s1") [] 0 ∷ []) (codes "bo") ≡ false
stranger = refl

-- a plan `link` that counts so, after input 5,000,000 and output 1 and after input 0 and output
-- 1,048,577 of one session, in both orders
abbrev link : Count → List Plan
link count = record { class = codes "link"; block = 1048576; unit = 10; count = count } ∷ plans

abbrev linked : ℕ → ℕ → Member
linked input output = Accepted (entry.Report (record {
  client = codes "ap1";
  session = codes "s5";
  user = codes "al";
  class = codes "link";
  kind = Interim;
  input = input;
  output = output;
  seconds = 0;
  when = 2000;
  cause = 0;
  calling = [];
  framed = None;
}))

abbrev owes : Count → History → ℤ
owes count history = balance_of (link count) history (codes "al")

counts_out_1 : owes Output (linked 5000000 1 ∷ []) ≡ negsuc 9
counts_out_1 = refl

counts_out_2 : owes Output (linked 0 1048577 ∷ linked 5000000 1 ∷ []) ≡ negsuc 19
counts_out_2 = refl

counts_out_other : owes Output (linked 5000000 1 ∷ linked 0 1048577 ∷ []) ≡ negsuc 19
counts_out_other = refl

counts_in_1 : owes Input (linked 5000000 1 ∷ []) ≡ negsuc 49
counts_in_1 = refl

counts_in : owes Input (linked 0 1048577 ∷ linked 5000000 1 ∷ []) ≡ negsuc 49
counts_in = refl

counts_in_other : owes Input (linked 5000000 1 ∷ linked 0 1048577 ∷ []) ≡ negsuc 49
counts_in_other = refl

counts_both_1 : owes Both (linked 5000000 1 ∷ []) ≡ negsuc 49
counts_both_1 = refl

counts_both_other : owes Both (linked 5000000 1 ∷ linked 0 1048577 ∷ []) ≡ negsuc 49
counts_both_other = refl

counts_both : owes Both (linked 0 1048577 ∷ linked 5000000 1 ∷ []) ≡ negsuc 49
counts_both = refl

-- a session of the class `silver` is charged by `default`, and stays so after a plan `silver` was
-- added; a later session is charged by `silver`
abbrev silver : List Plan
silver = record { class = codes "silver"; block = 1000000; unit = 7; count = Both } ∷ []

abbrev later : History → ℤ
later history = balance_of (plans ++ silver) history (codes "al")

silver_before : al (update (codes "s5") (codes "silver") 3000000 ∷ []) ≡ negsuc 14
silver_before = refl

silver_added : later (PlansAdded silver ∷ update (codes "s5") (codes "silver") 3000000 ∷ [])
    ≡ negsuc 14
silver_added = refl

silver_kept : later (update (codes "s5") (codes "silver") 4000000 ∷ PlansAdded silver
    ∷ update (codes "s5") (codes "silver") 3000000 ∷ []) ≡ negsuc 19
silver_kept = refl

silver_new : later (update (codes "s6") (codes "silver") 3000000 ∷ PlansAdded silver ∷ [])
    ≡ negsuc 20
silver_new = refl
