-- What three whole walks met and found, in terms of the content.
use Rattle.std.proofs.Common.{◌≡◌, ℕ, Bool, List, [], ◌∷◌, ◌++◌, map, refl, sym, ap}
use Rattle.std.proofs.Common.{◌∙◌, subst, length, suc}
use Rattle.std.specs.Prelude.{Contains, Option, Some, None, ℤ, pos, flat_map, is_some, unwrap_or}
use Rattle.std.specs.Prelude.{Vec}
use Rattle.std.specs.Global.{Global}
use Rattle.std.specs.Map.{keys_of}
use Rattle.std.specs.List.Sorted.{IsStrictlySortedBy}
use Rattle.acct_model.specs.declared.plan.Plan.{Plan}
use Rattle.acct_model.specs.Vouchers.{TopUpFacts}
use Rattle.acct_model.proofs.Lists.{here, deeper, from_map, to_map}
use Rattle.acct_book.specs.declared.key.Key.{Key}
use Rattle.acct_book.specs.Row.{RowFacts}
use Rattle.acct_book.specs.Content.{Content, key_of}
use Rattle.acct_book.specs.Maps.{octets_cmp, key_cmp}
use Rattle.acct_book.specs.Walk.{AreAllPast, IsNext}
use Rattle.std.specs.Io.KnownBytes.{Appends}
use Rattle.acct_book.specs.Meets.{Meets}
use Rattle.acct_book.proofs.WalkLaws.{walks-meet-all}
use Rattle.acct_book.proofs.Walking.{walk_of}
use Rattle.acct_book_audit.specs.declared.statement.Statement.{Statement}
use Rattle.acct_book_audit.specs.declared.auditor.Seen.{Seen}
use Rattle.acct_book_audit.specs.declared.auditor.Audit.{Audit}
use Rattle.acct_book_audit.specs.Balancing.{IsStatement}
use Rattle.acct_book_audit.specs.Finding.{Finding}
use Rattle.acct_book_audit.specs.Audit.{account_findings, session_findings, voucher_findings}
use Rattle.acct_book_audit.specs.Audit.{Counts}
use Rattle.acct_book_audit.specs.Audit.{AreAccounts, IsAudit}
use Rattle.acct_book_audit.specs.inner.Walk.{octets_in, IsNextAccount, IsNextSession}
use Rattle.acct_book_audit.specs.inner.Walk.{IsNextVoucher, session_found, voucher_found}
use Rattle.acct_book_audit.proofs.Walking.{each_met, told_then}

-- ---- lists

length-mapped : {M E : Type 0} (entry : M → E) (members : List M)
    → length (map entry members) ≡ length members
length-mapped entry [] = refl
length-mapped entry (m ∷ rest) = ap suc (length-mapped entry rest)

-- what is found of members is what is found of their entries
found_same : {M E : Type 0} (found : M → List Finding) (of : E → List Finding) (entry : M → E)
    (members : List M) → ((m : M) → Contains members m → found m ≡ of (entry m))
    → flat_map found members ≡ flat_map of (map entry members)
found_same found of entry [] same = refl
found_same found of entry (m ∷ rest) same =
    λ i. same m (here m rest) i
    ++ found_same found of entry rest (λ x there. same x (deeper m x rest there)) i

counts_same : {M E : Type 0} (entry : M → E) (members : List M) (found those : List Finding)
    (seen : Seen) → found ≡ those → Counts seen (length members) (length found)
    → Counts seen (length (map entry members)) (length those)
counts_same entry members found those seen same counts = record {
  all = counts.all ∙ sym (length-mapped entry members);
  wrong = counts.wrong ∙ ap length same;
}

module _ (plans : List Plan) (content : Content) where
  -- ---- accounts

  abbrev pub Account : Type 0
  Account = Vec ℕ Global × Statement

  abbrev pub account_key : Account → Vec ℕ Global
  account_key member = member.0

  abbrev shown : Account → List ℕ × Statement
  shown member = (member.0.items, member.1)

  abbrev balanced : Account → List ℕ × ℤ
  balanced member = (member.0.items, unwrap_or member.1.balance (pos 0))

  abbrev Stated : List ℕ × Statement → Type 0
  Stated a = (balance : ℤ) × (content.balances a.0 ≡ Some balance)
      × IsStatement plans content a.0 (Some balance) a.1

  next_balanced : (after : Option (Vec ℕ Global)) (m : Account)
      → IsNextAccount plans content after (Some m)
      → IsNext octets_cmp content.balances (octets_in after) (Some (balanced m))
  next_balanced after m (balance, next, states) =
      subst (λ b. IsNext octets_cmp content.balances (octets_in after) (Some (m.0.items, b)))
      (sym (ap (λ (o : Option ℤ). unwrap_or o (pos 0)) states.balance)) next

  same_keys : (members : List Account)
      → keys_of (map balanced members) ≡ keys_of (map shown members)
  same_keys [] = refl
  same_keys (m ∷ rest) = ap (λ ks. m.0.items ∷ ks) (same_keys rest)

  abbrev pub MeetAccounts : List Account → Type 0
  MeetAccounts members = Meets (IsNextAccount plans content) account_key None members

  accounts_met : (members : List Account) → MeetAccounts members
      → AreAllPast octets_cmp content.balances None (map balanced members)
  accounts_met members meets =
      (walks-meet-all content).balances None (map balanced members)
      (walk_of octets_cmp content.balances (IsNextAccount plans content) account_key octets_in
      balanced next_balanced (λ after end. end) (λ m. refl) None members meets)

  are_accounts : (members : List Account) → MeetAccounts members
      → AreAccounts plans content (map shown members)
  are_accounts members meets =
      let met = accounts_met members meets in
      record {
        in_order = subst (IsStrictlySortedBy octets_cmp) (same_keys members) met.in_order;
        state = λ account statement there.
            let (m, among, is) = from_map shown members (account, statement) there in
            subst Stated is (each_met (IsNextAccount plans content) account_key
            (λ m. Stated (shown m)) (λ after m next. (next.0, next.1.0, next.2)) None members meets
            m among);
        all = λ account balance stored.
            let there = (met.each account balance).1 (stored, tt) in
            let (m, among, is) = from_map balanced members (account, balance) there in (
              m.1,
              subst (λ a. Contains (map shown members) (a, m.1)) (ap (λ e. e.0) is)
                  (to_map shown members m among),
            );
      }

  abbrev pub account_found : Account → List Finding
  account_found member = account_findings member.0.items member.1

  -- ---- sessions

  abbrev pub session_key : RowFacts × Bool → Key
  session_key member = key_of member.0

  abbrev session_entry : RowFacts × Bool → Key × RowFacts
  session_entry member = (key_of member.0, member.0)

  abbrev pub session_told : RowFacts × Bool → List Finding
  session_told member = session_found member.0 member.1

  abbrev of_session : Key × RowFacts → List Finding
  of_session s = session_findings content s.1

  abbrev pub MeetSessions : List (RowFacts × Bool) → Type 0
  MeetSessions members = Meets (IsNextSession plans content) session_key None members

  are_sessions : (members : List (RowFacts × Bool)) → MeetSessions members
      → AreAllPast key_cmp content.rows None (map session_entry members)
  are_sessions members meets =
      (walks-meet-all content).rows None (map session_entry members)
      (walk_of key_cmp content.rows (IsNextSession plans content) session_key (λ after. after)
      session_entry (λ after m next. next.0) (λ after end. end) (λ m. refl) None members meets)

  sessions_found : (members : List (RowFacts × Bool)) → MeetSessions members
      → flat_map session_told members ≡ flat_map of_session (map session_entry members)
  sessions_found members meets = found_same session_told of_session session_entry members
      (λ m there. ap (session_found m.0) (each_met (IsNextSession plans content) session_key
      (λ m. m.1 ≡ is_some (content.balances m.0.account)) (λ after m next. next.1) None members
      meets m there))

  -- ---- vouchers

  abbrev pub voucher_key : TopUpFacts × Bool → List ℕ
  voucher_key member = member.0.voucher

  abbrev voucher_entry : TopUpFacts × Bool → List ℕ × TopUpFacts
  voucher_entry member = (member.0.voucher, member.0)

  abbrev pub voucher_told : TopUpFacts × Bool → List Finding
  voucher_told member = voucher_found member.0 member.1

  abbrev of_voucher : List ℕ × TopUpFacts → List Finding
  of_voucher t = voucher_findings content t.1

  abbrev pub MeetVouchers : List (TopUpFacts × Bool) → Type 0
  MeetVouchers members = Meets (IsNextVoucher plans content) voucher_key None members

  are_vouchers : (members : List (TopUpFacts × Bool)) → MeetVouchers members
      → AreAllPast octets_cmp content.topups None (map voucher_entry members)
  are_vouchers members meets =
      (walks-meet-all content).topups None (map voucher_entry members)
      (walk_of octets_cmp content.topups (IsNextVoucher plans content) voucher_key (λ after. after)
      voucher_entry (λ after m next. next.0) (λ after end. end) (λ m. refl) None members meets)

  vouchers_found : (members : List (TopUpFacts × Bool)) → MeetVouchers members
      → flat_map voucher_told members ≡ flat_map of_voucher (map voucher_entry members)
  vouchers_found members meets = found_same voucher_told of_voucher voucher_entry members
      (λ m there. ap (voucher_found m.0) (each_met (IsNextVoucher plans content) voucher_key
      (λ m. m.1 ≡ is_some (content.balances m.0.account)) (λ after m next. next.1) None members
      meets m there))

  -- ---- together

  abbrev of_account : List ℕ × Statement → List Finding
  of_account a = account_findings a.0 a.1

  module _ (audit : Audit) (accounts : List Account) (sessions : List (RowFacts × Bool))
      (vouchers : List (TopUpFacts × Bool)) where
    abbrev pub all_found : List Finding
    all_found = flat_map account_found accounts ++ flat_map session_told sessions
        ++ flat_map voucher_told vouchers

    pub audit_is : MeetAccounts accounts → MeetSessions sessions → MeetVouchers vouchers
        → Counts audit.accounts (length accounts) (length (flat_map account_found accounts))
        → Counts audit.sessions (length sessions) (length (flat_map session_told sessions))
        → Counts audit.vouchers (length vouchers) (length (flat_map voucher_told vouchers))
        → IsAudit plans content audit all_found
    audit_is met_accounts met_sessions met_vouchers count_accounts count_sessions count_vouchers =
        let same_accounts = found_same account_found of_account shown accounts (λ m there. refl) in
        let same_sessions = sessions_found sessions met_sessions in
        let same_vouchers = vouchers_found vouchers met_vouchers in
        record {
          accounts = map shown accounts;
          sessions = map session_entry sessions;
          topups = map voucher_entry vouchers;
          are_accounts = are_accounts accounts met_accounts;
          are_sessions = are_sessions sessions met_sessions;
          are_topups = are_vouchers vouchers met_vouchers;
          of_accounts = counts_same shown accounts (flat_map account_found accounts)
              (flat_map of_account (map shown accounts)) audit.accounts same_accounts
              count_accounts;
          of_sessions = counts_same session_entry sessions (flat_map session_told sessions)
              (flat_map of_session (map session_entry sessions)) audit.sessions same_sessions
              count_sessions;
          of_vouchers = counts_same voucher_entry vouchers (flat_map voucher_told vouchers)
              (flat_map of_voucher (map voucher_entry vouchers)) audit.vouchers same_vouchers
              count_vouchers;
          found = λ i. same_accounts i ++ same_sessions i ++ same_vouchers i;
        }

    pub audit_told : (words : Finding → List ℕ) (a b c d : Option (List ℕ))
        → Appends a b (flat_map words (flat_map account_found accounts))
        → Appends b c (flat_map words (flat_map session_told sessions))
        → Appends c d (flat_map words (flat_map voucher_told vouchers))
        → Appends a d (flat_map words all_found)
    audit_told words a b c d first second third =
        told_then words a c d (flat_map account_found accounts ++ flat_map session_told sessions)
        (flat_map voucher_told vouchers)
        (told_then words a b c (flat_map account_found accounts) (flat_map session_told sessions)
        first second) third

-- the walks after the first began from a book with the same content
pub audited : (plans : List Plan) (content second third : Content) (audit : Audit)
    (accounts : List (Vec ℕ Global × Statement)) (sessions : List (RowFacts × Bool))
    (vouchers : List (TopUpFacts × Bool)) → second ≡ content → third ≡ content
    → MeetAccounts plans content accounts → MeetSessions plans second sessions
    → MeetVouchers plans third vouchers
    → Counts audit.accounts (length accounts)
    (length (flat_map (account_found plans content) accounts))
    → Counts audit.sessions (length sessions)
    (length (flat_map (session_told plans content) sessions))
    → Counts audit.vouchers (length vouchers)
    (length (flat_map (voucher_told plans content) vouchers))
    → IsAudit plans content audit (all_found plans content audit accounts sessions vouchers)
audited plans content second third audit accounts sessions vouchers same also met_accounts
    met_sessions met_vouchers count_accounts count_sessions count_vouchers =
    audit_is plans content audit accounts sessions vouchers met_accounts
    (subst (λ c. MeetSessions plans c sessions) same met_sessions)
    (subst (λ c. MeetVouchers plans c vouchers) also met_vouchers) count_accounts count_sessions
    count_vouchers
