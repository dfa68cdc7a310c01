-- An audit of a whole book finds nothing exactly if every account is balanced.
use Rattle.std.proofs.Common.{◌≡◌, ◌<◌, ℕ, ◌+◌, Bool, true, false, cond, List, [], ◌∷◌, map, refl}
use Rattle.std.proofs.Common.{sym, ap, ◌∙◌, subst, arith, true≢false, inl, inr, length}
use Rattle.std.proofs.Common.{length-append}
use Rattle.std.specs.Prelude.{Contains, Option, Some, None, ℤ, flat_map, is_some, bytes_eq}
use Rattle.std.specs.Prelude.{◌↔◌, ◌==◌, pos, ◌-ℤ◌}
use Rattle.std.specs.List.{filter, AllByRecursion}
use Rattle.std.specs.List.Sorted.{IsStrictlySortedBy}
use Rattle.std.specs.Map.{keys_of}
use Rattle.std.specs.declared.cmp.Ordering.{Ordering}
use Rattle.std.specs.declared.cmp.Ordering.TheVariants.{Less}
use Rattle.std.proofs.lemmas.Bool.Decides.{nat_tests}
use Rattle.acct_model.specs.declared.plan.Plan.{Plan}
use Rattle.acct_model.specs.Vouchers.{TopUpFacts}
use Rattle.acct_model.proofs.Lists.{here, deeper, nowhere, front_or_behind, from_map, to_map}
use Rattle.acct_model.proofs.Lists.{from_filter, to_filter, all_listed}
use Rattle.acct_book.specs.declared.key.Key.{Key}
use Rattle.acct_book.specs.Row.{RowFacts}
use Rattle.acct_book.specs.Content.{Content, HasOwnKeys, key_of}
use Rattle.acct_book.specs.Maps.{octets_cmp, key_cmp}
use Rattle.acct_book.specs.Walk.{AreAllPast, AreMembers, AreRowsOf, AreTopUpsOf}
use Rattle.acct_book.proofs.Keys.{octets_refl, octets_are}
use Rattle.acct_book_audit.specs.declared.statement.Statement.{Statement}
use Rattle.acct_book_audit.specs.declared.auditor.Audit.{Audit}
use Rattle.acct_book_audit.specs.Balancing.{is_right, is_planned, due_balance, credited_by}
use Rattle.acct_book_audit.specs.Balancing.{charged_by}
use Rattle.acct_book_audit.specs.Balancing.{IsBalanced}
use Rattle.acct_book_audit.specs.Finding.{Finding, WrongAccount, StraySession, StrayVoucher}
use Rattle.acct_book_audit.specs.Audit.{account_findings, session_findings, voucher_findings}
use Rattle.acct_book_audit.specs.Audit.{IsAudit}
use Rattle.acct_book_audit.specs.Audit.{IsClean}
use Rattle.acct_book_audit.proofs.Right.{right_balanced}

-- ---- lists of findings

nothing_in : {X : Type 0} (xs : List X) → length xs ≡ 0 → xs ≡ []
nothing_in [] e = refl
nothing_in (x ∷ xs) e = absurd (omega (arith, e))

-- if nothing is found, nothing is found of each member
pub none_of_each : {M : Type 0} (f : M → List Finding) (members : List M)
    → length (flat_map f members) ≡ 0 → (m : M) → Contains members m → f m ≡ []
none_of_each f [] none m there = absurd (nowhere m there)
none_of_each f (x ∷ rest) none m there =
    let both = length-append (f x) (flat_map f rest) in
    let first : length (f x) ≡ 0 = omega (arith, both, none) in
    let later : length (flat_map f rest) ≡ 0 = omega (arith, both, none) in
    elim (front_or_behind x m rest there) [
      | inl is ↦ ap f (sym is) ∙ nothing_in (f x) first
      | inr behind ↦ none_of_each f rest later m behind
    ]

-- if nothing is found of each member, nothing is found
pub each_of_none : {M : Type 0} (f : M → List Finding) (members : List M)
    → ((m : M) → Contains members m → f m ≡ []) → length (flat_map f members) ≡ 0
each_of_none f [] each = refl
each_of_none f (x ∷ rest) each =
    let first = ap length (each x (here x rest)) in
    let later = each_of_none f rest (λ m there. each m (deeper x m rest there)) in
    length-append (f x) (flat_map f rest) ∙ (λ i. first i + later i)

nothing_if : (b : Bool) (finding : Finding) → cond b [] (finding ∷ []) ≡ [] → b ≡ true
nothing_if true finding e = refl
nothing_if false finding e = absurd (cc)

if_nothing : (b : Bool) (finding : Finding) → b ≡ true → cond b [] (finding ∷ []) ≡ []
if_nothing b finding e = ap (λ c. cond c [] (finding ∷ [])) e

-- ---- the members of an account, among all

all_at : {X L : Type 0} (P : L → Type 0) (key : X → L) (v : X) (vs : List X) (b : Bool) → P (key v)
    → AllByRecursion P (map key vs) → AllByRecursion P (map key (cond b (v ∷ vs) vs))
all_at P key v vs true h rest = (h, rest)
all_at P key v vs false h rest = rest

all_filter : {X L : Type 0} (P : L → Type 0) (key : X → L) (p : X → Bool) (vs : List X)
    → AllByRecursion P (map key vs) → AllByRecursion P (map key (filter p vs))
all_filter P key p [] h = h
all_filter P key p (v ∷ vs) h = all_at P key v (filter p vs) (p v) h.0 (all_filter P key p vs h.1)

sorted_at : {X L : Type 0} (cmp : L → L → Ordering) (key : X → L) (v : X) (vs : List X) (b : Bool)
    → AllByRecursion (λ y. cmp (key v) y ≡ Less) (map key vs) → IsStrictlySortedBy cmp (map key vs)
    → IsStrictlySortedBy cmp (map key (cond b (v ∷ vs) vs))
unfolding IsStrictlySortedBy
sorted_at cmp key v vs true h rest = (h, rest)
sorted_at cmp key v vs false h rest = rest

sorted_filter : {X L : Type 0} (cmp : L → L → Ordering) (key : X → L) (p : X → Bool) (vs : List X)
    → IsStrictlySortedBy cmp (map key vs) → IsStrictlySortedBy cmp (map key (filter p vs))
unfolding IsStrictlySortedBy
sorted_filter cmp key p [] h = h
sorted_filter cmp key p (v ∷ vs) h = sorted_at cmp key v (filter p vs) (p v)
    (all_filter (λ y. cmp (key v) y ≡ Less) key p vs h.0) (sorted_filter cmp key p vs h.1)

module _ {K X : Type 0} (cmp : K → K → Ordering) (key : X → K) (at : K → Option X)
    (own : (k : K) (x : X) → at k ≡ Some x → key x ≡ k) (entries : List (K × X))
    (are : AreAllPast cmp at None entries) (test : X → Bool) where
  abbrev all : List X
  all = map (λ e. e.1) entries

  keyed : (some : List (K × X)) → ((e : K × X) → Contains some e → Contains entries e)
      → map key (map (λ e. e.1) some) ≡ keys_of some
  keyed [] within = refl
  keyed (e ∷ rest) within =
      λ i. own e.0 e.1 ((are.each e.0 e.1).0 (within e (here e rest))).0 i
      ∷ keyed rest (λ d there. within d (deeper e d rest there)) i

  pub members_among : AreMembers cmp key at test (filter test all)
  members_among = record {
    in_order = sorted_filter cmp key test all (subst (IsStrictlySortedBy cmp)
        (sym (keyed entries (λ e there. there))) are.in_order);
    each = λ member. (
      (λ there.
          let (among, passes) = from_filter test all member there in
          let (e, listed, is) = from_map (λ (d : K × X). d.1) entries member among in
          let stored : at e.0 ≡ Some member =
          ((are.each e.0 e.1).0 listed).0 ∙ ap Some is in
          (ap at (own e.0 member stored) ∙ stored, passes)),
      (λ h.
          to_filter test all member
          (to_map (λ (d : K × X). d.1) entries (key member, member)
          ((are.each (key member) member).1 (h.0, tt))) h.1),
    );
  }

-- ---- the whole book

none_due : (n m c d : ℕ) → n ≡ 0 → m ≡ 0 → None ≡ due_balance n m c d
none_due n m c d e f =
    let zero : (n + m == 0) ≡ true = grind (arith, nat_tests) in
    ap (λ b. cond b None (Some (pos c -ℤ pos d))) (sym zero)

some_due : (n m c d : ℕ) → None ≡ due_balance n m c d → n + m ≡ 0
some_due n m c d e =
    elim (n + m == 0) as (λ b. (n + m == 0) ≡ b
    → None ≡ cond b None (Some (pos c -ℤ pos d)) → n + m ≡ 0) [
      | true ↦ λ zero none. grind (arith, nat_tests)
      | false ↦ λ some none. absurd (cc)
    ] refl e

module _ (plans : List Plan) (content : Content) (own : HasOwnKeys content) (audit : Audit)
    (found : List Finding) (is : IsAudit plans content audit found) where
  abbrev of_account : List ℕ × Statement → List Finding
  of_account a = account_findings a.0 a.1

  abbrev of_session : Key × RowFacts → List Finding
  of_session s = session_findings content s.1

  abbrev of_voucher : List ℕ × TopUpFacts → List Finding
  of_voucher t = voucher_findings content t.1

  -- ---- nothing was found

  module _ (clean : IsClean audit) where
    row_kept : (row : RowFacts) → content.rows (key_of row) ≡ Some row
        → is_some (content.balances row.account) ≡ true
    row_kept row stored = nothing_if _ (StraySession row)
        (none_of_each of_session is.sessions (sym is.of_sessions.wrong ∙ clean.sessions)
        (key_of row, row) ((is.are_sessions.each (key_of row) row).1 (stored, tt)))

    topup_kept : (topup : TopUpFacts) → content.topups topup.voucher ≡ Some topup
        → is_some (content.balances topup.account) ≡ true
    topup_kept topup stored = nothing_if _ (StrayVoucher topup)
        (none_of_each of_voucher is.topups (sym is.of_vouchers.wrong ∙ clean.vouchers)
        (topup.voucher, topup) ((is.are_topups.each topup.voucher topup).1 (stored, tt)))

    not_kept : (account owner : List ℕ) → content.balances account ≡ None
        → bytes_eq account owner ≡ true → is_some (content.balances owner) ≡ true → ⊥
    not_kept account owner none same some =
        true≢false (sym some ∙ ap (λ a. is_some (content.balances a))
        (sym (octets_are account owner same)) ∙ ap is_some none)

    unkept : (account : List ℕ) → content.balances account ≡ None
        → IsBalanced plans content account
    unkept account none rows topups are those =
        let no_row = λ (row : RowFacts) (there : Contains rows row).
        let h = (are.each row).0 there in
        not_kept account row.account none h.1 (row_kept row h.0) in
        let no_topup = λ (topup : TopUpFacts) (there : Contains topups topup).
        let h = (those.each topup).0 there in
        not_kept account topup.account none h.1 (topup_kept topup h.0) in
        record {
          planned = all_listed (λ row. is_planned plans row ≡ true) rows
              (λ row there. absurd (no_row row there));
          due = none ∙ none_due (length rows) (length topups) (credited_by topups)
              (charged_by plans rows) (empty rows no_row) (empty topups no_topup);
        }
      where
        empty : {X : Type 0} (xs : List X) → ((x : X) → Contains xs x → ⊥) → length xs ≡ 0
        empty [] none = refl
        empty (x ∷ xs) none = absurd (none x (here x xs))

    kept : (account : List ℕ) (balance : ℤ) → content.balances account ≡ Some balance
        → IsBalanced plans content account
    kept account balance has =
        let (statement, there) = is.are_accounts.all account balance has in
        let (b, stored, states) = is.are_accounts.state account statement there in
        let right = nothing_if (is_right statement) (WrongAccount account statement)
        (none_of_each of_account is.accounts (sym is.of_accounts.wrong ∙ clean.accounts)
        (account, statement) there) in
        (right_balanced plans content account (Some b) statement states (sym stored)).0 right

    clean_balanced : (account : List ℕ) → IsBalanced plans content account
    clean_balanced account =
        elim (content.balances account) as (λ o. content.balances account ≡ o
        → IsBalanced plans content account) [
          | None ↦ λ none. unkept account none
          | Some balance ↦ λ has. kept account balance has
        ] refl

  -- ---- every account is balanced

  module _ (all : (account : List ℕ) → IsBalanced plans content account) where
    abbrev rows_of : List ℕ → List RowFacts
    rows_of account = filter (λ row. bytes_eq account row.account) (map (λ e. e.1) is.sessions)

    abbrev topups_of : List ℕ → List TopUpFacts
    topups_of account = filter (λ t. bytes_eq account t.account) (map (λ e. e.1) is.topups)

    are_rows : (account : List ℕ) → AreRowsOf content account (rows_of account)
    are_rows account = members_among key_cmp key_of content.rows own.rows is.sessions
        is.are_sessions (λ row. bytes_eq account row.account)

    are_topups : (account : List ℕ) → AreTopUpsOf content account (topups_of account)
    are_topups account = members_among octets_cmp (λ (t : TopUpFacts). t.voucher) content.topups
        own.topups is.topups is.are_topups (λ t. bytes_eq account t.account)

    no_members : (account : List ℕ) → content.balances account ≡ None
        → length (rows_of account) + length (topups_of account) ≡ 0
    no_members account none =
        some_due (length (rows_of account)) (length (topups_of account))
        (credited_by (topups_of account)) (charged_by plans (rows_of account))
        (sym none ∙ (all account (rows_of account) (topups_of account) (are_rows account)
        (are_topups account)).due)

    kept_for : (account : List ℕ)
        → (content.balances account ≡ None → ⊥) → is_some (content.balances account) ≡ true
    kept_for account some =
        elim (content.balances account) as (λ o. content.balances account ≡ o → is_some o ≡ true) [
          | None ↦ λ none. absurd (some none)
          | Some balance ↦ λ has. refl
        ] refl

    some_in : {X : Type 0} (xs : List X) (x : X) → Contains xs x → 0 < length xs
    some_in xs x there = let within : there.0 < length xs = there.1 in omega arith

    session_clean : (s : Key × RowFacts) → Contains is.sessions s → of_session s ≡ []
    session_clean s there =
        let row = s.1 in
        let stored = ((is.are_sessions.each s.0 row).0 there).0 in
        let key = own.rows s.0 row stored in
        let among = ((are_rows row.account).each row).1
        (ap content.rows key ∙ stored, octets_refl row.account) in
        if_nothing (is_some (content.balances row.account)) (StraySession row)
        (kept_for row.account (λ none.
        let zero = no_members row.account none in
        let some = some_in (rows_of row.account) row among in
        omega (arith, zero, some)))

    voucher_clean : (t : List ℕ × TopUpFacts) → Contains is.topups t → of_voucher t ≡ []
    voucher_clean t there =
        let topup = t.1 in
        let stored = ((is.are_topups.each t.0 topup).0 there).0 in
        let key = own.topups t.0 topup stored in
        let among = ((are_topups topup.account).each topup).1
        (ap content.topups key ∙ stored, octets_refl topup.account) in
        if_nothing (is_some (content.balances topup.account)) (StrayVoucher topup)
        (kept_for topup.account (λ none.
        let zero = no_members topup.account none in
        let some = some_in (topups_of topup.account) topup among in
        omega (arith, zero, some)))

    account_clean : (a : List ℕ × Statement) → Contains is.accounts a → of_account a ≡ []
    account_clean a there =
        let (b, stored, states) = is.are_accounts.state a.0 a.1 there in
        if_nothing (is_right a.1) (WrongAccount a.0 a.1)
        ((right_balanced plans content a.0 (Some b) a.1 states (sym stored)).1 (all a.0))

    balanced_clean : IsClean audit
    balanced_clean = record {
      accounts = is.of_accounts.wrong ∙ each_of_none of_account is.accounts account_clean;
      sessions = is.of_sessions.wrong ∙ each_of_none of_session is.sessions session_clean;
      vouchers = is.of_vouchers.wrong ∙ each_of_none of_voucher is.topups voucher_clean;
    }

  pub clean_exactly : IsClean audit ↔ ((account : List ℕ) → IsBalanced plans content account)
  clean_exactly = (clean_balanced, balanced_clean)
