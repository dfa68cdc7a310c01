-- What the rows and the top-ups add up to if their content stands for a history.
use Rattle.std.proofs.Common.{◌≡◌, ◌<◌, ℕ, ◌+◌, Bool, true, false, cond, ◌||◌, List, [], ◌∷◌, map}
use Rattle.std.proofs.Common.{refl, sym, ap, ◌∙◌, subst, arith, true≢false, length, ◌⊎◌, inl, inr}
use Rattle.std.specs.Prelude.{Contains, Some, None, IsSome, bytes_eq, pos, ◌-ℤ◌, ◌==◌, All}
use Rattle.std.specs.List.{filter, list_any, sum_by}
use Rattle.std.specs.Cmp.Lexicographic.{nat_list_cmp_total}
use Rattle.std.proofs.lemmas.Bool.Decides.{nat_tests}
use Rattle.std.proofs.lemmas.List.Elements.{All-contains, All-cons, Contains-append_right}
use Rattle.acct_model.specs.declared.plan.Plan.{Plan}
use Rattle.acct_model.specs.declared.entry.Entry.{Entry}
use Rattle.acct_model.specs.declared.entry.Entry.TheVariants as entry
use Rattle.acct_model.specs.Vouchers.{TopUpFacts}
use Rattle.acct_model.specs.Plans.{plan_for, has_class}
use Rattle.acct_model.specs.PlanFaults.{plans_fault}
use Rattle.acct_model.specs.History.{Accepted, History, SessionName, session_of, same_session}
use Rattle.acct_model.specs.History.{all_reports, reports, sessions, first_of, is_owner, share}
use Rattle.acct_model.specs.History.{charge_of, charged, all_topups, topups, topup_of, voucher_of}
use Rattle.acct_model.specs.History.{Voucher, same_voucher, credited, balance_of, is_known, Agrees}
use Rattle.acct_model.specs.History.{Admissible}
use Rattle.acct_model.proofs.Lists.{here, from_map, to_map, from_filter, to_filter}
use Rattle.acct_model.proofs.Lists.{found_same, all_listed, front_or_behind}
use Rattle.acct_model.proofs.Same.{Decides-bytes_eq, Decides-same_session, Decides-same_voucher}
use Rattle.acct_model.proofs.Sums.{sum_of_same}
use Rattle.acct_model.proofs.Members.{sessions_listed}
use Rattle.acct_model.proofs.TopUps.{topup_first, Agrees-topup, Fits}
use Rattle.acct_model.proofs.PlanFaults.{each_planned}
use Rattle.acct_model.proofs.PlanLaws.{plan_of_class}
use Rattle.acct_book.specs.declared.key.Key.{Key}
use Rattle.acct_book.specs.Row.{RowFacts}
use Rattle.acct_book.specs.Rows.{name_of, row_of}
use Rattle.acct_book.specs.Charge.{charge_of_row, class_of_plan}
use Rattle.acct_book.specs.Content.{Content, key_of}
use Rattle.acct_book.specs.Maps.{octets_cmp, key_cmp}
use Rattle.acct_book.specs.Walk.{AreRowsOf, AreTopUpsOf}
use Rattle.acct_book.specs.Stands.{Stands}
use Rattle.acct_book.proofs.Ends.{rows_have_keys, rows_are_charged, rows_keep_plans}
use Rattle.acct_book.proofs.Ends.{rows_of_sessions}
use Rattle.acct_book.proofs.RowLaws.{rows_are}
use Rattle.acct_book.proofs.WalkLaws.{key_total}
use Rattle.acct_book_audit.specs.Balancing.{is_planned, credited_by, charged_by, due_balance}
use Rattle.acct_book_audit.specs.Balancing.{IsBalanced}
use Rattle.acct_book_audit.specs.Laws.{VouchersAgree, SoundBooksBalance}
use Rattle.acct_book_audit.proofs.Onces.{any_passes, sum_by-map, without_weightless, once}

-- ---- lists

no_elements : {X : Type 0} (xs : List X) → ((x : X) → Contains xs x → ⊥) → length xs ≡ 0
no_elements [] none = refl
no_elements (x ∷ xs) none = absurd (none x (here x xs))

some_elements : {X : Type 0} (xs : List X) (x : X) → Contains xs x → 0 < length xs
some_elements xs x there = let within : there.0 < length xs = there.1 in omega arith

either : (a b : Bool) → (a || b) ≡ true → (a ≡ true) ⊎ (b ≡ true)
either true b e = inl refl
either false b e = inr e

neither : (a b : Bool) → (a || b) ≡ false → (a ≡ false) × (b ≡ false)
neither true b e = absurd (true≢false e)
neither false b e = (refl, e)

abbrev key_for : SessionName → Key
key_for name = record { client = name.client; session = name.session }

abbrev name_in : RowFacts → SessionName
name_in row = name_of (key_of row)

module _ (plans : List Plan) (content : Content) (history : History)
    (stands : Stands plans content history) (account : List ℕ) where
  abbrev owns : SessionName → Bool
  owns name = is_owner account (first_of (reports history name))

  abbrev weight : SessionName → ℕ
  weight name =
      share account (first_of (reports history name)) (charge_of plans history name)

  abbrev keys : List SessionName
  keys = map session_of (all_reports history)

  -- ---- rows

  module _ (rows : List RowFacts) (are : AreRowsOf content account rows) where
    row_is : (row : RowFacts) → Contains rows row → row_of plans history (key_of row) ≡ Some row
    row_is row there = sym (stands.rows (key_of row)) ∙ ((are.each row).0 there).0

    row_owned : (row : RowFacts) → Contains rows row → owns (name_in row) ≡ true
    row_owned row there =
        let of = rows_are plans history (key_of row) row (row_is row there) in
        ap (is_owner account) of.is_first ∙ ap (bytes_eq account) (sym of.account)
        ∙ ((are.each row).0 there).1

    row_weighs : (row : RowFacts) → Contains rows row
        → weight (name_in row) ≡ charge_of_row plans row
    row_weighs row there =
        ap (λ b. cond b (charge_of plans history (name_in row)) 0) (row_owned row there)
        ∙ sym (rows_are_charged plans history (key_of row) row (row_is row there))

    row_listed : (row : RowFacts) → Contains rows row → Contains (sessions history) (name_in row)
    row_listed row there = (rows_of_sessions plans history (key_of row)).0 (row, row_is row there)

    -- the session that an account owns has a row among the account's
    row_for : (name : SessionName) → Contains (sessions history) name → owns name ≡ true
        → (row : RowFacts) × Contains rows row × (name_in row ≡ name)
    row_for name there mine =
        let key = key_for name in
        let (row, is) = (rows_of_sessions plans history key).1 there in
        let keyed : key_of row ≡ key = rows_have_keys plans history key row is in
        let of = rows_are plans history key row is in
        let own : bytes_eq account row.account ≡ true =
        ap (bytes_eq account) of.account ∙ sym (ap (is_owner account) of.is_first) ∙ mine in
        let kept : content.rows (key_of row) ≡ Some row =
        stands.rows (key_of row) ∙ ap (row_of plans history) keyed ∙ is in
        (row, (are.each row).1 (kept, own), ap name_of keyed)

    in_keys : (name : SessionName) → Contains (sessions history) name → Contains keys name
    in_keys name there =
        let (report, reported, is) = (sessions_listed.listed history name).0 there in
        subst (Contains keys) is (to_map session_of (all_reports history) report reported)

    in_sessions : (name : SessionName) → Contains keys name → Contains (sessions history) name
    in_sessions name there =
        (sessions_listed.listed history name).1 (from_map session_of (all_reports history) name there)

    -- the rows of an account cost what its sessions are charged
    rows_cost : charged_by plans rows ≡ charged plans history account
    rows_cost =
        sym (sum_by-map weight name_in (charge_of_row plans) rows row_weighs)
        ∙ ap (sum_by weight) (sym (once same_session Decides-same_session key_cmp key_total key_of
        name_in (λ x y is. ap key_for is) rows are.in_order))
        ∙ sum_of_same same_session Decides-same_session weight (map name_in rows) (filter owns keys)
        (λ name there.
        let (row, within, is) = from_map name_in rows name there in
        subst (Contains (filter owns keys)) is (to_filter owns keys (name_in row)
        (in_keys (name_in row) (row_listed row within)) (row_owned row within)))
        (λ name there.
        let (listed, mine) = from_filter owns keys name there in
        let (row, within, is) = row_for name (in_sessions name listed) mine in
        subst (Contains (map name_in rows)) is (to_map name_in rows row within))
        ∙ without_weightless same_session Decides-same_session owns weight
        (λ name none. ap (λ b. cond b (charge_of plans history name) 0) none) keys

    -- each row is of some plan
    row_planned : plans_fault plans ≡ None → (row : RowFacts) → Contains rows row
        → is_planned plans row ≡ true
    row_planned faultless row there =
        let is = row_is row there in
        let of = rows_are plans history (key_of row) row is in
        let kept = rows_keep_plans plans history (key_of row) row is in
        elim (plan_for plans row.plan) as (λ o. plan_for plans row.plan ≡ o → IsSome o
        → is_planned plans row ≡ true) [
          | None ↦ λ e some. absurd (true≢false (sym some))
          | Some plan ↦ λ e some.
              let class : row.plan ≡ plan.class = of.plan ∙ ap class_of_plan (sym kept ∙ e) in
              any_passes (has_class row.plan) plans plan
              (plan_of_class plans row.plan plan e).0
              ((Decides-bytes_eq row.plan plan.class).1 class)
        ] refl (each_planned plans row.plan faultless)

  -- ---- top-ups

  module _ (kept : List TopUpFacts) (are : AreTopUpsOf content account kept) where
    topup_listed : (number : List ℕ) (topup : TopUpFacts) → topup_of history number ≡ Some topup
        → Contains (all_topups history) topup × (topup.voucher ≡ number)
    topup_listed number topup is =
        let (later, earlier, splits, numbered, none_before) =
        topup_first.first history number topup is in (
          subst (λ ts. Contains ts topup) (sym splits)
              (Contains-append_right later (topup ∷ earlier) topup (here topup earlier)),
          numbered,
        )

    topup_owned : (topup : TopUpFacts) → Contains kept topup
        → Contains (all_topups history) topup × (bytes_eq account topup.account ≡ true)
    topup_owned topup there =
        let (found, own) = (are.each topup).0 there in
        ((topup_listed topup.voucher topup (sym (stands.topups topup.voucher) ∙ found)).0, own)

    topup_in : (topup : TopUpFacts) → Contains kept topup → Contains (topups history account) topup
    topup_in topup there =
        let (listed, own) = topup_owned topup there in
        to_filter (λ t. bytes_eq account t.account) (all_topups history) topup listed own

    first_kept : VouchersAgree history → (topup first : TopUpFacts)
        → Contains (all_topups history) topup → bytes_eq account topup.account ≡ true
        → topup_of history topup.voucher ≡ Some first
        → Contains kept first × (voucher_of first ≡ voucher_of topup)
    first_kept agree topup first listed own is =
        let (among, numbered) = topup_listed topup.voucher first is in
        let agrees : Agrees history topup =
        All-contains (Agrees history) (all_topups history) topup agree listed in
        let (owner, amount) =
        All-contains (Fits topup) (all_topups history) first agrees among numbered in
        let stored : content.topups first.voucher ≡ Some first =
        stands.topups first.voucher ∙ ap (topup_of history) numbered ∙ is in (
          (are.each first).1 (stored, ap (bytes_eq account) owner ∙ own),
          (λ i. (numbered i, amount i)),
        )

    -- the voucher of a top-up to the account is kept
    topup_for : VouchersAgree history → (topup : TopUpFacts)
        → Contains (all_topups history) topup → bytes_eq account topup.account ≡ true
        → (first : TopUpFacts) × Contains kept first × (voucher_of first ≡ voucher_of topup)
    topup_for agree topup listed own =
        elim (topup_of history topup.voucher) as (λ o. topup_of history topup.voucher ≡ o
        → (first : TopUpFacts) × Contains kept first × (voucher_of first ≡ voucher_of topup)) [
          | None ↦ λ is. absurd (All-contains (λ t. t.voucher ≡ topup.voucher → ⊥)
              (all_topups history) topup ((topup_first.none history topup.voucher).0 is) listed refl)
          | Some first ↦ λ is.
              let found = first_kept agree topup first listed own is in
              (first, found.0, found.1)
        ] refl

    -- the top-ups of an account credit what its vouchers give
    topups_credit : VouchersAgree history → credited_by kept ≡ credited history account
    topups_credit agree =
        let given : Voucher → ℕ = λ voucher. voucher.1 in
        let theirs = topups history account in
        sym (sum_by-map given voucher_of (λ t. t.sum) kept (λ t there. refl))
        ∙ ap (sum_by given) (sym (once same_voucher Decides-same_voucher octets_cmp
        nat_list_cmp_total (λ (t : TopUpFacts). t.voucher) voucher_of (λ x y is. ap (λ v. v.0) is)
        kept are.in_order))
        ∙ sum_of_same same_voucher Decides-same_voucher given (map voucher_of kept)
        (map voucher_of theirs)
        (λ voucher there.
        let (topup, within, is) = from_map voucher_of kept voucher there in
        subst (Contains (map voucher_of theirs)) is
        (to_map voucher_of theirs topup (topup_in topup within)))
        (λ voucher there.
        let (topup, within, is) = from_map voucher_of theirs voucher there in
        let (listed, own) =
        from_filter (λ t. bytes_eq account t.account) (all_topups history) topup within in
        let (first, stored, same) = topup_for agree topup listed own in
        subst (Contains (map voucher_of kept)) (same ∙ is) (to_map voucher_of kept first stored))

  -- ---- balances

  module _ (rows : List RowFacts) (are : AreRowsOf content account rows) (kept : List TopUpFacts)
      (those : AreTopUpsOf content account kept) (agree : VouchersAgree history) where
    has_some : is_known history account ≡ true → 0 < length rows + length kept
    has_some known = elim (either (list_any owns (sessions history)) _ known) [
      | inl session ↦
          let (name, there, mine) = found_same owns (sessions history) session in
          let (row, within, is) = row_for rows are name there mine in
          let some = some_elements rows row within in
          omega (arith, some)
      | inr topped ↦
          let (topup, there, own) =
          found_same (λ t. bytes_eq account t.account) (all_topups history) topped in
          let (first, within, same) = topup_for kept those agree topup there own in
          let some = some_elements kept first within in
          omega (arith, some)
    ]

    has_none : is_known history account ≡ false → length rows + length kept ≡ 0
    has_none unknown =
        let (no_session, no_topup) = neither (list_any owns (sessions history)) _ unknown in
        let no_rows = no_elements rows (λ row there. true≢false
        (sym (any_passes owns (sessions history) (name_in row) (row_listed rows are row there)
        (row_owned rows are row there)) ∙ no_session)) in
        let none_kept = no_elements kept (λ topup there.
        let (listed, own) = topup_owned kept those topup there in
        true≢false (sym (any_passes (λ t. bytes_eq account t.account) (all_topups history) topup
        listed own) ∙ no_topup)) in
        omega (arith, no_rows, none_kept)

    is_due : content.balances account
        ≡ due_balance (length rows) (length kept) (credited_by kept) (charged_by plans rows)
    is_due =
        let credits = topups_credit kept those agree in
        let costs = rows_cost rows are in
        stands.balances account
        ∙ (elim (is_known history account) as (λ b. is_known history account ≡ b
        → cond b (Some (balance_of plans history account)) None
        ≡ due_balance (length rows) (length kept) (credited_by kept) (charged_by plans rows)) [
          | true ↦ λ known.
              let some = has_some known in
              let any : (length rows + length kept == 0) ≡ false = grind (arith, nat_tests) in
              sym (ap (λ b. cond b None
              (Some (pos (credited_by kept) -ℤ pos (charged_by plans rows)))) any
              ∙ (λ i. Some (pos (credits i) -ℤ pos (costs i))))
          | false ↦ λ unknown.
              let none = has_none unknown in
              let no : (length rows + length kept == 0) ≡ true = grind (arith, nat_tests) in
              sym (ap (λ b. cond b None
              (Some (pos (credited_by kept) -ℤ pos (charged_by plans rows)))) no)
        ] refl)

  balanced_account : plans_fault plans ≡ None → VouchersAgree history
      → IsBalanced plans content account
  balanced_account faultless agree rows kept are those = record {
    planned = all_listed (λ row. is_planned plans row ≡ true) rows
        (row_planned rows are faultless);
    due = is_due rows are kept those agree;
  }

-- ---- vouchers that agree

agree_after : (plans : List Plan) (history : History) (next : Entry)
    → Admissible plans history next → VouchersAgree history
    → VouchersAgree (Accepted next ∷ history)
agree_after plans history (entry.Report report) may agree = agree
agree_after plans history (entry.Restart restart) may agree = agree
agree_after plans history (entry.TopUp topup) may agree =
    all_listed (Agrees (Accepted (entry.TopUp topup) ∷ history)) (topup ∷ all_topups history)
    (λ one there. elim (front_or_behind topup one (all_topups history) there) [
      | inl is ↦ subst (Agrees (Accepted (entry.TopUp topup) ∷ history)) is
          (All-cons (Fits topup) topup (all_topups history) (λ _. (refl, refl)) may.agrees)
      | inr behind ↦
          let fits = All-contains (Fits topup) (all_topups history) one may.agrees behind in
          Agrees-topup one topup history
          (λ is. let both = fits (sym is) in (sym both.0, sym both.1))
          (All-contains (Agrees history) (all_topups history) one agree behind)
    ])

pub sound_books_balance : SoundBooksBalance
sound_books_balance = record {
  balanced = λ plans content history faultless stands agree account.
      balanced_account plans content history stands account faultless agree;
  at_first = λ i d within. absurd (omega (arith, within));
  accepted = agree_after;
  same_topups = λ before after same agree. subst (λ ts. All (λ topup. All (Fits topup) ts) ts)
      (sym same) agree;
}
