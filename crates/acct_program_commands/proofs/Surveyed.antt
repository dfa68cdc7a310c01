-- What a survey over the accounts of a book has counted and printed.
use Rattle.std.proofs.Common.{◌≡◌, ◌<◌, ◌+◌, ℕ, Bool, true, false, cond, arith, List, [], ◌∷◌}
use Rattle.std.proofs.Common.{◌++◌, map, length, take, get_or, refl, sym, ap, ◌∙◌, subst}
use Rattle.std.proofs.Common.{append-nil, length-append}
use Rattle.std.specs.Prelude.{Contains, Option, Some, None, ℤ, Vec, flat_map, is_some}
use Rattle.std.specs.Global.{Global}
use Rattle.std.specs.List.{count_by}
use Rattle.std.specs.List.Sorted.{IsStrictlySortedBy}
use Rattle.std.specs.Map.{keys_of}
use Rattle.std.specs.Io.KnownBytes.{Appends}
use Rattle.std.proofs.KnownBytes.{Appends-nil, Appends-trans}
use Rattle.std.proofs.lemmas.Grind.{flat_map-append}
use Rattle.std.proofs.lemmas.List.{take_more, map-append}
use Rattle.std.proofs.lemmas.List.Sums.{sum_by_push}
use Rattle.acct_model.proofs.Lists.{here, deeper, from_map, to_map}
use Rattle.acct_book.specs.declared.key.Key.{Key}
use Rattle.acct_book.specs.Row.{RowFacts}
use Rattle.acct_book.specs.Content.{Content, key_of}
use Rattle.acct_book.specs.Maps.{octets_cmp}
use Rattle.acct_book.specs.Walk.{AreAllPast, AreKeysOf, AreRowsOf}
use Rattle.acct_book.specs.Meets.{Meets}
use Rattle.acct_book.proofs.Fixed.{lists-fixed}
use Rattle.acct_book.proofs.ListedKeys.{keys_listed}
use Rattle.acct_book.proofs.WalkLaws.{walks-meet-all}
use Rattle.acct_book.proofs.Walking.{Walked, walk_of, walked_all, walked_more}
use Rattle.acct_book_audit.proofs.Walking.{each_met}
use Rattle.acct_book_forward.specs.declared.forwarding.Tally.{Tally}
use Rattle.acct_book_forward.specs.declared.selection.Stay.{Stay}
use Rattle.acct_book_forward.specs.declared.selection.Stay.TheVariants.{Kept, Open, Recent}
use Rattle.acct_book_forward.specs.Carrying.{SelectionFacts, IsTallyOf, staying}
use Rattle.acct_book_forward.proofs.Counted.{AreCounted, all_counted}
use Rattle.acct_program_commands.specs.Survey.{Account, AreAccounts, Counts, CountsAll, Lists}
use Rattle.acct_program_commands.specs.Survey.{has_some, is_touched, sessions_that}
use Rattle.acct_program_commands.specs.Survey.{up_to_most}
use Rattle.acct_program_commands.specs.inner.Sums.{AddsUp, as_carried, no_sessions, plus}
use Rattle.acct_program_commands.specs.inner.Surveyed.{IsNextAccount, IsNextMember, Member}
use Rattle.acct_program_commands.specs.inner.Surveyed.{found_text, octets_in, row_text}
use Rattle.acct_program_commands.specs.declared.forward_command.Totals.{Totals}

-- ---- the rows of an account

module _ (lists : Bool) (selection : SelectionFacts) (content : Content) where
  -- what is printed of the rows under these keys
  abbrev pub texts_at : List Key → List ℕ
  texts_at keys = flat_map (λ key. found_text lists selection (content.rows key)) keys

  -- what is printed of these rows
  abbrev pub texts_of : List RowFacts → List ℕ
  texts_of rows = flat_map (row_text lists selection) rows

  rows_told : (rows : List RowFacts)
      → ((row : RowFacts) → Contains rows row → content.rows (key_of row) ≡ Some row)
      → texts_at (map key_of rows) ≡ texts_of rows
  rows_told [] there = refl
  rows_told (row ∷ rest) there =
      λ i. ap (found_text lists selection) (there row (here row rest)) i
      ++ rows_told rest (λ other among. there other (deeper row other rest among)) i

  -- what was found under one more key was printed
  pub text_more : (keys : List Key) (at : ℕ) (key : Key) (a b c : Option (List ℕ))
      (found : Option RowFacts) → at < length keys → key ≡ get_or keys at key
      → found ≡ content.rows key → Appends a b (texts_at (take at keys))
      → Appends b c (found_text lists selection found) → Appends a c (texts_at (take (at + 1) keys))
  text_more keys at key a b c found within is same before more =
      subst (Appends a c)
      (sym (ap texts_at (take_more keys at key within
      ∙ ap (λ k. take at keys ++ k ∷ []) (sym is))
      ∙ flat_map-append (λ k. found_text lists selection (content.rows k)) (take at keys) (key ∷ [])
      ∙ ap (λ t. texts_at (take at keys) ++ t)
      (append-nil (found_text lists selection (content.rows key))
      ∙ ap (found_text lists selection) (sym same))))
      (Appends-trans a b c (texts_at (take at keys)) (found_text lists selection found) before more)

  -- in the end all rows of the account were counted and printed
  pub all_told : (account : List ℕ) (keys : List Key) (tally : Tally) (a b : Option (List ℕ))
      → ((k : Key) (row : RowFacts) → content.rows k ≡ Some row → key_of row ≡ k)
      → AreKeysOf content account keys → AreCounted content selection keys tally
      → Appends a b (texts_at keys)
      → (rows : List RowFacts) × AreRowsOf content account rows × IsTallyOf selection rows tally
      × Appends a b (texts_of rows)
  all_told account keys tally a b own are counted told =
      let (rows, are_rows, counts) = all_counted content account selection keys tally own are counted
      in
      let same = (lists-fixed content).keys account (map key_of rows) keys
      (keys_listed content account rows own are_rows) are in (
        rows,
        are_rows,
        counts,
        subst (Appends a b) (ap texts_at (sym same)
            ∙ rows_told rows (λ row there. ((are_rows.each row).0 there).0)) told,
      )

-- ---- one more account in the totals

more_up : (old new count more : ℕ) → new ≡ plus old more → old ≡ up_to_most count
    → new ≡ up_to_most (count + more)
more_up old new count more is was = omega (arith, is, was)

touched_up : (rows : List RowFacts) (old new count : ℕ) → (length rows ≡ 0 → new ≡ old)
    → (0 < length rows → new ≡ plus old 1) → old ≡ up_to_most count
    → new ≡ up_to_most (count + cond (has_some rows) 1 0)
touched_up [] old new count none some was = let is = none refl in omega (arith, is, was)
touched_up (row ∷ rows) old new count none some was =
    let is = some (omega arith) in omega (arith, is, was)

module _ (selection : SelectionFacts) (accounts : List Account) (name : List ℕ)
    (rows : List RowFacts) (tally : Tally) (is : IsTallyOf selection rows tally) where
  abbrev after : List Account
  after = accounts ++ (name, rows) ∷ []

  stays_up : (why : Option Stay) (old new counted : ℕ) → new ≡ plus old counted
      → counted ≡ length (staying selection why rows)
      → old ≡ up_to_most (sessions_that selection why accounts)
      → new ≡ up_to_most (sessions_that selection why after)
  stays_up why old new counted adds many was =
      more_up old new (sessions_that selection why accounts) (length (staying selection why rows))
      (adds ∙ ap (plus old) many) was
      ∙ ap up_to_most (sym (sum_by_push (λ (a : Account). length (staying selection why a.1)) accounts
      (name, rows)))

  pub counts_more : (old new : Totals) → Counts selection accounts old
      → AddsUp old.accounts new.accounts old.touched new.touched old.sessions new.sessions
      (as_carried tally)
      → Counts selection after new
  counts_more old new was adds =
      let of = ap (λ (t : Tally). t) adds.sessions_are in
      record {
        accounts_are = more_up old.accounts new.accounts (length accounts) 1 adds.accounts_are
            was.accounts_are ∙ ap up_to_most (sym (length-append accounts ((name, rows) ∷ [])));
        touched = touched_up (staying selection None rows) old.touched new.touched
            (count_by (is_touched selection) accounts)
            (λ none. adds.none (is.too_large ∙ none))
            (λ some. adds.some (subst (λ n. 0 < n) (sym is.too_large) some)) was.touched
            ∙ ap up_to_most (sym (sum_by_push
            (λ (a : Account). cond (is_touched selection a) 1 0) accounts (name, rows)));
        carried = stays_up None old.sessions.carried new.sessions.carried tally.too_large
            (ap (λ (t : Tally). t.carried) of) is.too_large was.carried;
        of_kept = stays_up (Some Kept) old.sessions.of_kept new.sessions.of_kept tally.of_kept
            (ap (λ (t : Tally). t.of_kept) of) is.of_kept was.of_kept;
        still_open = stays_up (Some Open) old.sessions.still_open new.sessions.still_open
            tally.still_open (ap (λ (t : Tally). t.still_open) of) is.still_open was.still_open;
        recent = stays_up (Some Recent) old.sessions.recent new.sessions.recent tally.recent
            (ap (λ (t : Tally). t.recent) of) is.recent was.recent;
        too_large = ap (λ (t : Tally). t.too_large) of ∙ ap (λ n. plus n 0) was.too_large;
      }

-- nothing is counted yet
pub counts_none : (selection : SelectionFacts) (totals : Totals)
    → (totals.accounts ≡ 0) × (totals.touched ≡ 0) × (totals.sessions ≡ no_sessions)
    → Counts selection [] totals
counts_none selection totals (accounts, touched, sessions) = record {
  accounts_are = accounts;
  touched = touched;
  carried = ap (λ (t : Tally). t.carried) sessions;
  of_kept = ap (λ (t : Tally). t.of_kept) sessions;
  still_open = ap (λ (t : Tally). t.still_open) sessions;
  recent = ap (λ (t : Tally). t.recent) sessions;
  too_large = ap (λ (t : Tally). t.too_large) sessions;
}

-- ---- the walk over the accounts

abbrev shown_of : Member → Account
shown_of member = (member.0.items, member.2)

abbrev balanced : Member → List ℕ × ℤ
balanced member = (member.0.items, member.1)

abbrev pub key : Member → Vec ℕ Global
key member = member.0

module _ (content : Content) where
  abbrev Holds : Account → Type 0
  Holds a = (is_some (content.balances a.0) ≡ true) × AreRowsOf content a.0 a.1

  holds : (from : Option (Vec ℕ Global)) (m : Member) → IsNextMember content from (Some m)
      → Holds (shown_of m)
  holds from m next = (ap is_some next.0.0, next.1)

  same_keys : (members : List Member)
      → keys_of (map balanced members) ≡ keys_of (map shown_of members)
  same_keys [] = refl
  same_keys (m ∷ rest) = ap (λ ks. m.0.items ∷ ks) (same_keys rest)

  all_met : (members : List Member) → Meets (IsNextMember content) key None members
      → AreAllPast octets_cmp content.balances None (map balanced members)
  all_met members meets =
      (walks-meet-all content).balances None (map balanced members)
      (walk_of octets_cmp content.balances (IsNextMember content) key octets_in balanced
      (λ after m next. next.0) (λ after end. end) (λ m. refl) None members meets)

  some_of : (o : Option ℤ) → is_some o ≡ true → (b : ℤ) × (o ≡ Some b)
  some_of None is = absurd (cc)
  some_of (Some b) is = (b, refl)

  are_accounts : (members : List Member) → Meets (IsNextMember content) key None members
      → AreAccounts content (map shown_of members)
  are_accounts members meets =
      let met = all_met members meets in
      record {
        in_order = subst (IsStrictlySortedBy octets_cmp) (same_keys members) met.in_order;
        each = λ account rows there.
            let (m, among, is) = from_map shown_of members (account, rows) there in
            subst Holds is (each_met (IsNextMember content) key (λ m. Holds (shown_of m)) holds None
            members meets m among);
        all = λ account kept.
            let (balance, stored) = some_of (content.balances account) kept in
            let there = (met.each account balance).1 (stored, tt) in
            let (m, among, is) = from_map balanced members (account, balance) there in (
              m.2,
              subst (λ a. Contains (map shown_of members) (a, m.2)) (ap (λ e. e.0) is)
                  (to_map shown_of members m among),
            );
      }

-- what a survey has come to after some accounts
pub record IsSurveyed (content : Content) (selection : SelectionFacts) (lists : Bool)
    (after : Option (Vec ℕ Global)) (totals : Totals) (before now : Option (List ℕ)) : Type 0 where
  pub members : List Member
  pub walked : Walked (IsNextMember content) key None members after
  pub counts : Counts selection (map shown_of members) totals
  pub printed : Appends before now
      (flat_map (λ a. texts_of lists selection content a.1) (map shown_of members))

module _ (content : Content) (selection : SelectionFacts) (lists : Bool) where
  pub surveyed_none : (totals : Totals) (before : Option (List ℕ)) → Counts selection [] totals
      → IsSurveyed content selection lists None totals before before
  surveyed_none totals before none = record {
    members = [];
    walked = refl;
    counts = none;
    printed = Appends-nil before;
  }

  pub surveyed_more : (after : Option (Vec ℕ Global)) (account : Vec ℕ Global) (old new : Totals)
      (tally : Tally) (before now then : Option (List ℕ))
      → IsSurveyed content selection lists after old before now
      → IsNextAccount content after (Some account)
      → (rows : List RowFacts) × AreRowsOf content account.items rows
      × IsTallyOf selection rows tally × Appends now then (texts_of lists selection content rows)
      → AddsUp old.accounts new.accounts old.touched new.touched old.sessions new.sessions
      (as_carried tally)
      → IsSurveyed content selection lists (Some account) new before then
  surveyed_more after account old new tally before now then was (balance, next)
      (rows, are, is, told) adds =
      let member : Member = (account, balance, rows) in
      let shown = map-append shown_of was.members (member ∷ []) in
      let text = λ (a : Account). texts_of lists selection content a.1 in
      record {
        members = was.members ++ member ∷ [];
        walked = walked_more (IsNextMember content) key None was.members after member was.walked
            (next, are);
        counts = subst (λ (accounts : List Account). Counts selection accounts new) (sym shown)
            (counts_more selection (map shown_of was.members) account.items rows tally is old new
            was.counts adds);
        printed = subst (Appends before then)
            (sym (ap (flat_map text) shown
            ∙ flat_map-append text (map shown_of was.members) (shown_of member ∷ [])
            ∙ ap (λ t. flat_map text (map shown_of was.members) ++ t) (append-nil (text (shown_of member)))))
            (Appends-trans before now then (flat_map text (map shown_of was.members))
            (text (shown_of member)) was.printed told);
      }

  no_text : (rows : List RowFacts) → texts_of false selection content rows ≡ []
  no_text [] = refl
  no_text (row ∷ rest) = no_text rest

  unlisted : (accounts : List Account)
      → flat_map (λ (a : Account). texts_of false selection content a.1) accounts ≡ []
  unlisted [] = refl
  unlisted (a ∷ rest) = λ i. no_text a.1 i ++ unlisted rest i

  told_all : (lists : Bool) (accounts : List Account) → AreAccounts content accounts
      → Lists lists selection content
      (flat_map (λ (a : Account). texts_of lists selection content a.1) accounts)
  told_all false accounts are = unlisted accounts
  told_all true accounts are = (accounts, are, refl)

  pub surveyed_all : (after : Option (Vec ℕ Global)) (totals : Totals)
      (before now : Option (List ℕ)) → IsSurveyed content selection lists after totals before now
      → IsNextAccount content after None
      → CountsAll selection content totals
      × ((text : List ℕ) × Lists lists selection content text × Appends before now text)
  surveyed_all after totals before now was end =
      let meets = walked_all (IsNextMember content) key None was.members after was.walked end in
      let are = are_accounts content was.members meets in (
        (map shown_of was.members, are, was.counts),
        (
          flat_map (λ (a : Account). texts_of lists selection content a.1)
              (map shown_of was.members),
          told_all lists (map shown_of was.members) are,
          was.printed,
        ),
      )
