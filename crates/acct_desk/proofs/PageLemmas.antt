-- Pages, by what the book returned.
use Rattle.std.proofs.Common.{true≢false, ◌≡◌, ℕ, ℤ, Bool, true, false, cond, List, [], ◌∷◌}
use Rattle.std.proofs.Common.{map, refl, ap, sym, ◌∙◌, subst}
use Rattle.std.specs.Prelude.{Option, Some, None, Result, Ok, Err, IfOk, OnOk, IsOk, IsErr, pos}
use Rattle.std.specs.Prelude.{negsuc, bytes_eq, nat_lt, MatchBool, codes}
use Rattle.std.specs.List.{filter_map, cons_option}
use Rattle.serde_json.specs.Data.{Data, number}
use Rattle.serde_json.specs.Find.{of_integer}
use Rattle.serde_json.specs.View.{view, items_of}
use Rattle.serde_json.specs.Written.{has_float, items_have_float}
use Rattle.serde_json.specs.declared.value.Value.{Value}
use Rattle.acct_model.specs.declared.plan.Plan.{Plan}
use Rattle.acct_model.specs.Vouchers.{TopUpFacts}
use Rattle.acct_model.specs.History.{History, topup_of}
use Rattle.acct_book.specs.declared.book.Book.{Ghosts}
use Rattle.acct_book.specs.Step.{Looks}
use Rattle.acct_book.specs.Step.{OnlyLooks}
use Rattle.acct_book.specs.Balance.{overrun_of}
use Rattle.acct_book.specs.Content.{Content, kept_balance, key_of}
use Rattle.acct_book.specs.Maps.{octets_cmp}
use Rattle.acct_book.specs.Part.{part_of, own_row, own_topup, AreRowsIn, AreTopUpsIn}
use Rattle.acct_book.specs.Row.{RowFacts}
use Rattle.acct_book.specs.Rows.{row_of}
use Rattle.acct_book.specs.Stands.{Stands}
use Rattle.acct_book.specs.Walk.{AreRowsOf, AreTopUpsOf, IsWalk, IsNext}
use Rattle.acct_book.specs.Walk.{IsNextBalance}
use Rattle.acct_book.proofs.Looking.{looks_once}
use Rattle.acct_book.proofs.Steps.{kept-balance}
use Rattle.acct_book.proofs.WalkLaws.{walks-meet-all}
use Rattle.acct_desk_pages.specs.declared.bodies.PageError.{PageError}
use Rattle.acct_book.specs.declared.book.Unavailable as book
use Rattle.acct_desk.specs.declared.asking.Page.TheVariants.{Balance}
use Rattle.acct_desk.specs.Logins.{Login}
use Rattle.acct_desk.specs.Asks.{Ask, me, login}
use Rattle.acct_desk_pages.specs.declared.login.Heard.{Heard}
use Rattle.acct_desk_pages.specs.Logins.{is_short, login_body, number_or_null, paid_octets}
use Rattle.acct_desk_pages.specs.Logins.{stations_heard}
use Rattle.acct_desk_pages.specs.Responses.{error_body}
use Rattle.acct_desk_pages.specs.Bodies.{balance_body, session_item, sessions_body, topup_item}
use Rattle.acct_desk_pages.specs.Bodies.{topups_body, overrun_item, overrun_in, overruns_body}
use Rattle.acct_desk.specs.Handling.{IsTold, AreBalances, IsQueryTold}
use Rattle.acct_desk.specs.inner.Pages.{Shows, ShowsBy, page_of}

-- ---- bodies have no floats

integer_plain : (z : ℤ) → has_float (number (of_integer z)) ≡ false
integer_plain (pos n) = refl
integer_plain (negsuc n) = refl

pub balance_plain : (account : List ℕ) (z : ℤ) → has_float (balance_body account z) ≡ false
balance_plain account z = rw (integer_plain z) refl

items_plain : {X : Type 0} (f : X → Data) → ((x : X) → has_float (f x) ≡ false) → (xs : List X)
    → items_have_float (items_of (map f xs)) ≡ false
items_plain f plain [] = refl
items_plain f plain (x ∷ xs) = rw (plain x, items_plain f plain xs) refl

session_plain : (plans : List Plan) (row : RowFacts) → has_float (session_item plans row) ≡ false
unfolding session_item
session_plain plans row = refl

topup_plain : (topup : TopUpFacts) → has_float (topup_item topup) ≡ false
unfolding topup_item
topup_plain topup = refl

pub sessions_plain : (plans : List Plan) (account : List ℕ) (rows : List RowFacts)
    → has_float (sessions_body plans account rows) ≡ false
sessions_plain plans account rows =
    rw (items_plain (session_item plans) (session_plain plans) rows) refl

pub topups_plain : (account : List ℕ) (topups : List TopUpFacts)
    → has_float (topups_body account topups) ≡ false
topups_plain account topups = rw (items_plain topup_item topup_plain topups) refl

overrun_plain : (account : List ℕ) (n : ℕ) → has_float (overrun_item account n) ≡ false
unfolding overrun_item
overrun_plain account n = refl

pub cons_plain : (o : Option Data) (rest : List Data) → ((d : Data) → o ≡ Some d → has_float d ≡ false)
    → items_have_float (items_of rest) ≡ false
    → items_have_float (items_of (cons_option o rest)) ≡ false
cons_plain None rest one plain = plain
cons_plain (Some d) rest one plain = rw (one d refl, plain) refl

over_at : (account : List ℕ) (n : ℕ) (b : Bool) (d : Data)
    → cond b (Some (overrun_item account n)) None ≡ Some d → has_float d ≡ false
over_at account n true d e = ap has_float (let is : d ≡ overrun_item account n = cc in is)
    ∙ overrun_plain account n
over_at account n false d e = absurd (cc)

over_plain : (es : List (List ℕ × ℤ))
    → items_have_float (items_of (filter_map overrun_in es)) ≡ false
over_plain [] = refl
over_plain (e ∷ es) =
    cons_plain (overrun_in e) (filter_map overrun_in es)
    (over_at e.0 (overrun_of e.1) (nat_lt 0 (overrun_of e.1))) (over_plain es)

pub overruns_plain : (es : List (List ℕ × ℤ)) → has_float (overruns_body es) ≡ false
overruns_plain es = rw (over_plain es) refl

-- ---- a page that was read

module _ {B : Type 0} (plans : List Plan) (ask : Ask) (b : Ghosts B) (old new : B) where
  pub shows_none_by : {T : Type 0} (of : T → ℕ × Data) (error : PageError) → OnlyLooks b old new
      → ShowsBy of plans ask b old new (Err error)
  shows_none_by of error reads = record {
    reads = reads;
    answers = λ _. tt;
    plain = tt;
    told =
        λ _ _ _. tt;
  }

  pub shows_by : {T : Type 0} (of : T → ℕ × Data) (result : Result T PageError) (what : ℕ × Data)
      → OnlyLooks b old new → (b.is_sound new → b.is_open new)
      → IfOk result (λ t. of t ≡ what) → has_float what.1 ≡ false
      → (b.is_open new → (history : History) → Stands plans (b.content old) history
      → IsTold plans history ask what)
      → ShowsBy of plans ask b old new result
  shows_by of (Ok t) what reads opened is plain told = record {
    reads = reads;
    answers = opened;
    plain = ap (λ (w : ℕ × Data). has_float w.1) is ∙ plain;
    told = λ o history st. subst (IsTold plans history ask) (sym is) (told o history st);
  }
  shows_by of (Err error) what reads opened is plain told = shows_none_by of error reads

  pub shows_none : (error : PageError) → OnlyLooks b old new
      → Shows plans ask b old new (Err error)
  shows_none error reads = shows_none_by page_of error reads

  page_is : (result : Result Value PageError) (body : Data) → IfOk result (λ v. view v ≡ body)
      → IfOk result (λ v. page_of v ≡ (200, body))
  page_is (Ok v) body is = ap (λ (d : Data). (200, d)) is
  page_is (Err e) body is = tt

  pub shows_body : (result : Result Value PageError) (body : Data)
      → OnlyLooks b old new → (b.is_sound new → b.is_open new)
      → IfOk result (λ v. view v ≡ body) → has_float body ≡ false
      → (b.is_open new → (history : History) → Stands plans (b.content old) history
      → IsTold plans history ask (200, body))
      → Shows plans ask b old new result
  shows_body result body reads opened is plain told =
      shows_by page_of result (200, body) reads opened (page_is result body is) plain told

-- ---- what the book returned, in a history that its content stands for

pub balance_told : (plans : List Plan) (c : Content) (history : History) (a : List ℕ) (z : ℤ)
    → Stands plans c history → z ≡ kept_balance c a
    → balance_body a z ≡ balance_body a (part_of plans history a).balance
balance_told plans c history a z st is =
    ap (balance_body a) (is ∙ kept-balance plans c history st a)

own_row_is : (a : List ℕ) (o : Option RowFacts) (row : RowFacts) → o ≡ Some row
    → bytes_eq a row.account ≡ true → own_row a o ≡ Some row
own_row_is a o row is mine = ap (own_row a) is ∙ ap (λ b. cond b (Some row) None) mine

own_row_by : (a : List ℕ) (kept row : RowFacts) (b : Bool) → bytes_eq a kept.account ≡ b
    → cond b (Some kept) None ≡ Some row → (Some kept ≡ Some row) × (bytes_eq a row.account ≡ true)
own_row_by a kept row true mine e =
    (e, ap (λ (r : RowFacts). bytes_eq a r.account) (let is : row ≡ kept = cc in is) ∙ mine)
own_row_by a kept row false mine e = absurd (cc)

own_row_at : (a : List ℕ) (o : Option RowFacts) (row : RowFacts) → own_row a o ≡ Some row
    → (o ≡ Some row) × (bytes_eq a row.account ≡ true)
own_row_at a None row e = absurd (cc)
own_row_at a (Some kept) row e = own_row_by a kept row (bytes_eq a kept.account) refl e

-- the rows that a book returns for an account are those of its part
pub rows_told : (plans : List Plan) (c : Content) (history : History) (a : List ℕ)
    (rows : List RowFacts) → Stands plans c history → AreRowsOf c a rows
    → AreRowsIn (part_of plans history a) rows
rows_told plans c history a rows st are = record {
  in_order = are.in_order;
  each = λ row. (
    (λ h. let found = (are.each row).0 h in (
      own_row_is a (row_of plans history (key_of row)) row (sym (st.rows (key_of row))
          ∙ found.0) found.1,
      refl,
    )),
    (λ h. let own = own_row_at a (row_of plans history (key_of row)) row h.0 in
        (are.each row).1 (st.rows (key_of row) ∙ own.0, own.1)),
  );
}

own_topup_is : (a : List ℕ) (o : Option TopUpFacts) (t : TopUpFacts) → o ≡ Some t
    → bytes_eq a t.account ≡ true → own_topup a o ≡ Some t
own_topup_is a o t is mine = ap (own_topup a) is ∙ ap (λ b. cond b (Some t) None) mine

own_topup_by : (a : List ℕ) (kept t : TopUpFacts) (b : Bool) → bytes_eq a kept.account ≡ b
    → cond b (Some kept) None ≡ Some t → (Some kept ≡ Some t) × (bytes_eq a t.account ≡ true)
own_topup_by a kept t true mine e =
    (e, ap (λ (r : TopUpFacts). bytes_eq a r.account) (let is : t ≡ kept = cc in is) ∙ mine)
own_topup_by a kept t false mine e = absurd (cc)

own_topup_at : (a : List ℕ) (o : Option TopUpFacts) (t : TopUpFacts) → own_topup a o ≡ Some t
    → (o ≡ Some t) × (bytes_eq a t.account ≡ true)
own_topup_at a None t e = absurd (cc)
own_topup_at a (Some kept) t e = own_topup_by a kept t (bytes_eq a kept.account) refl e

-- the top-ups that a book returns for an account are those of its part
pub topups_told : (plans : List Plan) (c : Content) (history : History) (a : List ℕ)
    (ts : List TopUpFacts) → Stands plans c history → AreTopUpsOf c a ts
    → AreTopUpsIn (part_of plans history a) ts
topups_told plans c history a ts st are = record {
  in_order = are.in_order;
  each = λ t. (
    (λ h. let found = (are.each t).0 h in (
      own_topup_is a (topup_of history t.voucher) t (sym (st.topups t.voucher)
          ∙ found.0) found.1,
      refl,
    )),
    (λ h. let own = own_topup_at a (topup_of history t.voucher) t h.0 in
        (are.each t).1 (st.topups t.voucher ∙ own.0, own.1)),
  );
}

-- ---- a walk over the accounts

-- the accounts that a walk to the end met are the known ones
pub accounts_told : (plans : List Plan) (c : Content) (history : History)
    (es : List (List ℕ × ℤ)) → Stands plans c history → IsWalk octets_cmp c.balances None es
    → AreBalances plans history es
accounts_told plans c history es st w =
    let all = (walks-meet-all c).balances None es w in
    record {
      in_order = all.in_order;
      each = λ k x. (
        (λ h. let found = (all.each k x).0 h in (sym (st.balances k) ∙ found.0, found.1)),
        (λ h. (all.each k x).1 (st.balances k ∙ h.0, h.1)),
      );
    }

-- ---- the balance of one account

pub balance_shows : {B : Type 0} (plans : List Plan) (account : List ℕ) (b : Ghosts B) (old new : B)
    (told : Result ℤ book.Unavailable) (result : Result Value PageError)
    → Looks b old new told
    → (b.is_open new → IfOk told (λ z. z ≡ kept_balance (b.content old) account))
    → IfOk result (λ v. IfOk told (λ z. view v ≡ balance_body account z))
    → OnOk result (IsOk told)
    → Shows plans (me Balance account) b old new result
balance_shows plans account b old new (Ok z) (Ok v) reads
    found is answers =
    shows_body plans (me Balance account) b old new (Ok v)
    (balance_body account z)
    (looks_once b old new (Ok z)
    reads) reads.answers is (balance_plain account z)
    (λ o history st. (refl, balance_told plans (b.content old) history account z st (found o)))
balance_shows plans account b old new (Err e) (Ok v) reads
    found is answers = absurd (true≢false (sym answers))
balance_shows plans account b old new told (Err e) reads
    found is answers =
    shows_none plans (me Balance account) b old new e
    (looks_once b old new
    told reads)

pub not_both : {T E : Type 0} (r : Result T E) → IsOk r → IsErr r → ⊥
not_both (Ok x) is none = true≢false (sym none)
not_both (Err e) none is = true≢false (sym none)

-- ---- calls that read, one after the other

-- the next account of an equal content
pub next_from : (c d : Content) (after to : Option (List ℕ)) (x y : Option (List ℕ × ℤ))
    → IsNextBalance d after x → d ≡ c → after ≡ to → x ≡ y → IsNext octets_cmp c.balances to y
next_from c d after to x y next same is at =
    subst (λ o. IsNext octets_cmp c.balances to o) at
    (subst (λ o. IsNext octets_cmp c.balances o x) is
    (subst (λ e. IsNextBalance e after x) same next))

-- ---- a login

maybe_plain : (o : Option ℕ) → has_float (number_or_null o) ≡ false
maybe_plain None = refl
maybe_plain (Some n) = refl

pub login_plain : (plan : Plan) (stamp : List ℕ) (heard : Option Heard) (z : ℤ)
    (rows : List RowFacts) → has_float (login_body plan stamp heard z rows) ≡ false
unfolding login_body
login_plain plan stamp heard z rows =
    rw (maybe_plain (paid_octets plan z), maybe_plain (stations_heard heard rows)) refl

-- the balance that a book returned is that of the account's part
its_balance : (plans : List Plan) (c : Content) (history : History) (a : List ℕ) (z : ℤ)
    → Stands plans c history → z ≡ kept_balance c a → z ≡ (part_of plans history a).balance
its_balance plans c history a z st is = is ∙ kept-balance plans c history st a

pub short_told : (plans : List Plan) (c : Content) (history : History) (asked : Login) (z : ℤ)
    → Stands plans c history → z ≡ kept_balance c asked.account → is_short asked.plan z ≡ true
    → IsQueryTold plans history (login asked) (402, error_body (codes "no balance"))
short_told plans c history asked z st is short =
    subst (λ b. MatchBool b
    (◌≡◌ {A = ℕ × Data} (402, error_body (codes "no balance")) (402, error_body (codes "no balance")))
    ((rows : List RowFacts) × AreRowsIn (part_of plans history asked.account) rows
    × (◌≡◌ {A = ℕ × Data} (402, error_body (codes "no balance")) (
      200,
      login_body asked.plan
          asked.stamp asked.heard (part_of plans history asked.account).balance rows,
    ))))
    (sym short ∙ ap (is_short asked.plan) (its_balance plans c history asked.account z st is)) refl

pub login_told : (plans : List Plan) (c d : Content) (history : History) (asked : Login) (z : ℤ)
    (rows : List RowFacts) → Stands plans c history → z ≡ kept_balance c asked.account
    → is_short asked.plan z ≡ false → d ≡ c → (account : List ℕ) → account ≡ asked.account
    → AreRowsOf d account rows
    → IsQueryTold plans history (login asked)
    (200, login_body asked.plan asked.stamp asked.heard z rows)
login_told plans c d history asked z rows st is enough same account mine are =
    let told = its_balance plans c history asked.account z st is in
    let own = subst (λ a. AreRowsOf c a rows) mine (subst (λ e. AreRowsOf e account rows) same are)
    in
    subst (λ b. MatchBool b
    (◌≡◌ {A = ℕ × Data} (200, login_body asked.plan asked.stamp asked.heard z rows)
    (402, error_body (codes "no balance")))
    ((rows' : List RowFacts) × AreRowsIn (part_of plans history asked.account) rows'
    × (◌≡◌ {A = ℕ × Data} (200, login_body asked.plan asked.stamp asked.heard z rows) (
      200,
      login_body asked.plan asked.stamp asked.heard (part_of plans history asked.account).balance
          rows',
    ))))
    (sym enough ∙ ap (is_short asked.plan) told) (
      rows,
      rows_told plans c history asked.account rows st own,
      ap (λ y. (200, login_body asked.plan asked.stamp asked.heard y rows)) told,
    )
