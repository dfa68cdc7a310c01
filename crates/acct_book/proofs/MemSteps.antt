-- What the changes of three maps do to the content that they are.
use Rattle.std.proofs.Common.{◌≡◌, ℕ, Bool, true, false, cond, List, refl, sym, ap, ◌∙◌, subst}
use Rattle.std.specs.Prelude.{ℤ, Option, Some, None, option_map, Result, Ok, Err, OnOk, OnErr, map}
use Rattle.std.specs.Prelude.{Vec, String, string_bytes, bytes_eq}
use Rattle.std.specs.String.{string_cmp}
use Rattle.std.specs.Global.{Global}
use Rattle.std.specs.Ordering.{nat_cmp}
use Rattle.std.specs.Cmp.Lexicographic.{slice_cmp}
use Rattle.std.specs.BTreeMap as tree
use Rattle.std.specs.BTreeMap.{BTreeMap, IsUnchanged}
use Rattle.std.specs.Map.{update, lookup}
use Rattle.std.proofs.lemmas.Map.Text.{btree_map_updates_text}
use Rattle.std.proofs.lemmas.Map.Made.{lookup-map_values}
use Rattle.acct_model.specs.Vouchers.{TopUpFacts}
use Rattle.acct_book.specs.declared.key.Key.{Key}
use Rattle.acct_book.specs.declared.row.SessionState.{SessionState}
use Rattle.acct_book.specs.declared.row.SessionState.TheVariants.{Live, Closed, Stopped}
use Rattle.acct_book.specs.declared.memory_book.MemBook.{MemBook}
use Rattle.acct_book.specs.Row.{RowFacts}
use Rattle.acct_book.specs.Book.{Writes}
use Rattle.acct_book.specs.Content.{Content, HasOwnKeys, same_key, key_of, with_session, with_topup}
use Rattle.acct_book.specs.Content.{with_closed, closed_by, closed_row}
use Rattle.acct_book.specs.Maps.{key_cmp, balance_at, content_from}
use Rattle.acct_book.specs.Memory.{content_of}
use Rattle.acct_book.proofs.Keys.{key_is, octets_are}
use Rattle.acct_book.proofs.MapSteps.{key-updates}

-- ---- members under their own keys

some_is : {A : Type 0} (x y : A) → Some x ≡ Some y → x ≡ y
some_is x y e = cc

row_put : (row r : RowFacts) (key : Key) (o : Option RowFacts) (b : Bool)
    → same_key (key_of row) key ≡ b → cond b (Some row) o ≡ Some r → (o ≡ Some r → key_of r ≡ key)
    → key_of r ≡ key
row_put row r key o true e is old = ap key_of (sym (some_is row r is)) ∙ key_is (key_of row) key e
row_put row r key o false e is old = old is

pub own-session : (c : Content) (row : RowFacts) (z : ℤ) → HasOwnKeys c
    → HasOwnKeys (with_session c row z)
own-session c row z own = record {
  rows = λ key r is. row_put row r key (c.rows key) (same_key (key_of row) key) refl is
      (own.rows key r);
  topups = own.topups;
}

topup_put : (topup t : TopUpFacts) (number : List ℕ) (o : Option TopUpFacts) (b : Bool)
    → bytes_eq topup.voucher number ≡ b → cond b (Some topup) o ≡ Some t
    → (o ≡ Some t → t.voucher ≡ number) → t.voucher ≡ number
topup_put topup t number o true e is old = ap (λ (x : TopUpFacts). x.voucher)
    (sym (some_is topup t is)) ∙ octets_are topup.voucher number e
topup_put topup t number o false e is old = old is

pub own-topup : (c : Content) (topup : TopUpFacts) (z : ℤ) → HasOwnKeys c
    → HasOwnKeys (with_topup c topup z)
own-topup c topup z own = record {
  rows = own.rows;
  topups = λ number t is. topup_put topup t number (c.topups number)
      (bytes_eq topup.voucher number) refl is (own.topups number t);
}

state_key : (row : RowFacts) (state : SessionState) → key_of (closed_row row state) ≡ key_of row
state_key row Live = refl
state_key row Closed = refl
state_key row Stopped = refl

closed_key_at : (row : RowFacts) (b : Bool) → key_of (cond b (closed_row row row.state) row)
    ≡ key_of row
closed_key_at row true = state_key row row.state
closed_key_at row false = refl

-- closing keeps the key
pub closed-key : (client : List ℕ) (row : RowFacts) → key_of (closed_by client row) ≡ key_of row
closed-key client row = closed_key_at row (bytes_eq client row.client)

row_closed : (client : List ℕ) (key : Key) (r : RowFacts) (o : Option RowFacts)
    → option_map (closed_by client) o ≡ Some r → ((x : RowFacts) → o ≡ Some x → key_of x ≡ key)
    → key_of r ≡ key
row_closed client key r None is old = absurd (cc)
row_closed client key r (Some x) is old = ap key_of (sym (some_is (closed_by client x) r is))
    ∙ closed-key client x ∙ old x refl

pub own-closed : (c : Content) (client : List ℕ) → HasOwnKeys c → HasOwnKeys (with_closed c client)
own-closed c client own = record {
  rows = λ key r is. row_closed client key r (c.rows key) is (own.rows key);
  topups = own.topups;
}

-- ---- a write that sets all or changes nothing

pub record Put {T E : Type 0} (result : Result T E) (old new written : Content) : Type 0 where
  pub ok : OnOk result (new ≡ written)
  pub err : OnErr result (new ≡ old)

own_at : {T E : Type 0} (r : Result T E) (old new written : Content) → OnOk r (new ≡ written)
    → OnErr r (new ≡ old) → HasOwnKeys old → HasOwnKeys written → HasOwnKeys new
own_at (Ok x) old new written ok err o w = subst HasOwnKeys (sym ok) w
own_at (Err e) old new written ok err o w = subst HasOwnKeys (sym err) o

pub own-put : {T E : Type 0} (r : Result T E) (old new written : Content) → Put r old new written
    → HasOwnKeys old → HasOwnKeys written → HasOwnKeys new
own-put r old new written put = own_at r old new written put.ok put.err

always : {T E : Type 0} (r : Result T E) → OnOk r (Unit {0})
always (Ok x) = tt
always (Err e) = tt

-- a book in memory writes so
pub mem-writes : {T E : Type 0} (old new : MemBook) (written : Content) (r : Result T E)
    → Put r (content_of old) (content_of new) written
    → Writes content_of (λ _. Unit {0}) (λ _. Unit {0}) (λ _. Unit {0}) (λ _ _. ⊥) old new written r
mem-writes old new written r put = record {
  was_sound = λ s. s;
  was_open = λ s. s;
  keeps_steady = λ s. s;
  answers = λ _. always r;
  ok = λ _. put.ok;
  err = λ _. put.err;
  adds_written = λ _ c h. absurd h;
}

both_at : {T E : Type 0} (r : Result T E) (P Q N M : Type 0) (old new written : Content) → OnOk r P
    → OnOk r Q → OnErr r N → OnErr r M → (P → Q → new ≡ written) → (N → M → new ≡ old)
    → Put r old new written
both_at (Ok x) P Q N M old new written p q n m ok err = record { ok = ok p q; err = tt }
both_at (Err e) P Q N M old new written p q n m ok err = record { ok = tt; err = err n m }

abbrev pub Topups : Type 0
Topups = BTreeMap (String Global) TopUpFacts

abbrev pub Balances : Type 0
Balances = BTreeMap (Vec ℕ Global) ℤ

session_ok : (m n : BTreeMap Key RowFacts) (b d : Balances) (t : Topups) (row copy : RowFacts)
    (key : Key) (name : List ℕ) (y z : ℤ) → key ≡ key_of row → copy ≡ row → name ≡ row.account
    → y ≡ z
    → tree.Updates key_cmp m n key (Some copy) → ((a : List ℕ)
    → balance_at d a ≡ update bytes_eq (balance_at b) name (Some y) a)
    → content_from n d t ≡ with_session (content_from m b t) row z
session_ok m n b d t row copy key name y z k c x w rows balances =
    (λ i. record {
      rows = λ q. key-updates m n key (Some copy) rows q i;
      balances = λ a. balances a i;
      topups = tree.get_by_text t;
      plans = None;
    })
    ∙ (λ i. record {
      rows = update same_key (tree.get key_cmp m) (k i) (Some (c i));
      balances = update bytes_eq (balance_at b) (x i) (Some (w i));
      topups = tree.get_by_text t;
      plans = None;
    })

session_err : (m n : BTreeMap Key RowFacts) (b d : Balances) (t : Topups) → IsUnchanged m n
    → ((a : List ℕ) → balance_at d a ≡ balance_at b a) → content_from n d t ≡ content_from m b t
session_err m n b d t rows balances = λ i. record {
  rows = λ q. lookup (tree.is_at (key_cmp q)) (rows i);
  balances = λ a. balances a i;
  topups = tree.get_by_text t;
  plans = None;
}

-- a row and a balance, set in their maps
pub put-session : {T E : Type 0} (r : Result T E) (m n : BTreeMap Key RowFacts) (b d : Balances)
    (t : Topups) (row copy : RowFacts) (key : Key) (name : List ℕ) (y z : ℤ) → key ≡ key_of row
    → copy ≡ row → name ≡ row.account → y ≡ z
    → OnOk r (tree.Updates key_cmp m n key (Some copy)) → OnOk r ((a : List ℕ)
    → balance_at d a ≡ update bytes_eq (balance_at b) name (Some y) a)
    → OnErr r (IsUnchanged m n) → OnErr r ((a : List ℕ) → balance_at d a ≡ balance_at b a)
    → Put r (content_from m b t) (content_from n d t) (with_session (content_from m b t) row z)
put-session r m n b d t row copy key name y z k c x w rows balances rows_err balances_err =
    both_at r _ _ _ _ (content_from m b t) (content_from n d t)
    (with_session (content_from m b t) row z) rows balances rows_err balances_err
    (session_ok m n b d t row copy key name y z k c x w) (session_err m n b d t)

topup_ok : (m n : Topups) (b d : Balances) (t : BTreeMap Key RowFacts) (topup copy : TopUpFacts)
    (key : String Global) (name : List ℕ) (y z : ℤ) → string_bytes key ≡ topup.voucher
    → copy ≡ topup → name ≡ topup.account → y ≡ z
    → tree.Updates string_cmp m n key (Some copy) → ((a : List ℕ)
    → balance_at d a ≡ update bytes_eq (balance_at b) name (Some y) a)
    → content_from t d n ≡ with_topup (content_from t b m) topup z
topup_ok m n b d t topup copy key name y z k c x w topups balances =
    (λ i. record {
      rows = tree.get key_cmp t;
      balances = λ a. balances a i;
      topups = λ q. btree_map_updates_text (string_bytes key) m n (Some copy) topups q i;
      plans = None;
    })
    ∙ (λ i. record {
      rows = tree.get key_cmp t;
      balances = update bytes_eq (balance_at b) (x i) (Some (w i));
      topups = update bytes_eq (tree.get_by_text m) (k i) (Some (c i));
      plans = None;
    })

topup_err : (m n : Topups) (b d : Balances) (t : BTreeMap Key RowFacts) → IsUnchanged m n
    → ((a : List ℕ) → balance_at d a ≡ balance_at b a) → content_from t d n ≡ content_from t b m
topup_err m n b d t topups balances = λ i. record {
  rows = tree.get key_cmp t;
  balances = λ a. balances a i;
  topups = λ q. lookup (tree.is_at (λ k. slice_cmp nat_cmp q (string_bytes k))) (topups i);
  plans = None;
}

-- a top-up and a balance, set in their maps
pub put-topup : {T E : Type 0} (r : Result T E) (m n : Topups) (b d : Balances)
    (t : BTreeMap Key RowFacts) (topup copy : TopUpFacts) (key : String Global) (name : List ℕ)
    (y z : ℤ) → string_bytes key ≡ topup.voucher → copy ≡ topup → name ≡ topup.account → y ≡ z
    → OnOk r (tree.Updates string_cmp m n key (Some copy))
    → OnOk r ((a : List ℕ) → balance_at d a ≡ update bytes_eq (balance_at b) name (Some y) a)
    → OnErr r (IsUnchanged m n) → OnErr r ((a : List ℕ) → balance_at d a ≡ balance_at b a)
    → Put r (content_from t b m) (content_from t d n) (with_topup (content_from t b m) topup z)
put-topup r m n b d t topup copy key name y z k c x w topups balances topups_err balances_err =
    both_at r _ _ _ _ (content_from t b m) (content_from t d n)
    (with_topup (content_from t b m) topup z) topups balances topups_err balances_err
    (topup_ok m n b d t topup copy key name y z k c x w) (topup_err m n b d t)

-- each live row of a client, closed in the map
pub rows-closed : (m n : BTreeMap Key RowFacts) (b : Balances) (t : Topups) (client : List ℕ)
    → n.entries ≡ map (λ e. (e.0, closed_by client e.1)) m.entries
    → content_from n b t ≡ with_closed (content_from m b t) client
rows-closed m n b t client rows = λ i. record {
  rows = λ q. (ap (lookup (tree.is_at (key_cmp q))) rows
      ∙ lookup-map_values (closed_by client) (tree.is_at (key_cmp q)) m.entries) i;
  balances = balance_at b;
  topups = tree.get_by_text t;
  plans = None;
}
