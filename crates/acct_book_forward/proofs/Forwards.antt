-- Why a content stands for a history after sessions were carried forward.
use Rattle.std.proofs.Common.{◌≡◌, ◌≢◌, ℕ, ◌+◌, ◌*◌, Bool, true, false, ◌&&◌, ◌||◌, cond, List, []}
use Rattle.std.proofs.Common.{◌∷◌, refl, sym, ap, ◌∙◌, subst, true≢false, arith, ◌<◌}
use Rattle.std.specs.Prelude.{Option, Some, None, bytes_eq, is_some, option_map, Contains}
use Rattle.std.specs.List.{filter}
use Rattle.acct_model.specs.declared.plan.Plan.{Plan}
use Rattle.acct_model.specs.Report.{ReportFacts}
use Rattle.acct_model.specs.Plans.{started_blocks, counted, plan_for}
use Rattle.acct_model.specs.History.{Accepted, PlansAdded, History, SessionName, session_of}
use Rattle.acct_model.specs.History.{same_session, reports, first_of, plan_of, greatest_counted}
use Rattle.acct_model.specs.History.{InRange, counted_of}
use Rattle.acct_model.specs.Forward.{without, without_all, blocks_of, IsOf, AreOf, RaisesBy}
use Rattle.acct_model.specs.Forward.{CarriesForward, forwarded}
use Rattle.acct_model.proofs.Without.{reports-kept, reports-gone, plan-kept}
use Rattle.acct_model.proofs.Forward.{balance-forwarded, is_known-forwarded, topups-without_all}
use Rattle.acct_model.proofs.Balances.{first_of-none, first_of-more, plan-first, plan-later}
use Rattle.acct_book.specs.declared.key.Key.{Key}
use Rattle.acct_book.specs.Row.{RowFacts}
use Rattle.acct_book.specs.Content.{Content, same_key, key_of, rows_without, with_forward}
use Rattle.acct_book.specs.Rows.{name_of, row_from, row_of_reports, is_restarted, row_of, greatest}
use Rattle.acct_book.specs.Charge.{class_of_plan}
use Rattle.acct_book.specs.Next.{report_key, next_row}
use Rattle.acct_book.specs.Stands.{Stands}
use Rattle.acct_book.proofs.Keys.{key_is, Decides-same_key}
use Rattle.acct_book.proofs.Rows.{greatest-counted, row-plan, row_of-report, row_of-other}
use Rattle.acct_book.proofs.Steps.{row_after, after-key}
use Rattle.std.specs.Map.{update}
use Rattle.acct_model.proofs.Lists.{here, deeper}
use Rattle.acct_book_forward.specs.inner.Forwarding.{HaveRows, blocks_at, blocks_in, IsInto}
use Rattle.acct_book_forward.specs.inner.Forwarding.{CarriesRows, names_of}
use Rattle.acct_model.specs.declared.entry.Entry.TheVariants as entry

-- ---- the rows without a session

-- a restart closes the other sessions as it did
restarted-kept : (history : History) (name : SessionName) (key : Key) → name_of key ≢ name
    → is_restarted (without name history) key ≡ is_restarted history key
restarted-kept [] name key other = refl
restarted-kept (Accepted (entry.Report r) ∷ older) name key other =
    elim (same_session name (session_of r)) as (λ b.
    is_restarted (cond b (without name older) (Accepted (entry.Report r) ∷ without name older)) key
    ≡ is_restarted older key) [
      | true ↦ restarted-kept older name key other
      | false ↦ restarted-kept older name key other
    ]
restarted-kept (Accepted (entry.Restart x) ∷ older) name key other =
    λ i. (bytes_eq x.client key.client
    && is_some (first_of (reports-kept older name (name_of key) other i)))
    || restarted-kept older name key other i
restarted-kept (Accepted (entry.TopUp t) ∷ older) name key other =
    restarted-kept older name key other
restarted-kept (PlansAdded plans ∷ older) name key other = restarted-kept older name key other

-- the other sessions keep their rows
pub row-kept : (plans : List Plan) (history : History) (name : SessionName) (key : Key)
    → name_of key ≢ name
    → row_of plans (without name history) key ≡ row_of plans history key
row-kept plans history name key other =
    λ i. row_of_reports (plan-kept plans history name (name_of key) other i) key
    (restarted-kept history name key other i) (reports-kept history name (name_of key) other i)

-- the session has none
pub row-gone : (plans : List Plan) (history : History) (key : Key)
    → row_of plans (without (name_of key) history) key ≡ None
row-gone plans history key =
    let name = name_of key in
    ap (row_of_reports (plan_of plans (without name history) name) key
    (is_restarted (without name history) key)) (reports-gone history name)

pub name_key : (a b : Key) → name_of a ≡ name_of b → a ≡ b
name_key a b e = λ i. record { client = (e i).client; session = (e i).session }

-- ---- what a row says of its session

-- a row is that of a first report
pub first_at : (plan : Option Plan) (key : Key) (b : Bool) (all : List ReportFacts) (row : RowFacts)
    (o : Option ReportFacts) → option_map (row_from plan key b all) o ≡ Some row
    → (first : ReportFacts) × (o ≡ Some first) × (row_from plan key b all first ≡ row)
first_at plan key b all row None e = absurd (cc)
first_at plan key b all row (Some first) e =
    let is : row_from plan key b all first ≡ row = cc in (first, refl, is)

-- and counts the greatest number
pub counted_at : (plans : List Plan) (history : History) (key : Key) (row : RowFacts) (plan : Plan)
    (first : ReportFacts)
    → row_from (plan_of plans history (name_of key)) key (is_restarted history key)
    (reports history (name_of key)) first ≡ row
    → plan_of plans history (name_of key) ≡ Some plan
    → counted plan row.input row.output ≡ greatest_counted (Some plan) (reports history (name_of key))
counted_at plans history key row plan first is planned =
    let all = reports history (name_of key) in
    ap (λ (r : RowFacts). counted plan r.input r.output) (sym is)
    ∙ ap (λ p. counted plan (greatest p all).0 (greatest p all).1) planned
    ∙ greatest-counted (Some plan) all

pub none_from : (plan : Option Plan) (key : Key) (b : Bool) (all : List ReportFacts)
    (o : Option ReportFacts) → option_map (row_from plan key b all) o ≡ None → o ≡ None
none_from plan key b all None e = refl
none_from plan key b all (Some x) e = absurd (cc)

pub key_from : (plan : Option Plan) (key : Key) (b : Bool) (all : List ReportFacts)
    (o : Option ReportFacts) (row : RowFacts)
    → option_map (row_from plan key b all) o ≡ Some row → key_of row ≡ key
key_from plan key b all None row e = absurd (cc)
key_from plan key b all (Some x) row e =
    let same : row_from plan key b all x ≡ row = cc in ap key_of (sym same)

-- ---- the rows without some

-- the rows are those of the history's sessions
abbrev RowsStand : List Plan → (Key → Option RowFacts) → History → Type 0
RowsStand plans rows history = (k : Key) → rows k ≡ row_of plans history k

less_at : (plans : List Plan) (history : History) (key k : Key) (b : Bool) → same_key key k ≡ b
    → cond b None (row_of plans history k) ≡ row_of plans (without (name_of key) history) k
less_at plans history key k true e =
    sym (ap (row_of plans (without (name_of key) history)) (sym (key_is key k e))
    ∙ row-gone plans history key)
less_at plans history key k false e =
    sym (row-kept plans history (name_of key) k
    (λ same. true≢false (sym ((Decides-same_key key k).1 (name_key key k (sym same))) ∙ e)))

rows_less : (plans : List Plan) (rows : Key → Option RowFacts) (history : History) (key : Key)
    → RowsStand plans rows history
    → RowsStand plans (update same_key rows key None) (without (name_of key) history)
rows_less plans rows history key st k =
    ap (λ o. cond (same_key key k) None o) (st k)
    ∙ less_at plans history key k (same_key key k) refl

rows_all : (plans : List Plan) (rows : Key → Option RowFacts) (history : History)
    (keys : List Key) → RowsStand plans rows history
    → RowsStand plans (rows_without rows keys) (without_all (names_of keys) history)
rows_all plans rows history [] st = st
rows_all plans rows history (key ∷ keys) st =
    rows_all plans (update same_key rows key None) (without (name_of key) history) keys
    (rows_less plans rows history key st)

-- a key that is none of them has its row
rows_apart : (rows : Key → Option RowFacts) (keys : List Key) (k : Key)
    → ((gone : Key) → Contains keys gone → k ≢ gone) → rows_without rows keys k ≡ rows k
rows_apart rows [] k apart = refl
rows_apart rows (key ∷ keys) k apart =
    rows_apart (update same_key rows key None) keys k
    (λ gone there. apart gone (deeper key gone keys there))
    ∙ other (same_key key k) refl
  where
    other : (b : Bool) → same_key key k ≡ b → cond b None (rows k) ≡ rows k
    other true e = absurd (apart key (here key keys) (sym (key_is key k e)))
    other false e = refl

-- ---- the sessions

is_of : (plans : List Plan) (history : History) (plan : Plan) (owner class : List ℕ) (key : Key)
    (row : RowFacts) → plan_for plans class ≡ Some plan → row_of plans history key ≡ Some row
    → row.account ≡ owner → row.plan ≡ class
    → IsOf plans plan owner history (name_of key)
    × (started_blocks plan.block (greatest_counted (Some plan) (reports history (name_of key)))
    ≡ blocks_at plan (Some row))
is_of plans history plan owner class key row planned is account kept =
    let name = name_of key in
    let first = first_at (plan_of plans history name) key (is_restarted history key)
    (reports history name) row (first_of (reports history name)) is in
    let keeps : row.plan ≡ class_of_plan (plan_of plans history name) =
    sym (ap (λ (r : RowFacts). r.plan) first.2) in
    let own : plan_of plans history name ≡ Some plan =
    sym (row-plan plans history key first.0 first.1 row keeps)
    ∙ ap (plan_for plans) kept ∙ planned in (
      (first.0, first.1, ap (λ (r : RowFacts). r.account) first.2 ∙ account, own),
      ap (started_blocks plan.block)
          (sym (counted_at plans history key row plan first.0 first.2 own)),
    )

are_of : (plans : List Plan) (rows : Key → Option RowFacts) (history : History) (plan : Plan)
    (owner class : List ℕ) (keys : List Key) → plan_for plans class ≡ Some plan
    → RowsStand plans rows history → HaveRows owner class rows keys
    → AreOf plans plan owner history (names_of keys)
    × (blocks_of plan history (names_of keys) ≡ blocks_in plan rows keys)
are_of plans rows history plan owner class [] planned st have = (tt, refl)
are_of plans rows history plan owner class (key ∷ keys) planned st (one, have) =
    let first = is_of plans history plan owner class key one.0 planned (sym (st key) ∙ one.1)
    one.2 one.3 in
    let rest = are_of plans (update same_key rows key None) (without (name_of key) history) plan
    owner class keys planned (rows_less plans rows history key st) have in
    let here_is : started_blocks plan.block
    (greatest_counted (Some plan) (reports history (name_of key))) ≡ blocks_at plan (rows key) =
    first.1 ∙ ap (blocks_at plan) (sym one.1) in (
      (first.0, rest.0),
      (λ i. here_is i + rest.1 i),
    )

-- ---- the row into which they are carried

raises_by : (plans : List Plan) (history : History) (report : ReportFacts) (plan : Plan)
    (blocks more : ℕ) → plan_for plans report.class ≡ Some plan → 0 < plan.block
    → counted_of (Some plan) report ≡ (blocks + more) * plan.block
    → (found : Option RowFacts) → row_of plans history (report_key report) ≡ found
    → IsInto plan report.user report.class found blocks
    → RaisesBy plans history report plan report.user more
raises_by plans history report plan blocks more planned some raised None is into =
    let s = session_of report in
    let key = report_key report in
    let none : first_of (reports history s) ≡ None =
    none_from (plan_of plans history s) key (is_restarted history key) (reports history s)
    (first_of (reports history s)) is in
    let nothing = first_of-none (reports history s) none in
    let few : 0 ≡ blocks * plan.block = omega (arith, ap (λ n. n * plan.block) into) in
    record {
      some = some;
      same_plan = plan-first plans history report none ∙ planned;
      into = report;
      into_is = ap (λ rs. first_of (report ∷ rs)) nothing;
      same_owner = refl;
      blocks = blocks;
      whole = ap (greatest_counted (Some plan)) nothing ∙ few;
      raised = raised;
    }
raises_by plans history report plan blocks more planned some raised (Some old) is into =
    let s = session_of report in
    let key = report_key report in
    let first = first_at (plan_of plans history s) key (is_restarted history key)
    (reports history s) old (first_of (reports history s)) is in
    let keeps : old.plan ≡ class_of_plan (plan_of plans history s) =
    sym (ap (λ (r : RowFacts). r.plan) first.2) in
    let own : plan_of plans history s ≡ Some plan =
    sym (row-plan plans history key first.0 first.1 old keeps)
    ∙ ap (plan_for plans) into.1 ∙ planned in
    record {
      some = some;
      same_plan = plan-later plans history report first.0 first.1 ∙ own;
      into = first.0;
      into_is = first_of-more report first.0 (reports history s) first.1;
      same_owner = ap (λ (r : RowFacts). r.account) first.2 ∙ into.0;
      blocks = blocks;
      whole = sym (counted_at plans history key old plan first.0 first.2 own) ∙ into.2;
      raised = raised;
    }

-- ---- the content

row_at : (plans : List Plan) (rest : History) (report : ReportFacts) (k : Key) (b : Bool)
    → same_key (report_key report) k ≡ b
    → cond b (Some (row_after plans report rest)) (row_of plans rest k)
    ≡ row_of plans (Accepted (entry.Report report) ∷ rest) k
row_at plans rest report k true e =
    sym (ap (row_of plans (Accepted (entry.Report report) ∷ rest))
    (sym (key_is (report_key report) k e)) ∙ row_of-report plans report rest)
row_at plans rest report k false e = sym (row_of-other plans report rest k e)

-- the row into which they are carried is the same without their rows
found_left : (plans : List Plan) (content : Content) (history : History) (key : Key)
    (keys : List Key) (report : ReportFacts) → Stands plans content history
    → CarriesRows plans content.rows key keys report
    → content.rows (report_key report)
    ≡ row_of plans (without_all (names_of (key ∷ keys)) history) (report_key report)
found_left plans content history key keys report st c =
    sym (rows_apart content.rows (key ∷ keys) (report_key report) c.apart)
    ∙ rows_all plans content.rows history (key ∷ keys) st.rows (report_key report)

-- the history says what the rows say
pub carried_all : (plans : List Plan) (content : Content) (history : History) (key : Key)
    (keys : List Key) (report : ReportFacts) → Stands plans content history
    → CarriesRows plans content.rows key keys report
    → CarriesForward plans history (name_of key) (names_of keys) report
carried_all plans content history key keys report st c =
    let are = are_of plans content.rows history c.plan report.user report.class (key ∷ keys)
    c.plan_is st.rows c.have in
    let raised = c.raised ∙ ap (λ n. (c.blocks + n) * c.plan.block) (sym are.1) in
    record {
      plan = c.plan;
      owner = report.user;
      are = are.0;
      raises = raises_by plans (without_all (names_of (key ∷ keys)) history) report c.plan c.blocks
          (blocks_of c.plan history (names_of (key ∷ keys))) c.plan_is c.some raised
          (content.rows (report_key report))
          (sym (found_left plans content history key keys report st c)) c.into;
    }

-- The content in which sessions were carried forward stands for the history in which they were, for
-- any history that the content stood for before.
abbrev pub ForwardsStand : Type 0
ForwardsStand = (plans : List Plan) (content : Content) (history : History) (key : Key)
    (keys : List Key) (report : ReportFacts)
    → Stands plans content history
    → CarriesRows plans content.rows key keys report
    → Stands plans
    (with_forward content (key ∷ keys)
    (next_row plans (content.rows (report_key report)) report))
    (forwarded history (names_of (key ∷ keys)) report)

pub forwards_stand : ForwardsStand
forwards_stand plans content history key keys report st c =
    let names = names_of keys in
    let rest = without_all (names_of (key ∷ keys)) history in
    let left : (k : Key) → rows_without content.rows (key ∷ keys) k ≡ row_of plans rest k =
    rows_all plans content.rows history (key ∷ keys) st.rows in
    let found = found_left plans content history key keys report st c in
    let carried = carried_all plans content history key keys report st c in
    let into = row_after plans report rest in
    let set : next_row plans (content.rows (report_key report)) report ≡ into =
    ap (λ o. next_row plans o report) found in
    let at : key_of into ≡ report_key report = after-key plans report rest in
    let balance = balance-forwarded plans history (name_of key) names report carried in
    let known = is_known-forwarded plans history (name_of key) names report carried in
    subst (λ r. Stands plans (with_forward content (key ∷ keys) r)
    (forwarded history (names_of (key ∷ keys)) report)) (sym set) (record {
      rows = λ k.
          ap (λ s. cond (same_key s k) (Some into) (rows_without content.rows (key ∷ keys) k)) at
          ∙ ap (λ o. cond (same_key (report_key report) k) (Some into) o) (left k)
          ∙ row_at plans rest report k (same_key (report_key report) k) refl;
      balances = λ account. st.balances account
          ∙ (λ i. cond (sym (known account) i) (Some (sym (balance account) i)) None);
      topups = λ number. st.topups number
          ∙ ap (λ ts. first_of (filter (λ t. bytes_eq number t.voucher) ts))
          (sym (topups-without_all (names_of (key ∷ keys)) history));
      kept = st.kept;
      in_range = λ account. subst InRange (sym (balance account)) (st.in_range account);
    })
