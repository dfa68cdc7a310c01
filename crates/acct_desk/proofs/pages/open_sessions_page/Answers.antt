use Rattle.std.proofs.Common.{◌≡◌, ℕ, ℤ, ◌≤◌, List, [], ◌∷◌, ◌++◌, length, map, refl, sym}
use Rattle.std.proofs.Common.{ap, ◌∙◌, subst, arith}
use Rattle.std.specs.Prelude.{Some, None, Option, Vec, option_map}
use Rattle.std.specs.Global.{Global}
use Rattle.std.specs.List.{filter_map}
use Rattle.std.specs.Option.{option_copied}
use Rattle.std.proofs.lemmas.List.{length-append}
use Rattle.std.proofs.lemmas.List.Elements.{All-nil, filter_map-append}
use Rattle.serde_json.specs.View.{view}
use Rattle.acct_book.specs.Walk.{AreRowsOf}
use Rattle.acct_book.proofs.Looking.{looks_none, looks_then}
use Rattle.acct_model.specs.declared.plan.Plan.{Plan}
use Rattle.acct_book.specs.Step.{OnlyLooks}
use Rattle.serde_json.specs.declared.value.Value.{Value}
use Rattle.acct_desk_pages.specs.Overdrawn.{open_in}
use Rattle.acct_desk.specs.Overdrawn.{Looked, rows_looked, HasRows, IsPartOf}
use Rattle.acct_desk.proofs.PageLemmas.{next_from}
use Rattle.acct_desk.proofs.Parts.{part_shows, body_is, part_ended, part_full, looks_all}
use Rattle.acct_desk.proofs.Parts.{begun_step, rows_looked-more, full_of_accounts, full_of_rows}
use Rattle.acct_desk.proofs.Parts.{open_within, open_more}
use Rattle.acct_desk.proofs.pages.open_sessions_page.Goals as goal
use Rattle.acct_desk.proofs.pages.open_sessions_page.Goals.{else-loop-test}
use Rattle.acct_desk.proofs.pages.open_sessions_page.Goals.{then-loop-test+in_ok-entry+in-Some+in_ok-rows+then-rows-ge-PART_ROWS}

abbrev entry_of : Vec ℕ Global × ℤ → List ℕ × ℤ
entry_of e = (e.0.items, e.1)

abbrev items_of_vec : Vec ℕ Global → List ℕ
items_of_vec v = v.items

pub loop-init : goal.loop-init
loop-init g c =
    let b = g.B.Book in
    let old = c.args.book.now in
    record {
      reads = looks_none b old;
      part = (
        [],
        (λ _. record {
          in_turn = tt;
          last = refl;
          with_rows = All-nil (HasRows (AreRowsOf (b.content old)));
        }),
        ap (map view) c.new-found.ensures.items,
      );
      counted = (refl, refl);
      low = omega arith;
      opened = λ none. absurd (omega (arith, none));
    }

pub returns-in_default : goal.returns-in_default
returns-in_default g c =
    let b = g.B.Book in
    let old = c.args.book.now in
    let mid = c.loop.book in
    let new = c.next_account.new.self in
    let inv = c.loop.invariant in
    let step = c.in_ok-entry.ensures in
    let accounts = inv.part.0 in
    let after = option_map items_of_vec c.args.after in
    let to = option_map items_of_vec c.loop.last in
    let kept = option_map entry_of c.in_ok-entry.field-0 in
    λ plans. part_shows plans b old new after accounts None c.open_sessions_value.result
    (looks_then b old mid new _ inv.reads step.reads) step.reads.answers
    (body_is c.open_sessions_value.result None None (map view c.loop.found.items)
    (rows_looked accounts) c.open_sessions_value.ensures refl inv.part.2)
    (λ o.
    let was = step.reads.was_open o in
    let next =
    next_from (b.content old) (b.content mid) (option_copied c.start_of.result) to kept None
    (step.found o) (inv.reads.same was) c.start_of.ensures
    (ap (option_map entry_of) c.in_default.is)
    in
    part_ended (b.content old).balances (AreRowsOf (b.content old)) after accounts to
    (inv.part.1 was) (omega (arith, inv.counted.0, c.loop-test.true))
    (omega (arith, inv.counted.1, inv.low)) next)

pub loop-preserved : goal.loop-preserved
loop-preserved g c =
    let b = g.B.Book in
    let old = c.args.book.now in
    let mid = c.loop.book in
    let next = c.next_account.new.self in
    let new = c.add_account.new.book in
    let inv = c.loop.invariant in
    let step = c.in_ok-entry.ensures in
    let adds = c.in_ok-rows.ensures.adds in
    let accounts = inv.part.0 in
    let after = option_map items_of_vec c.args.after in
    let to = option_map items_of_vec c.loop.last in
    let kept = option_map entry_of c.in_ok-entry.field-0 in
    let l : Looked = record {
      account = c.in-Some.entry.0.items;
      balance = c.in-Some.entry.1;
      rows = adds.rows.rows;
    }
    in
    let same = adds.rows.counted in
    record {
      reads = looks_all b old mid next new _ inv.reads step.reads adds.reads;
      part = (
        accounts ++ l ∷ [],
        begun_step b old mid next new _ inv.reads step.reads adds.reads after to accounts l
            inv.part.1
            (λ o.
            next_from (b.content old) (b.content mid) (option_copied c.start_of.result) to kept
            (Some (l.account, l.balance)) (step.found o)
            (inv.reads.same (step.reads.was_open o)) c.start_of.ensures
            (ap (option_map entry_of) c.in-Some.is))
            adds.rows.has,
        adds.rows.added
            ∙ ap (λ xs. xs ++ filter_map open_in l.rows) inv.part.2
            ∙ sym (filter_map-append open_in (rows_looked accounts) l.rows)
            ∙ ap (filter_map open_in) (sym (rows_looked-more accounts l)),
      );
      counted = (
        omega (arith, length-append accounts (l ∷ []), inv.counted.0),
        omega (
          arith,
          ap length (rows_looked-more accounts l),
          length-append (rows_looked accounts) l.rows,
          inv.counted.1,
          same,
        ),
      );
      low = omega (arith, c.if-rows-ge-PART_ROWS.false);
      opened = λ _. adds.answers step.reads.answers;
    }

pub returns : goal.returns
returns g c =
    let b = g.B.Book in
    let old = c.args.book.now in
    let mid = c.loop.book in
    let end = c.loop-test.book in
    let inv = c.loop.invariant in
    let before = inv.part.0 in
    let after = option_map items_of_vec c.args.after in
    let at = (b.content old).balances in
    let are_rows = AreRowsOf (b.content old) in
    let told = (λ (plans : List Plan) (accounts : List Looked) (to : Option (List ℕ))
    (reads : OnlyLooks b old end) (opened : b.is_sound end → b.is_open end)
    (next : option_copied c.start_of-2.result ≡ to)
    (found : map view c.loop-test.found.items ≡ filter_map open_in (rows_looked accounts))
    (part : b.is_open end → IsPartOf at are_rows after accounts to).
    part_shows plans b old end after accounts to c.open_sessions_value-2.result reads opened
    (body_is c.open_sessions_value-2.result (option_copied c.start_of-2.result) to
    (map view c.loop-test.found.items) (rows_looked accounts) c.open_sessions_value-2.ensures next
    found) part)
    in
    elim c.loop-test.branch [
      | else-loop-test w ↦ λ plans.
          told plans before (option_map items_of_vec c.loop.last)
          (subst (λ e. OnlyLooks b old e) (sym w.book-is) inv.reads)
          (subst (λ e. b.is_sound e → b.is_open e) (sym w.book-is)
          (inv.opened (omega (arith, w.loop-test.false))))
          (c.start_of-2.ensures ∙ ap (option_map items_of_vec) w.last-is)
          (ap (λ (v : Vec Value Global). map view v.items) w.found-is ∙ inv.part.2)
          (λ o. part_full at are_rows after before (option_map items_of_vec c.loop.last)
          (inv.part.1 (subst b.is_open w.book-is o))
          (full_of_accounts before (omega (arith, inv.counted.0, w.loop-test.false)))
          (open_within before (omega (arith, inv.counted.0, c.loop.auto.counter-end))
          (omega (arith, inv.counted.1, inv.low))))
      | then-loop-test+in_ok-entry+in-Some+in_ok-rows+then-rows-ge-PART_ROWS w ↦
          let next = w.next_account.new.self in
          let new = w.add_account.new.book in
          let step = w.in_ok-entry.ensures in
          let adds = w.in_ok-rows.ensures.adds in
          let to = option_map items_of_vec c.loop.last in
          let l : Looked = record {
            account = w.in-Some.entry.0.items;
            balance = w.in-Some.entry.1;
            rows = adds.rows.rows;
          }
          in
          let kept = option_map entry_of w.in_ok-entry.field-0 in
          let walked =
          begun_step b old mid next new _ inv.reads step.reads adds.reads after to before l
          inv.part.1
          (λ o.
          next_from (b.content old) (b.content mid) (option_copied w.start_of.result) to kept
          (Some (l.account, l.balance)) (step.found o)
          (inv.reads.same (step.reads.was_open o)) w.start_of.ensures
          (ap (option_map entry_of) w.in-Some.is))
          adds.rows.has
          in
          let more = rows_looked-more before l in
          let many : 1000 ≤ length (rows_looked (before ++ l ∷ [])) =
          omega (
            arith,
            ap length more,
            length-append (rows_looked before) l.rows,
            inv.counted.1,
            adds.rows.counted,
            w.if-rows-ge-PART_ROWS.true,
          )
          in
          λ plans.
          told plans (before ++ l ∷ []) (Some l.account)
          (subst (λ e. OnlyLooks b old e) (sym w.book-is)
          (looks_all b old mid next new _ inv.reads step.reads adds.reads))
          (subst (λ e. b.is_sound e → b.is_open e) (sym w.book-is)
          (adds.answers step.reads.answers))
          (c.start_of-2.ensures ∙ ap (option_map items_of_vec) w.last-is)
          (ap (λ (v : Vec Value Global). map view v.items) w.found-is
          ∙ adds.rows.added
          ∙ ap (λ xs. xs ++ filter_map open_in l.rows) inv.part.2
          ∙ sym (filter_map-append open_in (rows_looked before) l.rows)
          ∙ ap (filter_map open_in) (sym more))
          (λ o. part_full at are_rows after (before ++ l ∷ []) (Some l.account)
          (walked (subst b.is_open w.book-is o)) (full_of_rows (before ++ l ∷ []) many)
          (open_more before l (omega (arith, inv.counted.0, w.loop-test.true))
          (omega (arith, inv.counted.1, inv.low))))
    ]
