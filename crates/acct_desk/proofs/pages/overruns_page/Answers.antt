use Rattle.std.proofs.Common.{ℕ, ℤ, List, [], ◌∷◌, ◌++◌, map, refl, sym, ap, ◌∙◌}
use Rattle.std.specs.Prelude.{Some, None, Vec, option_map, codes}
use Rattle.std.specs.Global.{Global}
use Rattle.std.specs.List.{filter_map}
use Rattle.std.specs.Option.{option_copied}
use Rattle.std.proofs.lemmas.List.Elements.{filter_map-append}
use Rattle.serde_json.specs.Data.{Data, array, object, member, no_members}
use Rattle.serde_json.specs.View.{view, items_of}
use Rattle.acct_book.specs.Maps.{octets_cmp}
use Rattle.acct_book.specs.Walk.{IsNext}
use Rattle.acct_book.proofs.Looking.{looks_none, looks_then}
use Rattle.acct_book.proofs.Walking.{walked_more, walked_all, entries_walk}
use Rattle.acct_desk.specs.Asks.{overruns}
use Rattle.acct_desk_pages.specs.Bodies.{overrun_in, overruns_body}
use Rattle.acct_desk.proofs.PageLemmas.{shows_body, overruns_plain, accounts_told, next_from}
use Rattle.acct_desk.proofs.pages.overruns_page.Goals as goal

abbrev entry_of : Vec ℕ Global × ℤ → List ℕ × ℤ
entry_of e = (e.0.items, e.1)

abbrev items_of_vec : Vec ℕ Global → List ℕ
items_of_vec v = v.items

abbrev over_body : List Data → Data
over_body items = object (member (codes "overruns") (array (items_of items)) no_members)

pub returns-in-None : goal.returns-in-None
returns-in-None g c =
    let b = g.B.Book in
    let old = c.args.book.now in
    let mid = c.loop.book in
    let new = c.next_account.new.self in
    let inv = c.loop.invariant in
    let accounts = inv.walked.0 in
    let step = c.in_ok-next_account.ensures in
    let after = option_copied c.start_of.result in
    let to = option_map items_of_vec c.loop.last in
    let kept = option_map entry_of c.in_ok-next_account.field-0 in
    let reads =
    looks_then b old mid new _ inv.reads step.reads
    in
    λ plans.
    shows_body plans overruns b old new _
    (overruns_body accounts) reads step.reads.answers
    (c.in_ok-overruns_value-in-None.ensures ∙ ap over_body inv.walked.2) (overruns_plain accounts)
    (λ o history st.
    let was = step.reads.was_open o in
    let last =
    next_from (b.content old) (b.content mid) after to kept None (step.found o)
    (inv.reads.same was) c.start_of.ensures (ap (option_map entry_of) c.in-None.is)
    in
    let balances = (b.content old).balances in
    let met =
    walked_all (IsNext octets_cmp balances) (λ e. e.0) None accounts to (inv.walked.1 was) last
    in
    let walk = entries_walk octets_cmp balances None accounts met in
    (refl, (accounts, accounts_told plans (b.content old) history accounts st walk, refl)))

pub loop-preserved : goal.loop-preserved
loop-preserved g c =
    let b = g.B.Book in
    let old = c.args.book.now in
    let mid = c.loop.book in
    let new = c.next_account.new.self in
    let inv = c.loop.invariant in
    let accounts = inv.walked.0 in
    let next = entry_of c.in-Some.entry in
    let step = c.in_ok-next_account.ensures in
    let after = option_copied c.start_of.result in
    let to = option_map items_of_vec c.loop.last in
    let kept = option_map entry_of c.in_ok-next_account.field-0 in
    record {
      reads =
          looks_then b old mid new _ inv.reads
          step.reads;
      walked = (
        accounts ++ next ∷ [],
        (λ o.
            let was = step.reads.was_open o in
            let more =
            next_from (b.content old) (b.content mid) after to kept (Some next) (step.found o)
            (inv.reads.same was) c.start_of.ensures (ap (option_map entry_of) c.in-Some.is)
            in
            walked_more (IsNext octets_cmp (b.content old).balances) (λ e. e.0) None accounts to
            next (inv.walked.1 was) more),
        c.in_ok-add_overrun-in-Some.ensures
            ∙ ap (λ xs. xs ++ filter_map overrun_in (next ∷ [])) inv.walked.2
            ∙ sym (filter_map-append overrun_in accounts (next ∷ [])),
      );
    }

pub loop-init : goal.loop-init
loop-init g c =
    let b = g.B.Book in
    record {
      reads = looks_none b c.args.book.now;
      walked = ([], (λ _. refl), ap (map view) c.new-over.ensures.items);
    }
