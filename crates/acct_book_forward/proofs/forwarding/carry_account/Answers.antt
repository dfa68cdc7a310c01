use Rattle.std.proofs.Common.{◌≡◌, ◌+◌, arith, sym, subst, List}
use Rattle.std.specs.Prelude.{IfOk}
use Rattle.acct_book.specs.Content.{Content}
use Rattle.acct_book.specs.Row.{RowFacts}
use Rattle.acct_book.specs.Walk.{AreRowsOf}
use Rattle.acct_book_forward.specs.Carrying.{IsTallyOf, CountsUpTo}
use Rattle.acct_book_forward.proofs.Carrying.{not_ok}
use Rattle.acct_book_forward.proofs.CarriedOn.{looked_on, told_on, joined_on, carried_between}
use Rattle.acct_book_forward.proofs.CarriedOn.{told_counted, counts_kept, counts_since, none_counted}
use Rattle.acct_book_forward.proofs.forwarding.carry_account.Goals as goal

pub returns-in_err-keys-clause-carries : goal.returns-in_err-keys-clause-carries
returns-in_err-keys-clause-carries g c =
    let b = g.B.Book in
    looked_on b c.args.selection.now c.args.plans.now c.args.book.now c.keys_of.new.self c.keys_of.result
    c.from_residual.result c.keys_of.ensures.reads
    (λ sound. not_ok c.from_residual.result _ (b.is_open c.keys_of.new.self)
    c.from_residual.ensures.1)

pub returns-in_err-carried-clause-carries : goal.returns-in_err-carried-clause-carries
returns-in_err-carried-clause-carries g c =
    let b = g.B.Book in
    let mid = c.keys_of.new.self in
    let new = c.carry_keys.new.book in
    told_on b c.args.selection.now c.args.plans.now c.args.book.now new c.carry_keys.result
    c.from_residual-in_err-carried.result
    (joined_on b c.args.selection.now c.args.plans.now c.args.book.now mid new c.keys_of.result
    c.carry_keys.result
    (looked_on b c.args.selection.now c.args.plans.now c.args.book.now mid c.keys_of.result
    c.keys_of.result c.keys_of.ensures.reads c.keys_of.ensures.reads.answers)
    c.carry_keys.ensures.carries)
    (λ sound. not_ok c.from_residual-in_err-carried.result _ (b.is_open new)
    c.from_residual-in_err-carried.ensures.1)

pub returns-clause-carries : goal.returns-clause-carries
returns-clause-carries g c =
    carried_between g.B.Book c.args.selection.now c.args.plans.now c.args.book.now c.keys_of.new.self
    c.carry_keys.new.book c.tally_of.new.book c.keys_of.result c.carry_keys.result
    c.tally_of.result c.tally_of.result c.keys_of.ensures.reads c.carry_keys.ensures.carries c.tally_of.ensures.reads
    c.tally_of.ensures.reads.answers

pub returns-clause-counts : goal.returns-clause-counts
returns-clause-counts g c =
    let b = g.B.Book in
    let selection = c.args.selection.now in
    let plans = c.args.plans.now in
    let old = c.args.book.now in
    let mid = c.keys_of.new.self in
    let after = c.carry_keys.new.book in
    let new = c.tally_of.new.book in
    let told = c.tally_of.ensures.reads in
    let count = c.in_ok-carried.carried in
    told_counted (CountsUpTo b selection plans old new) c.tally_of.result count
    c.tally_of.ensures.carried
    (counts_kept b selection plans old after new count told.was_open
    (counts_since b selection plans old mid after count c.carry_keys.ensures.carries.was_open
    (none_counted b selection plans old mid c.keys_of.result c.keys_of.ensures.reads)
    c.in_ok-carried.ensures.counts)
    (none_counted b selection plans after new c.tally_of.result told))

pub returns-clause-tally : goal.returns-clause-tally
returns-clause-tally g c = λ still.
    subst (λ (x : Content). IfOk c.tally_of.result (λ tally. (rows : List RowFacts)
    × AreRowsOf x c.args.account.now rows × IsTallyOf c.args.selection.now rows tally))
    (sym (c.tally_of.ensures.reads.same still)) (c.tally_of.ensures.tally still)
