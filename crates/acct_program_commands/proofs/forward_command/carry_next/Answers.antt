use Rattle.acct_book.proofs.Looking.{looks_once}
use Rattle.acct_book_forward.proofs.CarriedOn.{begun_counted}
use Rattle.acct_program_commands.proofs.Forwarded.{looked_then}
use Rattle.acct_program_commands.proofs.forward_command.carry_next.Goals as goal

pub returns-in_default-clause-counts : goal.returns-in_default-clause-counts
returns-in_default-clause-counts g c =
    let b = g.B.Book in
    let mid = c.next_account.new.book in
    looked_then b c.args.selection.now c.args.plans.now c.args.book.now mid mid 0
    (looks_once b c.args.book.now mid c.next_account.result c.next_account.ensures.reads)
    (λ still. still) (begun_counted b c.args.selection.now c.args.plans.now mid)

pub returns-clause-counts : goal.returns-clause-counts
returns-clause-counts g c =
    let b = g.B.Book in
    let mid = c.next_account.new.book in
    looked_then b c.args.selection.now c.args.plans.now c.args.book.now mid c.carry_account.new.book
    c.in_ok-tally.tally.carried
    (looks_once b c.args.book.now mid c.next_account.result c.next_account.ensures.reads)
    c.carry_account.ensures.carries.was_open c.in_ok-tally.ensures.counts
