use Rattle.std.proofs.Common.{refl}
use Rattle.acct_book.proofs.Looking.{looks_once}
use Rattle.acct_desk.specs.declared.asking.Page.TheVariants as page
use Rattle.acct_desk.specs.Asks.{me}
use Rattle.acct_desk_pages.specs.Bodies.{sessions_body}
use Rattle.acct_desk.proofs.PageLemmas.{shows_body, sessions_plain, rows_told}
use Rattle.acct_desk.proofs.pages.sessions_page.Goals as goal

pub returns : goal.returns
returns g c =
    let b = g.B.Book in
    let plans = c.args.plans.now in
    let account = c.args.account.now in
    let rows = c.in_ok-rows.rows.items in
    shows_body plans (me page.Sessions account) b
    c.args.book.now c.sessions_of.new.self
    c.sessions_value.result (sessions_body plans account rows)
    (looks_once b
    c.args.book.now c.sessions_of.new.self _ c.in_ok-rows.ensures.reads)
    c.in_ok-rows.ensures.reads.answers (rw c.deref.ensures.value at c.sessions_value.ensures)
    (sessions_plain plans account rows)
    (λ o history st. (
      refl,
      (
        rows,
        rows_told plans (b.content c.args.book.now) history account rows st
            (c.in_ok-rows.ensures.found o),
        refl,
      ),
    ))
