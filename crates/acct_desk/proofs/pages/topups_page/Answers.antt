use Rattle.std.proofs.Common.{refl}
use Rattle.acct_book.proofs.Looking.{looks_once}
use Rattle.acct_desk.specs.declared.asking.Page.TheVariants as page
use Rattle.acct_desk.specs.Asks.{me}
use Rattle.acct_desk_pages.specs.Bodies.{topups_body}
use Rattle.acct_desk.proofs.PageLemmas.{shows_body, topups_plain, topups_told}
use Rattle.acct_desk.proofs.pages.topups_page.Goals as goal

pub returns : goal.returns
returns g c =
    let b = g.B.Book in
    let account = c.args.account.now in
    let topups = c.in_ok-topups.topups.items in
    λ plans. shows_body plans (me page.TopUps account) b c.args.book.now c.topups_of.new.self
    c.topups_value.result (topups_body account topups)
    (looks_once b
    c.args.book.now c.topups_of.new.self _ c.in_ok-topups.ensures.reads)
    c.in_ok-topups.ensures.reads.answers (rw c.deref.ensures.value at c.topups_value.ensures)
    (topups_plain account topups)
    (λ o history st. (
      refl,
      (
        topups,
        topups_told plans (b.content c.args.book.now) history account topups
            st (c.in_ok-topups.ensures.found o),
        refl,
      ),
    ))
