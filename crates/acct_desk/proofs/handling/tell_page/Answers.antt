use Rattle.std.specs.Prelude.{◌≡◌, [], false}
use Rattle.serde_json.specs.View.{view}
use Rattle.serde_json.specs.Written.{has_float}
use Rattle.serde_json.specs.declared.value.Value.{Value}
use Rattle.acct_desk.specs.declared.asking.Page.TheVariants as page
use Rattle.acct_desk.specs.Asks.{me}
use Rattle.acct_desk.proofs.HandleLemmas.{for_ok, page_handles}
use Rattle.acct_desk.proofs.handling.tell_page.Goals as goal

pub page_octets-requires : goal.page_octets-requires
page_octets-requires g c = for_ok (λ (v : Value). has_float (view v) ≡ false) c.balance_page.result
    (c.balance_page.ensures.shows []).plain

pub page_octets-requires-in-TopUps : goal.page_octets-requires-in-TopUps
page_octets-requires-in-TopUps g c =
    for_ok (λ (v : Value). has_float (view v) ≡ false) c.topups_page.result
    (c.topups_page.ensures []).plain

pub returns-in-Balance : goal.returns-in-Balance
returns-in-Balance g c =
    let b = g.B.Book in
    let plans = c.args.plans.now in
    rw c.in-Balance.is (page_handles b plans (me page.Balance c.args.account.now)
    c.args.book.now c.balance_page.new.book g.met.B.Book.settled
    c.balance_page.result c.page_octets.result tt (λ steady _. c.balance_page.ensures.steady steady)
    (c.balance_page.ensures.shows plans) c.page_octets.ensures)

pub returns-in-Sessions : goal.returns-in-Sessions
returns-in-Sessions g c =
    let b = g.B.Book in
    rw c.in-Sessions.is (page_handles b c.args.plans.now (me page.Sessions c.args.account.now)
    c.args.book.now c.sessions_page.new.book
    g.met.B.Book.settled
    c.sessions_page.result c.page_octets-in-Sessions.result tt (λ _ none. absurd none)
    c.sessions_page.ensures c.page_octets-in-Sessions.ensures)

pub returns-in-TopUps : goal.returns-in-TopUps
returns-in-TopUps g c =
    let b = g.B.Book in
    let plans = c.args.plans.now in
    rw c.in-TopUps.is (page_handles b plans (me page.TopUps c.args.account.now)
    c.args.book.now c.topups_page.new.book g.met.B.Book.settled
    c.topups_page.result c.page_octets-in-TopUps.result tt (λ _ none. absurd none)
    (c.topups_page.ensures plans) c.page_octets-in-TopUps.ensures)
