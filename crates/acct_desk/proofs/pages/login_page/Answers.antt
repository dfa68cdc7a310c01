use Rattle.std.proofs.Common.{◌≡◌, refl, ap, ◌∙◌, true, false, rules}
use Rattle.std.specs.Prelude.{codes, IfOk}
use Rattle.acct_book.proofs.Looking.{looks_once, looks_then}
use Rattle.acct_book.specs.Content.{kept_balance}
use Rattle.acct_desk.specs.Asks.{look, login}
use Rattle.acct_desk.specs.inner.LoginView.{login_view}
use Rattle.acct_desk.specs.inner.Pages.{told_of}
use Rattle.acct_desk_pages.specs.Responses.{error_body}
use Rattle.acct_desk_pages.specs.Logins.{is_short, login_body}
use Rattle.acct_desk.proofs.PageLemmas.{shows_by, login_plain, short_told, login_told}
use Rattle.acct_desk.proofs.pages.login_page.Goals as goal

pub returns-then-is_short : goal.returns-then-is_short
returns-then-is_short g c =
    let b = g.B.Book in
    let old = c.args.book.now in
    let asked = login_view c.args.asked.now in
    let first = c.in_ok-balance.ensures in
    let short : is_short asked.plan c.in_ok-balance.balance ≡ true = search rules in
    λ plans. shows_by plans (look (login asked)) b old c.balance.new.self told_of
    c.no_balance.result (402, error_body (codes "no balance"))
    (looks_once b old c.balance.new.self _ first.reads) first.reads.answers c.no_balance.ensures
    refl
    (λ o history st. short_told plans (b.content old) history asked c.in_ok-balance.balance st
    (first.found o ∙ ap (kept_balance (b.content old)) c.as_slice.ensures) short)

pub returns : goal.returns
returns g c =
    let b = g.B.Book in
    let old = c.args.book.now in
    let mid = c.balance.new.self in
    let new = c.sessions_of.new.self in
    let asked = login_view c.args.asked.now in
    let balance = c.in_ok-balance.balance in
    let rows = c.in_ok-rows.rows.items in
    let first = c.in_ok-balance.ensures in
    let then = c.in_ok-rows.ensures in
    let enough : is_short asked.plan balance ≡ false = search rules in
    let shown : IfOk c.told_login.result (λ t. told_of t
    ≡ (200, login_body asked.plan asked.stamp asked.heard balance rows)) = search rules in
    λ plans. shows_by plans (look (login asked)) b old new told_of c.told_login.result
    (200, login_body asked.plan asked.stamp asked.heard balance rows)
    (looks_then b old mid new _ (looks_once b old mid _ first.reads) then.reads)
    then.reads.answers shown
    (login_plain asked.plan asked.stamp asked.heard balance rows)
    (λ o history st.
    let was = then.reads.was_open o in
    login_told plans (b.content old) (b.content mid) history asked balance rows st
    (first.found was ∙ ap (kept_balance (b.content old)) c.as_slice.ensures) enough
    (first.reads.same was) c.as_slice-2.result.now c.as_slice-2.ensures (then.found o))
