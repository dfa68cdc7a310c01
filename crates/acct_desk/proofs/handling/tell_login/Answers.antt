use Rattle.std.specs.Prelude.{◌≡◌, [], false}
use Rattle.serde_json.specs.View.{view}
use Rattle.serde_json.specs.Written.{has_float}
use Rattle.acct_desk.specs.declared.pages.Told.{Told}
use Rattle.acct_desk.specs.Asks.{look, login}
use Rattle.acct_desk.specs.inner.LoginView.{login_view}
use Rattle.acct_desk.specs.inner.Pages.{told_of}
use Rattle.acct_desk.proofs.HandleLemmas.{for_ok, read_handles}
use Rattle.acct_desk.proofs.handling.tell_login.Goals as goal

pub told_octets-requires : goal.told_octets-requires
told_octets-requires g c = for_ok (λ (t : Told). has_float (view t.body) ≡ false)
    c.login_page.result (c.login_page.ensures []).plain

pub returns : goal.returns
returns g c =
    let b = g.B.Book in
    λ plans. read_handles told_of b plans (look (login (login_view c.args.asked.now)))
    c.args.book.now c.login_page.new.book g.met.B.Book.settled
    c.login_page.result c.told_octets.result tt (λ _ none. absurd none)
    (c.login_page.ensures plans) c.told_octets.ensures
