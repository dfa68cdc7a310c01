use Rattle.std.specs.Prelude.{◌≡◌, [], false, option_map, Vec}
use Rattle.std.specs.Global.{Global}
use Rattle.std.proofs.Common.{ℕ}
use Rattle.serde_json.specs.View.{view}
use Rattle.serde_json.specs.Written.{has_float}
use Rattle.serde_json.specs.declared.value.Value.{Value}
use Rattle.acct_desk.specs.Asks.{look, overdrawn}
use Rattle.acct_desk.proofs.HandleLemmas.{for_ok, page_handles}
use Rattle.acct_desk.proofs.handling.tell_open_sessions.Goals as goal

pub page_octets-requires : goal.page_octets-requires
page_octets-requires g c = for_ok (λ (v : Value). has_float (view v) ≡ false)
    c.open_sessions_page.result (c.open_sessions_page.ensures []).plain

pub returns : goal.returns
returns g c =
    let b = g.B.Book in
    λ plans. page_handles b plans
    (look (overdrawn (option_map (λ (a : Vec ℕ Global). a.items) c.args.after)))
    c.args.book.now c.open_sessions_page.new.book g.met.B.Book.settled
    c.open_sessions_page.result c.page_octets.result tt (λ _ none. absurd none)
    (c.open_sessions_page.ensures plans) c.page_octets.ensures
