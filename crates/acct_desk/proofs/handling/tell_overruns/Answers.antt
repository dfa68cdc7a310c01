use Rattle.std.specs.Prelude.{◌≡◌, [], false}
use Rattle.serde_json.specs.View.{view}
use Rattle.serde_json.specs.Written.{has_float}
use Rattle.serde_json.specs.declared.value.Value.{Value}
use Rattle.acct_desk.specs.Asks.{overruns}
use Rattle.acct_desk.proofs.HandleLemmas.{for_ok, page_handles}
use Rattle.acct_desk.proofs.handling.tell_overruns.Goals as goal

pub page_octets-requires : goal.page_octets-requires
page_octets-requires g c = for_ok (λ (v : Value). has_float (view v) ≡ false) c.overruns_page.result
    (c.overruns_page.ensures []).plain

pub returns : goal.returns
returns g c =
    let b = g.B.Book in
    λ plans. page_handles b plans overruns
    c.args.book.now c.overruns_page.new.book g.met.B.Book.settled
    c.overruns_page.result c.page_octets.result tt (λ _ none. absurd none)
    (c.overruns_page.ensures plans) c.page_octets.ensures
