use Rattle.std.proofs.Common.{ℕ}
use Rattle.std.specs.Prelude.{option_map, Vec}
use Rattle.std.specs.Global.{Global}
use Rattle.acct_model.specs.declared.shown.NoMemory.{NoMemory}
use Rattle.acct_desk.specs.Asks.{refused, me, overruns, look, login, overdrawn, credit}
use Rattle.acct_desk.specs.inner.LoginView.{login_view}
use Rattle.acct_desk.proofs.HandleLemmas.{mute_handles, refused_handles}
use Rattle.acct_desk.proofs.handling.handle.Goals as goal

pub returns-in-Err : goal.returns-in-Err
returns-in-Err g c =
    let b = g.B.Book in
    let some = c.in-Err.ensures.some in (
      some.0,
      some.1,
      mute_handles {E = NoMemory} b c.args.plans.now some.0 c.args.book.now _,
    )

pub returns-in-Refused : goal.returns-in-Refused
returns-in-Refused g c =
    let b = g.B.Book in (
      refused c.in-Refused.refusal,
      rw c.in-Refused.is at c.in-Ok.ensures.asks,
      refused_handles b c.args.plans.now
          c.in-Refused.refusal c.args.book.now c.refuse.result c.refuse.ensures,
    )

pub returns-in-Me : goal.returns-in-Me
returns-in-Me g c = (
  me c.in-Me.page c.in-Me.account.now,
  rw c.in-Me.is at c.in-Ok.ensures.asks,
  c.tell_page.ensures,
)

pub returns-in-Overruns : goal.returns-in-Overruns
returns-in-Overruns g c = (
  overruns,
  rw c.in-Overruns.is at c.in-Ok.ensures.asks,
  c.tell_overruns.ensures c.args.plans.now,
)

pub returns-in-Login : goal.returns-in-Login
returns-in-Login g c = (
  look (login (login_view c.in-Login.login)),
  rw c.in-Login.is at c.in-Ok.ensures.asks,
  c.tell_login.ensures c.args.plans.now,
)

pub returns-in-Overdrawn : goal.returns-in-Overdrawn
returns-in-Overdrawn g c = (
  look (overdrawn (option_map (λ (a : Vec ℕ Global). a.items) c.in-Overdrawn.after)),
  rw c.in-Overdrawn.is at c.in-Ok.ensures.asks,
  c.tell_open_sessions.ensures c.args.plans.now,
)

pub returns-in-Credit : goal.returns-in-Credit
returns-in-Credit g c = (
  credit c.in-Credit.topup,
  rw c.in-Credit.is at c.in-Ok.ensures.asks,
  c.take_topup.ensures,
)
