use Rattle.std.proofs.Common.{Some, None, Err, refl, ap, sym}
use Rattle.acct_desk.specs.Asks.{ask_of_topup}
use Rattle.acct_desk.proofs.AskLemmas.{json_of-IsJson}
use Rattle.acct_desk.proofs.asking.ask_of_post.Goals as goal

pub returns-in-Ok : goal.returns-in-Ok
returns-in-Ok c =
    let ok = c.in-Ok.ensures.ok in
    let read = json_of-IsJson c.args.body.now (Some ok.0) ok.1 in
    rw (← read) (ap ask_of_topup (sym ok.2))

pub returns-in-Err-NotJson : goal.returns-in-Err-NotJson
returns-in-Err-NotJson c =
    let read = json_of-IsJson c.args.body.now None
    (c.in-Err-NotJson.ensures.json (ap Err c.in-Err-NotJson.field-0-is)) in
    rw (← read) refl

pub returns-in-Err-NoTopUp : goal.returns-in-Err-NoTopUp
returns-in-Err-NoTopUp c =
    let bad = c.in-Err-NoTopUp.ensures.bad (ap Err c.in-Err-NoTopUp.field-0-is) in
    let read = json_of-IsJson c.args.body.now (Some bad.0) bad.1 in
    rw (← read) (ap ask_of_topup (sym bad.2))
