use Rattle.std.proofs.Common.{◌≡◌, Some, IfSome, subst, sym}
use Rattle.acct_book.specs.declared.key.Key.{Key}
use Rattle.acct_sql.specs.inner.Known.{session_name, session_among}
use Rattle.acct_sql.proofs.CacheLemmas.{peeked}
use Rattle.acct_sql.proofs.known.Known.found.Goals as goal

pub returns : goal.returns
returns c =
    let key : Key = record { client = c.args.client.now; session = c.args.session.now } in
    subst (λ sessions. IfSome c.peek.result (λ row. session_among sessions key ≡ Some row.now))
    (sym c.in-Some.is) (subst (λ k. IfSome c.peek.result
    (λ row. session_among (Some c.in-Some.sessions) k ≡ Some row.now)) c.in-Ok.ensures
    (peeked c.peek.result (session_among (Some c.in-Some.sessions) (session_name c.in-Ok.name))
    c.peek.ensures))
