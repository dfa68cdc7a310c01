use Rattle.std.proofs.Common.{subst, Some}
use Rattle.acct_book.specs.declared.key.Key.{Key}
use Rattle.acct_book.specs.Content.{same_key}
use Rattle.acct_book.proofs.Keys.{Decides-same_key}
use Rattle.acct_sql.specs.inner.Known.{session_name, session_among, Learns}
use Rattle.acct_sql.proofs.CacheLemmas.{learned_in}
use Rattle.acct_sql.proofs.known.with_session.Goals as goal

pub returns-clause-learns : goal.returns-clause-learns
returns-clause-learns c =
    let key : Key = record { client = c.args.client.now; session = c.args.session.now } in
    subst (λ row. Learns key row (session_among c.args.sessions)
    (session_among (Some c.put.new.self))) c.in_ok-copy.ensures
    (learned_in same_key Decides-same_key session_name c.args.sessions
    c.in_ok-after.after c.put.new.self c.in_ok-name.name key c.in_ok-copy.copy
    c.put.result c.in_ok-after.ensures.entries c.in_ok-name.ensures c.put.ensures.entries
    c.put.ensures.err c.put.ensures.succeeds)
