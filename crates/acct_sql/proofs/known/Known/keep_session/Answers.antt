use Rattle.std.specs.Option.{option_copied}
use Rattle.acct_book.specs.Content.{same_key}
use Rattle.acct_book.proofs.Keys.{Decides-same_key}
use Rattle.acct_sql.specs.inner.Known.{session_name}
use Rattle.acct_sql.proofs.CacheLemmas.{kept_or_none}
use Rattle.acct_sql.proofs.known.Known.keep_session.Goals as goal

pub returns-clause-sessions : goal.returns-clause-sessions
returns-clause-sessions c = kept_or_none same_key Decides-same_key session_name
    (record { client = c.args.client.now; session = c.args.session.now })
    (option_copied c.args.row) c.args.self.now.sessions c.take.result c.ok.result
    c.with_session.result c.take.ensures.value c.ok.ensures.value c.with_session.ensures.learns
