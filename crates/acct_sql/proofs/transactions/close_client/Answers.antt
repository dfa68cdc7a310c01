use Rattle.acct_book.specs.Content.{with_closed}
use Rattle.acct_sql_tables.specs.Book.{content_at}
use Rattle.acct_sql.proofs.RememberLemmas.{closes_none, read_writes}
use Rattle.acct_sql.proofs.transactions.close_client.Goals as goal

pub returns-then-has_ended : goal.returns-then-has_ended
returns-then-has_ended g c = read_writes g.S.Store c.args.conn.now c.check_open.new.conn
    (λ content. with_closed content c.args.client.now) c.check_open.result c.check_open.ensures
    (λ o. closes_none (content_at g.S.Store c.args.conn.now) c.args.client.now
    (c.requires.ended c.if-has_ended.true o))
