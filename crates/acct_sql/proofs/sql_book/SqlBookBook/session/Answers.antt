use Rattle.std.proofs.Common.{◌≡◌, refl}
use Rattle.acct_sql_tables.specs.Book.{content_at}
use Rattle.acct_sql.proofs.CallLemmas.{failed, found_in_answer, read_in_answer, read_leaves}
use Rattle.acct_sql.proofs.CallLemmas.{still_holds}
use Rattle.acct_sql.proofs.KnownLemmas.{knows_row}
use Rattle.acct_sql.proofs.RememberLemmas.{remembers_read}
use Rattle.acct_sql.proofs.sql_book.SqlBookBook.session.Goals as goal

pub read_session-requires : goal.read_session-requires
read_session-requires g c = c.self.invariant.0

pub invariant_of-self : goal.invariant_of-self
invariant_of-self g c = still_holds c.read_session.ensures.read c.in_err-row.ensures
    c.self.invariant

pub returns-in_err-row : goal.returns-in_err-row
returns-in_err-row g c = record {
  found = found_in_answer (λ conn row. row ≡ (content_at g.S.Store conn).rows c.args.key.now)
      c.self.view_is (failed {told = c.from_residual.result} c.in_err-row.ensures
      c.from_residual.ensures.0) c.read_session.ensures.found;
  reads = read_in_answer c.self.view_is c.read_session.ensures.read
      (failed {told = c.from_residual.result} c.in_err-row.ensures c.from_residual.ensures.0);
  plans = read_leaves c.self.view_is c.read_session.ensures.read;
}

pub invariant_of-self-2 : goal.invariant_of-self-2
invariant_of-self-2 g c = (
  c.read_session.ensures.read.resting,
  remembers_read c.read_session.ensures.read c.self.invariant.1,
  knows_row c.in_ok-row.ensures c.self.invariant.2 c.read_session.ensures.read c.args.key.now
      c.in_ok-row.row
      (rw (c.as_str-client.ensures, c.as_slice-session.ensures, c.as_ref.ensures.value)
      at c.keep_session.ensures.sessions) c.keep_session.ensures.balances
      (λ o. found_in_answer {old = c.self.inside.conn}
      (λ conn row. row ≡ (content_at g.S.Store conn).rows c.args.key.now)
      refl c.in_ok-row.ensures c.read_session.ensures.found o),
)

pub returns : goal.returns
returns g c = record {
  found = found_in_answer (λ conn row. row ≡ (content_at g.S.Store conn).rows c.args.key.now)
      c.self.view_is c.in_ok-row.ensures c.read_session.ensures.found;
  reads = read_in_answer c.self.view_is c.read_session.ensures.read c.in_ok-row.ensures;
  plans = read_leaves c.self.view_is c.read_session.ensures.read;
}
