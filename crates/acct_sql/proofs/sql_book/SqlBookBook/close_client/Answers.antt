use Rattle.std.proofs.Common.{sym, ◌∙◌}
use Rattle.sqlite.specs.Held.{state}
use Rattle.acct_sql.proofs.CallLemmas.{failed, written_in_answer, write_leaves}
use Rattle.acct_sql.proofs.KnownLemmas.{knows_no_more, knows_closed, was_ok}
use Rattle.acct_sql.proofs.RememberLemmas.{has_ended, remembers_close, remembers_more, closed_now}
use Rattle.acct_sql.proofs.sql_book.SqlBookBook.close_client.Goals as goal

pub close_client-requires : goal.close_client-requires
close_client-requires g c = record {
  resting = c.self.invariant.0;
  ended = λ is o. has_ended (state g.S.Store c.self.inside.conn) c.self.inside.memory
      c.args.client.now c.self.invariant.1 (sym c.has_ended-has_ended.ensures ∙ is) o;
}

pub invariant_of-self : goal.invariant_of-self
invariant_of-self g c = (
  c.close_client.ensures.resting,
  remembers_close c.self.invariant.1 c.args.client.now c.close_client.ensures,
  knows_no_more c.in_err-kept_or_forget.ensures,
)

pub returns-in_err-kept_or_forget : goal.returns-in_err-kept_or_forget
returns-in_err-kept_or_forget g c = record {
  writes = written_in_answer c.self.view_is c.close_client.ensures
      (failed {told = c.from_residual.result} c.in_err-kept_or_forget.ensures
      c.from_residual.ensures.0);
  plans = write_leaves c.self.view_is c.close_client.ensures;
}

pub invariant_of-self-2 : goal.invariant_of-self-2
invariant_of-self-2 g c = (
  c.close_client.ensures.resting,
  remembers_more c.args.client.now
      (remembers_close c.self.invariant.1 c.args.client.now c.close_client.ensures)
      c.keep_ended.ensures
      (closed_now c.args.client.now (was_ok c.in_ok-kept_or_forget.ensures) c.close_client.ensures),
  knows_closed c.in_ok-kept_or_forget.ensures c.self.invariant.2 c.args.client.now
      c.has_ended-has_ended.result c.close_client.ensures c.forget_closed.ensures.balances
      (λ is o. has_ended (state g.S.Store c.self.inside.conn) c.self.inside.memory
      c.args.client.now c.self.invariant.1 (sym c.has_ended-has_ended.ensures ∙ is) o)
      c.forget_closed.ensures.sessions,
)

pub returns : goal.returns
returns g c = record {
  writes = written_in_answer c.self.view_is c.close_client.ensures c.in_ok-kept_or_forget.ensures;
  plans = write_leaves c.self.view_is c.close_client.ensures;
}
