use Rattle.acct_sql.proofs.CallLemmas.{failed, written_in_answer, write_leaves}
use Rattle.acct_sql.proofs.KnownLemmas.{knows_no_more, knows_no_row}
use Rattle.acct_sql.proofs.RememberLemmas.{remembers_forward}
use Rattle.acct_sql.proofs.sql_book.SqlBookBook.put_forward.Goals as goal

pub write_forward-requires : goal.write_forward-requires
write_forward-requires g c = c.self.invariant.0

pub invariant_of-self : goal.invariant_of-self
invariant_of-self g c = (
  c.write_forward.ensures.resting,
  remembers_forward c.self.invariant.1 c.args.gone.now c.args.row.now c.write_forward.ensures
      c.forget_ended.ensures.sound,
  knows_no_more c.in_err-kept_or_forget.ensures,
)

pub returns-in_err-kept_or_forget : goal.returns-in_err-kept_or_forget
returns-in_err-kept_or_forget g c = record {
  writes = written_in_answer c.self.view_is c.write_forward.ensures
      (failed {told = c.from_residual.result} c.in_err-kept_or_forget.ensures
      c.from_residual.ensures.0);
  plans = write_leaves c.self.view_is c.write_forward.ensures;
}

pub invariant_of-self-2 : goal.invariant_of-self-2
invariant_of-self-2 g c = (
  c.write_forward.ensures.resting,
  remembers_forward c.self.invariant.1 c.args.gone.now c.args.row.now c.write_forward.ensures
      c.forget_ended.ensures.sound,
  knows_no_row c.in_ok-kept_or_forget.ensures c.self.invariant.2 c.args.gone.now c.args.row.now
      c.write_forward.ensures c.forget_sessions.ensures.balances
      c.forget_sessions.ensures.sessions,
)

pub returns : goal.returns
returns g c = record {
  writes = written_in_answer c.self.view_is c.write_forward.ensures
      c.in_ok-kept_or_forget.ensures;
  plans = write_leaves c.self.view_is c.write_forward.ensures;
}
