use Rattle.std.proofs.Common.{Some, ap, w64, subst, ◌∙◌}
use Rattle.std.proofs.lemmas.Int.{to_z-of_z}
use Rattle.acct_book.specs.Row.{RowFacts}
use Rattle.acct_book.specs.Content.{key_of}
use Rattle.acct_sql.specs.inner.Known.{Learns, known_balance, known_session}
use Rattle.acct_sql.proofs.CallLemmas.{failed, written_in_answer, write_leaves}
use Rattle.acct_sql.proofs.KnownLemmas.{knows_no_more, knows_set, planned}
use Rattle.acct_sql.proofs.RememberLemmas.{remembers_set}
use Rattle.acct_sql.proofs.sql_book.SqlBookBook.put_session.Goals as goal

pub write_session-requires : goal.write_session-requires
write_session-requires g c = record {
  resting = c.self.invariant.0;
  planned = λ is o. planned g.S.Store c.self.inside.conn c.self.inside.known c.args.row.now
      c.self.invariant.2 (c.has_plan-is_planned.ensures is) o;
}

pub invariant_of-self : goal.invariant_of-self
invariant_of-self g c =
    let w = rw (to_z-of_z w64 c.args.balance c.ranges.balance) at c.write_session.ensures in (
      w.resting,
      remembers_set c.self.invariant.1 c.args.row.now c.args.balance w c.forget_ended.ensures.sound,
      knows_no_more c.in_err-kept_or_forget.ensures,
    )

pub returns-in_err-kept_or_forget : goal.returns-in_err-kept_or_forget
returns-in_err-kept_or_forget g c =
    let w = rw (to_z-of_z w64 c.args.balance c.ranges.balance) at c.write_session.ensures in
    record {
      writes = written_in_answer c.self.view_is w
          (failed {told = c.from_residual.result} c.in_err-kept_or_forget.ensures
          c.from_residual.ensures.0);
      plans = write_leaves c.self.view_is w;
    }

pub invariant_of-self-2 : goal.invariant_of-self-2
invariant_of-self-2 g c =
    let w = rw (to_z-of_z w64 c.args.balance c.ranges.balance) at c.write_session.ensures in (
      w.resting,
      remembers_set c.self.invariant.1 c.args.row.now c.args.balance w c.forget_ended.ensures.sound,
      knows_set c.in_ok-kept_or_forget.ensures c.self.invariant.2 c.keep_session.new.self
          c.args.row.now c.args.balance w
          (subst (λ (r : RowFacts). Learns (key_of r) (Some c.args.row.now)
          (known_session c.kept_or_forget.new.self) (known_session c.keep_session.new.self))
          c.row.view_is (rw (c.as_str-client.ensures, c.as_slice-session.ensures)
          at c.keep_session.ensures.sessions))
          c.keep_session.ensures.balances
          (subst (λ name. Learns name c.args.balance (known_balance c.keep_session.new.self)
          (known_balance c.keep_balance.new.self))
          (c.as_slice.ensures ∙ ap (λ (r : RowFacts). r.account) c.row.view_is)
          (rw (to_z-of_z w64 c.args.balance c.ranges.balance) at c.keep_balance.ensures.balances))
          c.keep_balance.ensures.sessions,
    )

pub returns : goal.returns
returns g c =
    let w = rw (to_z-of_z w64 c.args.balance c.ranges.balance) at c.write_session.ensures in
    record {
      writes = written_in_answer c.self.view_is w c.in_ok-kept_or_forget.ensures;
      plans = write_leaves c.self.view_is w;
    }
