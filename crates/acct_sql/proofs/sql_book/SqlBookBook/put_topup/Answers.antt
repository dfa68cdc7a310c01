use Rattle.std.proofs.Common.{ap, subst, ◌∙◌, w64}
use Rattle.std.proofs.lemmas.Int.{to_z-of_z}
use Rattle.acct_model.specs.Vouchers.{TopUpFacts}
use Rattle.acct_sql.specs.inner.Known.{Learns, known_balance}
use Rattle.acct_sql.proofs.CallLemmas.{failed, written_in_answer, write_leaves}
use Rattle.acct_sql.proofs.KnownLemmas.{knows_no_more, knows_credit}
use Rattle.acct_sql.proofs.RememberLemmas.{remembers_credit}
use Rattle.acct_sql.proofs.sql_book.SqlBookBook.put_topup.Goals as goal

pub write_topup-requires : goal.write_topup-requires
write_topup-requires g c = c.self.invariant.0

pub invariant_of-self : goal.invariant_of-self
invariant_of-self g c =
    let w = rw (to_z-of_z w64 c.args.balance c.ranges.balance) at c.write_topup.ensures in (
      w.resting,
      remembers_credit c.self.invariant.1 c.args.topup.now c.args.balance w,
      knows_no_more c.in_err-kept_or_forget.ensures,
    )

pub returns-in_err-kept_or_forget : goal.returns-in_err-kept_or_forget
returns-in_err-kept_or_forget g c =
    let w = rw (to_z-of_z w64 c.args.balance c.ranges.balance) at c.write_topup.ensures in record {
      writes = written_in_answer c.self.view_is w
          (failed {told = c.from_residual.result} c.in_err-kept_or_forget.ensures
          c.from_residual.ensures.0);
      plans = write_leaves c.self.view_is w;
    }

pub invariant_of-self-2 : goal.invariant_of-self-2
invariant_of-self-2 g c =
    let w = rw (to_z-of_z w64 c.args.balance c.ranges.balance) at c.write_topup.ensures in (
      w.resting,
      remembers_credit c.self.invariant.1 c.args.topup.now c.args.balance w,
      knows_credit c.in_ok-kept_or_forget.ensures c.self.invariant.2 c.args.topup.now
          c.args.balance w
          (subst (λ name. Learns name c.args.balance (known_balance c.kept_or_forget.new.self)
          (known_balance c.keep_balance.new.self))
          (c.as_slice.ensures ∙ ap (λ (t : TopUpFacts). t.account) c.topup.view_is)
          (rw (to_z-of_z w64 c.args.balance c.ranges.balance) at c.keep_balance.ensures.balances))
          c.keep_balance.ensures.sessions,
    )

pub returns : goal.returns
returns g c =
    let w = rw (to_z-of_z w64 c.args.balance c.ranges.balance) at c.write_topup.ensures in record {
      writes = written_in_answer c.self.view_is w c.in_ok-kept_or_forget.ensures;
      plans = write_leaves c.self.view_is w;
    }
