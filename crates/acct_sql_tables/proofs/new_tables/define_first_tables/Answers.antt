use Rattle.std.proofs.Common.{arith}
use Rattle.sqlite.specs.State.{HasCleanDisk}
use Rattle.sqlite.specs.Held.{state}
use Rattle.acct_sql_tables.proofs.ReadLemmas.{answered}
use Rattle.acct_sql_tables.proofs.StepLemmas.{quiet_then}
use Rattle.acct_sql_tables.proofs.CreateLemmas.{first_made}
use Rattle.acct_sql_tables.proofs.new_tables.define_first_tables.Goals as goal

pub returns : goal.returns
returns g c =
    let then = quiet_then g.S.Store in
    record {
      quiet = then _ _ _ (then _ _ _ (then _ _ _ (then _ _ _ (then _ _ _ (then _ _ _
          c.define.ensures.quiet c.define-2.ensures.quiet) c.define-3.ensures.quiet)
          c.define-4.ensures.quiet) c.define-5.ensures.quiet) c.define-6.ensures.quiet)
          c.define-7.ensures.quiet;
      done = λ clean.
          let six : HasCleanDisk (state g.S.Store c.define-6.new.tx.conn.now) = omega
          (arith, c.define-7.ensures.quiet.survives.clean, clean) in
          let five : HasCleanDisk (state g.S.Store c.define-5.new.tx.conn.now) = omega
          (arith, c.define-6.ensures.quiet.survives.clean, six) in
          let four : HasCleanDisk (state g.S.Store c.define-4.new.tx.conn.now) = omega
          (arith, c.define-5.ensures.quiet.survives.clean, five) in
          let three : HasCleanDisk (state g.S.Store c.define-3.new.tx.conn.now) = omega
          (arith, c.define-4.ensures.quiet.survives.clean, four) in
          let two : HasCleanDisk (state g.S.Store c.define-2.new.tx.conn.now) = omega
          (arith, c.define-3.ensures.quiet.survives.clean, three) in
          let one : HasCleanDisk (state g.S.Store c.define.new.tx.conn.now) = omega
          (arith, c.define-2.ensures.quiet.survives.clean, two) in
          answered c.define-7.result (λ last. first_made (state g.S.Store c.args.tx.now.conn.now)
          _ _ _ _ _ _ (state g.S.Store c.define-7.new.tx.conn.now) c.requires
          (c.in_ok-define.ensures.done one) (c.in_ok-define-2.ensures.done two)
          (c.in_ok-define-3.ensures.done three) (c.in_ok-define-4.ensures.done four)
          (c.in_ok-define-5.ensures.done five) (c.in_ok-define-6.ensures.done six) last)
          (c.define-7.ensures.done clean);
    }
