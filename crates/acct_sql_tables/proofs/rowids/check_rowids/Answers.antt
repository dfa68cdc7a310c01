use Rattle.std.proofs.Common.{rules, arith, subst, Result, Ok, Err, OnOk, IsTrue, ◌∙◌, ◌≡◌}
use Rattle.sqlite.specs.Effect.{Database}
use Rattle.sqlite.specs.State.{HasCleanDisk}
use Rattle.sqlite.specs.Held.{state}
use Rattle.acct_sql_tables.specs.Tables.{voucher, session, session_plan}
use Rattle.acct_sql_tables.specs.Tidy.{IsTidy}
use Rattle.acct_sql_tables.proofs.LookLemmas.{looks_then}
use Rattle.acct_sql_tables.proofs.rowids.check_rowids.Goals as goal

on_ok : {T E P Q : Type 0} → (P → Q) → (r : Result T E) → OnOk r P → OnOk r Q
on_ok f (Ok x) p = f p
on_ok f (Err e) p = p

pub returns-clause-tidy : goal.returns-clause-tidy
returns-clause-tidy g c =
    let accounts = c.in_ok-check_table.ensures.tidy in
    let vouchers = c.in_ok-check_table-2.ensures.tidy in
    let sessions = c.in_ok-check_table-3.ensures.tidy in
    let plans = c.check_table-4.ensures.tidy in
    let s = state g.S.Store in
    let two = looks_then (s c.args.conn.now) (s c.check_table.new.conn)
    (s c.check_table-2.new.conn) accounts.looks vouchers.looks in
    let three = looks_then (s c.args.conn.now) (s c.check_table-2.new.conn)
    (s c.check_table-3.new.conn) two sessions.looks in
    record {
      looks = looks_then (s c.args.conn.now) (s c.check_table-3.new.conn)
          (s c.check_table-4.new.conn) three plans.looks;
      stays_open = plans.stays_open;
      holds = λ clean.
          let at3 : HasCleanDisk (s c.check_table-3.new.conn) = omega
          (arith, plans.looks.survives.clean, clean) in
          let at2 : HasCleanDisk (s c.check_table-2.new.conn) = omega
          (arith, sessions.looks.survives.clean, at3) in
          let at1 : HasCleanDisk (s c.check_table.new.conn) = omega
          (arith, vouchers.looks.survives.clean, at2) in
          on_ok (λ tidy. record {
            accounts = accounts.holds at1;
            vouchers = subst (λ (db : Database). IsTidy (db.trees voucher.tree))
                (accounts.looks.same at1 (accounts.stays_open at1)) (vouchers.holds at2);
            sessions = subst (λ (db : Database). IsTidy (db.trees session.tree))
                (two.same at2 (vouchers.stays_open at2)) (sessions.holds at3);
            plans = subst (λ (db : Database). IsTidy (db.trees session_plan.tree))
                (three.same at3 (sessions.stays_open at3)) tidy;
          }) c.check_table-4.result (plans.holds clean);
    }
