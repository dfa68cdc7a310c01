use Rattle.std.proofs.Common.{arith, ◌≡◌, ◌+◌, ◌++◌, [], ◌∷◌, take, subst, ap, sym, ◌∙◌}
use Rattle.std.proofs.lemmas.List.{take_all, take_more}
use Rattle.sqlite.specs.State.{HasCleanDisk}
use Rattle.sqlite.specs.Held.{state}
use Rattle.acct_sql_tables.specs.inner.Inside.{HasRemoved}
use Rattle.acct_sql_tables.proofs.StepLemmas.{quiet_none, quiet_then}
use Rattle.acct_sql_tables.proofs.RemoveLemmas.{removed_none, removed_more}
use Rattle.acct_sql.proofs.transactions.remove_rows.Goals as goal

pub loop-key-init : goal.loop-key-init
loop-key-init g c = record {
  quiet = quiet_none g.S.Store _;
  done = λ clean o. removed_none (state g.S.Store c.args.tx.now.conn.now) o
      (c.requires.inside clean o) (c.requires.book clean o);
}

pub remove_row-requires : goal.remove_row-requires
remove_row-requires g c = λ clean o. (c.loop-key.invariant.done clean o).book

pub loop-key-preserved : goal.loop-key-preserved
loop-key-preserved g c =
    let before = c.loop-key.invariant in
    let more : take (c.loop-key.key-index + 1) c.args.keys.now
    ≡ take c.loop-key.key-index c.args.keys.now ++ c.key-item.result ∷ [] =
    take_more c.args.keys.now c.loop-key.key-index c.key-item.result c.loop-key-test.true
    ∙ ap (λ key. take c.loop-key.key-index c.args.keys.now ++ key ∷ []) (sym c.key-item.is) in
    record {
      quiet = quiet_then g.S.Store _ _ _ before.quiet c.remove_row.ensures.quiet;
      done = λ clean o.
          let old = state g.S.Store c.args.tx.now.conn.now in
          let mid = state g.S.Store c.loop-key.tx.conn.now in
          let new = state g.S.Store c.remove_row.new.tx.conn.now in
          let early : HasCleanDisk mid = omega
          (arith, c.remove_row.ensures.quiet.survives.clean, clean) in
          let second = c.in_ok-remove_row.ensures.done clean in
          let first = before.done early second.shows.was_open in
          subst (λ keys. HasRemoved keys old new) (sym more)
          (removed_more (take c.loop-key.key-index c.args.keys.now) c.key-item.result old mid new
          first second);
    }

pub returns : goal.returns
returns g c =
    let before = c.loop-key.invariant in
    record {
      quiet = before.quiet;
      done = λ clean o. subst (λ keys. HasRemoved keys (state g.S.Store c.args.tx.now.conn.now)
          (state g.S.Store c.loop-key.tx.conn.now))
          (take_all c.loop-key.key-index c.args.keys.now (omega (arith, c.loop-key-test.false)))
          (before.done clean o);
    }
