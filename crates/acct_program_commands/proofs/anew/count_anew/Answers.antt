use Rattle.std.proofs.Common.{◌++◌, ◌∷◌, [], refl, Some, None, arith}
use Rattle.acct_book.specs.Content.{key_of}
use Rattle.acct_book.specs.Walk.{IsNextRow}
use Rattle.acct_book.proofs.Looking.{looks_none, looks_then}
use Rattle.acct_book.proofs.Walking.{next_here, walked_all, walked_more}
use Rattle.acct_program_commands.specs.Anew.{is_anew}
use Rattle.acct_program_commands.proofs.CountedAnew.{one_more, rows_met}
use Rattle.acct_program_commands.proofs.anew.count_anew.Goals as goal

pub loop-turn-init : goal.loop-turn-init
loop-turn-init g c = record {
  quiet = looks_none g.B.Book c.args.book.now;
  bound = omega arith;
  walk = ([], refl, λ o. refl);
}

pub loop-turn-preserved : goal.loop-turn-preserved
loop-turn-preserved g c =
    let b = g.B.Book in
    let before = b.content c.args.book.now in
    let inv = c.loop-turn.invariant in
    let (rows, counted, walked) = inv.walk in
    let row = c.in-Some.row in
    let reads = c.next_row.ensures.reads in
    let found = λ (opens : b.is_open c.next_row.new.book). rw c.in-Some.is at
    (c.in-Ok.ensures.found opens) in
    let here = next_here b.content b.is_open
    (λ content. IsNextRow content c.loop-turn.after (Some row)) c.args.book.now
    c.loop-turn.book c.next_row.new.book inv.quiet.same reads.was_open found in
    record {
      quiet = looks_then b c.args.book.now c.loop-turn.book c.next_row.new.book
          c.next_row.result inv.quiet reads;
      bound = omega (arith, inv.bound, c.in_ok-count.ensures.most);
      walk = (
        rows ++ row ∷ [],
        one_more (is_anew c.args.stamping.now) rows row c.loop-turn.count c.in_ok-count.field-0
            counted c.in_ok-count.ensures.one,
        λ opens. rw c.into_key.ensures
            (walked_more (IsNextRow before) key_of None rows _ row (walked (reads.was_open opens))
            (here opens)),
      );
    }

pub returns-in_default-found-clause-counted : goal.returns-in_default-found-clause-counted
returns-in_default-found-clause-counted g c =
    let b = g.B.Book in
    let before = b.content c.args.book.now in
    let inv = c.loop-turn.invariant in
    let (rows, counted, walked) = inv.walk in
    let reads = c.next_row.ensures.reads in
    let found = λ (opens : b.is_open c.next_row.new.book). rw c.in_default-found.is at
    (c.in-Ok.ensures.found opens) in
    let here = next_here b.content b.is_open (λ content. IsNextRow content c.loop-turn.after None)
    c.args.book.now c.loop-turn.book c.next_row.new.book inv.quiet.same reads.was_open found in (
      rows,
      counted,
      λ opens. rows_met before rows
          (walked_all (IsNextRow before) key_of None rows _ (walked (reads.was_open opens))
          (here opens)),
    )
