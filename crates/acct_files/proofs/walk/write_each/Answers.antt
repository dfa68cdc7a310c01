use Rattle.std.proofs.Common.{◌++◌, ◌∷◌, [], arith, refl, Some, None}
use Rattle.std.proofs.lemmas.List.{length-append}
use Rattle.acct_book.proofs.Looking.{looks_none, looks_then}
use Rattle.acct_book.proofs.Walking.{next_here, walked_all, walked_more}
use Rattle.acct_files.proofs.Walking.{appends_nothing, grown}
use Rattle.acct_files.proofs.walk.write_each.Goals as goal

pub loop-count-init : goal.loop-count-init
loop-count-init g c = record {
  between = c.requires;
  quiet = looks_none g.B.Book c.args.book.now;
  walk = ([], appends_nothing _, refl, λ o. refl);
}

pub loop-count-preserved : goal.loop-count-preserved
loop-count-preserved g c =
    let x = g.X.Export in
    let export = c.args.export.now in
    let inv = c.loop-count.invariant in
    let (members, written, counted, walked) = inv.walk in
    let member = c.in-Some.member in
    let reads = c.next.ensures.reads in
    let found = λ (opens : g.B.Book.is_open c.next.new.book). rw c.in-Some.is at
    (c.in_ok-member.ensures.found opens) in
    let here = next_here g.B.Book.content g.B.Book.is_open
    (λ content. x.is_next content c.loop-count.after (Some member)) c.args.book.now
    c.loop-count.book c.next.new.book inv.quiet.same reads.was_open found in
    record {
      between = c.in_ok-write.ensures.between;
      quiet = looks_then g.B.Book c.args.book.now c.loop-count.book c.next.new.book c.next.result
          inv.quiet reads;
      walk = (
        members ++ member ∷ [],
        grown (x.text_of export) members member _ _ _ written c.in_ok-write.ensures.text,
        omega (arith, counted, length-append members (member ∷ [])),
        λ opens. rw c.into_key.ensures
            (walked_more (x.is_next (g.B.Book.content c.args.book.now)) x.key_of None members _
            member (walked (reads.was_open opens)) (here opens)),
      );
    }

pub returns-in_default-clause-text : goal.returns-in_default-clause-text
returns-in_default-clause-text g c =
    let x = g.X.Export in
    let inv = c.loop-count.invariant in
    let (members, written, counted, walked) = inv.walk in
    let step = c.in_ok-member.ensures in
    let found = λ (opens : g.B.Book.is_open c.next.new.book). rw c.in_default.is at
    (step.found opens) in
    let here = next_here g.B.Book.content g.B.Book.is_open
    (λ content. x.is_next content c.loop-count.after None) c.args.book.now c.loop-count.book
    c.next.new.book inv.quiet.same step.reads.was_open found in (
      members,
      written,
      counted,
      λ opens.
          walked_all (x.is_next (g.B.Book.content c.args.book.now)) x.key_of None members _
          (walked (step.reads.was_open opens)) (here opens),
    )

pub returns-clause-text : goal.returns-clause-text
returns-clause-text g c =
    let x = g.X.Export in
    let inv = c.loop-count.invariant in
    let (members, written, counted, walked) = inv.walk in
    let step = c.in_ok-next.ensures in
    let found = λ (opens : g.B.Book.is_open c.next-2.new.book). rw c.in-None.is at
    (step.found opens) in
    let here = next_here g.B.Book.content g.B.Book.is_open
    (λ content. x.is_next content c.loop-count.after None) c.args.book.now c.loop-count.book
    c.next-2.new.book inv.quiet.same step.reads.was_open found in (
      members,
      written,
      omega (arith, counted, c.loop-count-test.false),
      λ opens.
          walked_all (x.is_next (g.B.Book.content c.args.book.now)) x.key_of None members _
          (walked (step.reads.was_open opens)) (here opens),
    )
