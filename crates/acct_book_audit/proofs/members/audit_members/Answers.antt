use Rattle.std.proofs.Common.{◌++◌, ◌+◌, ◌∷◌, [], refl, Some, None, sym, ap, arith}
use Rattle.acct_book.proofs.Looking.{looks_none, looks_then}
use Rattle.acct_book.proofs.Walking.{next_here, walked_all, walked_more}
use Rattle.std.proofs.KnownBytes.{Appends-nil}
use Rattle.acct_book_audit.proofs.Walking.{counts_more, told_more}
use Rattle.acct_book_audit.proofs.members.audit_members.Goals as goal

pub loop-turn-init : goal.loop-turn-init
loop-turn-init g c = record {
  quiet = looks_none g.B.Book c.args.book.now;
  all = refl;
  bound = omega arith;
  walk = ([], λ o. refl, record { all = refl; wrong = refl }, Appends-nil _);
}

pub loop-turn-preserved : goal.loop-turn-preserved
loop-turn-preserved g c =
    let m = g.M.Members in
    let plans = c.args.plans.now in
    let inv = c.loop-turn.invariant in
    let (members, walked, counts, told) = inv.walk in
    let member = c.in-Some.member in
    let reads = c.next.ensures.reads in
    let found = λ (opens : g.B.Book.is_open c.next.new.book). rw c.in-Some.is at
    (c.in_ok-member.ensures.found opens) in
    let here = next_here g.B.Book.content g.B.Book.is_open
    (λ content. m.is_next plans content c.loop-turn.after (Some member)) c.args.book.now
    c.loop-turn.book c.next.new.book inv.quiet.same reads.was_open found in
    record {
      quiet = looks_then g.B.Book c.args.book.now c.loop-turn.book c.next.new.book c.next.result
          inv.quiet reads;
      all = refl;
      bound = omega (arith, inv.bound, c.in_ok-seen.ensures.most);
      walk = (
        members ++ member ∷ [],
        λ opens. rw c.into_key.ensures
            (walked_more (m.is_next plans (g.B.Book.content c.args.book.now)) m.key_of None members
            _ member (walked (reads.was_open opens)) (here opens)),
        counts_more m.found_of members member c.loop-turn.seen
            (record {
              all = c.loop-turn.turn + 1;
              wrong = c.loop-turn.seen.wrong + c.in_ok-seen.field-0;
            }) c.in_ok-seen.field-0 counts c.in_ok-seen.ensures.count
            (ap (λ n. n + 1) (sym inv.all)) refl,
        told_more g.A.Auditor.words m.found_of members member _ _ _ _ told
            c.in_ok-seen.ensures.told c.go_on.ensures,
      );
    }

pub returns-in_default-clause-seen : goal.returns-in_default-clause-seen
returns-in_default-clause-seen g c =
    let m = g.M.Members in
    let plans = c.args.plans.now in
    let inv = c.loop-turn.invariant in
    let (members, walked, counts, told) = inv.walk in
    let step = c.in_ok-member.ensures in
    let found = λ (opens : g.B.Book.is_open c.next.new.book). rw c.in_default.is at
    (step.found opens) in
    let here = next_here g.B.Book.content g.B.Book.is_open
    (λ content. m.is_next plans content c.loop-turn.after None) c.args.book.now
    c.loop-turn.book c.next.new.book inv.quiet.same step.reads.was_open found in (
      members,
      λ opens.
          walked_all (m.is_next plans (g.B.Book.content c.args.book.now)) m.key_of None members _
          (walked (step.reads.was_open opens)) (here opens),
      counts,
      told,
    )
