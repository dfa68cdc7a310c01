use Rattle.std.proofs.lemmas.Grind.{common_steps}
use Rattle.std.proofs.Common.{List, ℕ, true, inl, rules, arith, sym, subst}
use Rattle.std.specs.Io.KnownBytes.{Consumes}
use Rattle.std.proofs.KnownBytes.{Consumes-trans}
use Rattle.acct_desk.specs.declared.request_reader.Watch.{Watch}
use Rattle.acct_desk.specs.inner.Reading.{StaysOpen}
use Rattle.acct_desk.proofs.ReadingLemmas.{nothing_stays, read_on}
use Rattle.acct_desk.proofs.request_reader.read_request.Goals as goal
use Rattle.acct_desk.proofs.request_reader.read_request.Goals.{then-is_due+in-Some, else-is_due}

pub loop-init : goal.loop-init
loop-init g c =
    let P : List ℕ → Type 0 = StaysOpen (record { next = 1; ends = true }) in
    (omega arith, search rules, subst P (sym c.new-bytes.ensures.items) nothing_stays)

pub loop-preserved : goal.loop-preserved
loop-preserved g c =
    let P : Watch → Type 0 = λ w. StaysOpen w c.read_some.new.bytes.items in
    let adds = c.in_ok-read_some.ensures.adds in
    let first = g.R.Read.remaining c.args.reader.now in
    let left = g.R.Read.remaining c.read_some.new.reader in
    let C : List ℕ → Type 0 = Consumes first left in (
      omega (arith, c.in_ok-read_some.ensures.limit, c.if-len-eq-OCTET_LIMIT.false),
      subst C (sym adds.2)
          (Consumes-trans first (g.R.Read.remaining c.loop.reader) left c.loop.bytes.items adds.0
          c.loop.invariant.1 adds.1),
      elim c.if-is_due.branch [
        | then-is_due+in-Some w ↦
            let Q : List ℕ → Type 0 = StaysOpen w.in-Some.later in
            subst P (sym w.watch-is)
            (subst Q w.deref-then-is_due.ensures.value w.in-Some.ensures.open)
        | else-is_due w ↦
            subst P (sym w.watch-is)
            (read_on c.loop.watch c.loop.bytes.items adds.0 c.read_some.new.bytes.items
            c.deref.result.now c.len-before.result c.loop.invariant.2 adds.2 c.deref.ensures.value
            (omega arith) (c.is_due.ensures.short w.if-is_due.false)
            (c.is_due.ensures.quiet w.if-is_due.false))
      ],
    )

pub returns-in-None-clause-ends : goal.returns-in-None-clause-ends
returns-in-None-clause-ends g c =
    inl (rw c.deref-then-is_due.ensures.value at c.in-None.ensures.settled)

pub returns-then-not-branch-clause-prefix : goal.returns-then-not-branch-clause-prefix
returns-then-not-branch-clause-prefix g c = grind (arith, common_steps)

pub returns-in-None-clause-prefix : goal.returns-in-None-clause-prefix
returns-in-None-clause-prefix g c = grind (arith, common_steps)
