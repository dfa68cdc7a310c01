use Rattle.std.proofs.Common.{sym, ◌∙◌, arith}
use Rattle.httparse.specs.Spans.{header_bytes}
use Rattle.acct_desk.proofs.FieldLemmas.{values_of-more, other_field, first_field, later_field}
use Rattle.acct_desk.proofs.head.values_named.Goals as goal
use Rattle.acct_desk.proofs.head.values_named.Goals.{then-is_field, then-count-eq0, else-count-eq0}
use Rattle.acct_desk.proofs.head.values_named.Goals.{else-is_field}

pub loop-header-preserved : goal.loop-header-preserved
loop-header-preserved c =
    let more = values_of-more c.args.name.now (header_bytes c.args.front.now) c.args.headers.now
    c.loop-header.header-index _ c.loop-header-test.true in
    let inv = c.loop-header.invariant in
    elim c.if-is_field.branch [
      | then-is_field w ↦ elim w.if-count-eq0.branch [
        | then-count-eq0 w' ↦
            let r = first_field _ _ _ _ _ (sym c.is_field.ensures
            ∙ w.if-is_field.true) w'.if-count-eq0.true more inv.1 in
            rw (w.first-is, w'.first-is, w.count-is, w'.of.ensures) (r.0, r.1, omega arith)
        | else-count-eq0 w' ↦
            let r = later_field _ _ _ _ _ _ (sym c.is_field.ensures
            ∙ w.if-is_field.true) w'.if-count-eq0.false more inv.0 inv.1 in
            rw (w.first-is, w'.first-is, w.count-is) (r.0, r.1, omega arith)
      ]
      | else-is_field w ↦
          let r = other_field _ _ _ _ _ _ (sym c.is_field.ensures
          ∙ w.if-is_field.false) more inv.0 inv.1 in
          rw (w.first-is, w.count-is) (r.0, r.1, omega arith)
    ]
