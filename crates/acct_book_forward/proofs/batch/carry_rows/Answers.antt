use Rattle.std.proofs.Common.{◌≡◌, true, Ok, map, refl, sym, ◌∙◌, subst}
use Rattle.acct_book.specs.Book.{Writes}
use Rattle.acct_book.specs.Content.{key_of, with_forward, IsNone}
use Rattle.acct_book_forward.proofs.Carrying.{into_apart, now_carried, failed}
use Rattle.acct_book_forward.proofs.batch.carry_rows.Goals as goal

pub put_forward-requires : goal.put_forward-requires
put_forward-requires g c = λ still.
    let old = g.B.Book.content c.args.book.now in
    let reads = c.line_for.ensures.reads in
    let gone = c.deref.ensures.value ∙ c.in_ok-gone.ensures in
    let by = rw c.in-Some.is at (c.in_ok-row.ensures.carried still) in
    subst (λ ks. IsNone ks (key_of c.in-Some.row)) (sym gone)
    (into_apart c.args.batch.now.plans.now old (map key_of c.args.batch.now.rows.now) c.in-Some.row
    (g.met.B.Book.own_keys c.args.book.now (reads.was_open still)) by)

pub returns-in_err-put_forward : goal.returns-in_err-put_forward
returns-in_err-put_forward g c =
    let b = g.B.Book in
    let mid = c.line_for.new.book in
    let new = c.put_forward.new.self in
    let gone = c.deref.ensures.value ∙ c.in_ok-gone.ensures in
    let not = failed c.from_residual-in_err-put_forward.result _ (b.is_open new)
    c.from_residual-in_err-put_forward.ensures.1 in
    now_carried b c.args.batch.now.plans.now (map key_of c.args.batch.now.rows.now) c.in-Some.row
    c.args.book.now mid new c.line_for.result c.put_forward.result
    c.from_residual-in_err-put_forward.result c.line_for.ensures.reads
    (λ still. rw c.in-Some.is at (c.in_ok-row.ensures.carried still))
    (subst (λ ks. Writes b.content b.is_sound b.is_open b.is_steady b.left mid new
    (with_forward (b.content mid) ks c.in-Some.row) c.put_forward.result) gone
    c.put_forward.ensures)
    (λ sound. not.1) (λ still is. absurd (not.0 is))
    (λ still other. c.in_err-put_forward.ensures.err still)

pub returns : goal.returns
returns g c =
    let b = g.B.Book in
    let mid = c.line_for.new.book in
    let new = c.put_forward.new.self in
    let gone = c.deref.ensures.value ∙ c.in_ok-gone.ensures in
    now_carried b c.args.batch.now.plans.now (map key_of c.args.batch.now.rows.now) c.in-Some.row
    c.args.book.now mid new c.line_for.result c.put_forward.result (Ok true)
    c.line_for.ensures.reads
    (λ still. rw c.in-Some.is at (c.in_ok-row.ensures.carried still))
    (subst (λ ks. Writes b.content b.is_sound b.is_open b.is_steady b.left mid new
    (with_forward (b.content mid) ks c.in-Some.row) c.put_forward.result) gone
    c.put_forward.ensures)
    c.in_ok-put_forward.ensures.answers
    (λ still is. subst (λ ks. b.content new
    ≡ with_forward (b.content mid) ks c.in-Some.row) gone (c.in_ok-put_forward.ensures.ok still))
    (λ still other. absurd (other refl))
