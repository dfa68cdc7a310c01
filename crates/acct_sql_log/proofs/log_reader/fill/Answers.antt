use Rattle.std.proofs.Common.{◌≡◌, ℕ, ◌+◌, ◌-◌, ◌≤◌, List, ◌++◌, arith, length, take, drop, sym, ap}
use Rattle.std.proofs.Common.{◌∙◌}
use Rattle.std.proofs.Common.{subst, le_refl, drop_at, length-take-le, take-add}
use Rattle.std.proofs.lemmas.List.{take-append-le, length-append}
use Rattle.std.proofs.lemmas.Slice.{take-put_mid_below}
use Rattle.std.specs.Io.KnownBytes.{Consumes}
use Rattle.std.proofs.KnownBytes.{Consumes-trans, Consumes-kept}
use borrow.Rule.Slice.PartMut.{put_mid, post_of}
use Rattle.acct_sql_log.proofs.log_reader.fill.Goals.{in-Ok, in-Err+else-ne}
use Rattle.acct_sql_log.proofs.log_reader.fill.Goals as goal

-- what was there, and then what was written behind it
joined : (a n k : ℕ) (xs ys : List ℕ) → a ≤ length xs → n ≤ length ys
    → take a xs ++ take n ys ≡ take (a + n) (put_mid a k xs ys)
joined a n k xs ys within fits =
    let after = post_of a k xs in
    let size : length (take a xs) ≡ a = length-take-le a xs within in
    let front : take a (put_mid a k xs ys) ≡ take a xs =
    take-put_mid_below a k xs ys a (le_refl _) within in
    let back : take n (ys ++ after) ≡ take n ys = take-append-le n ys after fits in
    let rest : drop a (put_mid a k xs ys) ≡ ys ++ after = drop_at (take a xs) (ys ++ after) a size in
    ap (λ (l : List ℕ). l ++ take n ys) (sym front)
    ∙ ap (λ (l : List ℕ). take a (put_mid a k xs ys) ++ l) (sym (ap (take n) rest ∙ back))
    ∙ sym (take-add a n (put_mid a k xs ys))

-- the octets fit
fits_in : (a n k : ℕ) (xs ys : List ℕ) → a ≤ length xs → n ≤ length ys
    → a + n ≤ length (put_mid a k xs ys)
fits_in a n k xs ys within fits =
    let size : length (take a xs) ≡ a = length-take-le a xs within in
    let sizes : length (put_mid a k xs ys) ≡ length (take a xs) + (length ys + length (post_of a k xs)) =
    length-append (take a xs) (ys ++ post_of a k xs)
    ∙ ap (λ (m : ℕ). length (take a xs) + m) (length-append ys (post_of a k xs)) in
    omega arith

pub loop-preserved : goal.loop-preserved
loop-preserved g c =
    let from = c.loop.count in
    let room = length c.loop.buffer - from in
    let within = c.loop.invariant.0 in
    let written = put_mid from room c.loop.buffer c.read.new.buf in
    elim c.match-read.branch [
      | in-Ok w ↦ (
        subst (λ (n : ℕ). n ≤ length written) (sym w.count-is)
            (fits_in from w.in-Ok.more room c.loop.buffer c.read.new.buf within w.in-Ok.ensures.bound.0),
        subst (Consumes _ _) (joined from w.in-Ok.more room c.loop.buffer c.read.new.buf within
            w.in-Ok.ensures.bound.0 ∙ ap (λ (n : ℕ). take n written) (sym w.count-is))
            (Consumes-trans _ _ _ _ _ c.loop.invariant.1 w.in-Ok.ensures.bytes.0),
      )
      | in-Err+else-ne w ↦ (
        let fit : from + 0 ≤ length written =
            fits_in from 0 room c.loop.buffer c.read.new.buf within (omega arith) in
            let same = w.count-is in
            omega (arith, same),
        subst (Consumes _ _) (sym (take-put_mid_below from room c.loop.buffer c.read.new.buf from
            (le_refl _) within) ∙ ap (λ (n : ℕ). take n written) (sym w.count-is))
            (Consumes-kept _ _ _ _ c.loop.invariant.1 w.in-Err.ensures.bytes),
      )
    ]
