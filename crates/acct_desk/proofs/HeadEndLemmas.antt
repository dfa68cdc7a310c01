-- Each request head ends in an empty line after a line that isn't empty.
use Rattle.std.proofs.Common.{◌≡◌, ◌≢◌, ◌+◌, ◌==◌, ℕ, Bool, not, true, false, List, [], ◌∷◌}
use Rattle.std.proofs.Common.{◌++◌, length, IsTrue, refl, ap, sym, ◌∙◌, subst, arith}
use Rattle.std.proofs.Common.{append_assoc, length-append, Option, Some}
use Rattle.std.specs.Prelude.{All}
use Rattle.std.proofs.lemmas.Bool.Decides.{nat_tests}
use Rattle.std.proofs.lemmas.List.{append_cancel_right}
use Rattle.std.proofs.lemmas.List.Elements.{All-head, All-tail}
use Rattle.httparse.specs.Grammar.{is_value_byte, AllPass, LineEnd, crlf, lf, print_end}
use Rattle.httparse.specs.Grammar.{print_blank, print_version, Field, print_field, IsField}
use Rattle.httparse.specs.Grammar.{print_section}
use Rattle.httparse.specs.Grammar.{RequestHead, print_request, IsRequestHead}
use Rattle.httparse.specs.Pieces.{is_newline}
use Rattle.acct_desk.specs.inner.Reading.{EndsInEmptyLine}

-- the octets end with the end of a line that isn't empty
record EndsInLine (bytes : List ℕ) : Type 0 where
  before : List ℕ
  last : ℕ
  line_end : LineEnd
  written : is_newline last ≡ false
  is : bytes ≡ before ++ last ∷ print_end line_end

-- ---- a field line

value_is_written : (b : ℕ) → is_value_byte b ≡ true → is_newline b ≡ false
value_is_written b is = grind (arith, nat_tests)

-- the last octet of a line
last_written : (x : ℕ) (raw : List ℕ) → is_newline x ≡ false → AllPass is_value_byte raw
    → (before : List ℕ) × (last : ℕ) × (is_newline last ≡ false) × (x ∷ raw ≡ before ++ last ∷ [])
last_written x [] written all = ([], x, written, refl)
last_written x (y ∷ raw) written all =
    let P : ℕ → Type 0 = λ b. IsTrue (is_value_byte b) in
    let next = value_is_written y (All-head P y raw all) in
    let more = last_written y raw next (All-tail P y raw all) in
    (x ∷ more.0, more.1, more.2, ap (λ bs. x ∷ bs) more.3)

regroup : (front name before : List ℕ) (last : ℕ) (end : List ℕ)
    → front ++ ((name ++ (before ++ last ∷ [])) ++ end) ≡ (front ++ (name ++ before)) ++ last ∷ end
regroup front name before last end = simp append_assoc

field_ends : (front : List ℕ) (f : Field) → IsField f → EndsInLine (front ++ print_field f)
field_ends front f is =
    let line = last_written 58 f.raw refl is.raw in
    record {
      before = front ++ (f.name ++ line.0);
      last = line.1;
      line_end = f.end;
      written = line.2;
      is = ap (λ raw. front ++ ((f.name ++ raw) ++ print_end f.end)) line.3
          ∙ regroup front f.name line.0 line.1 (print_end f.end);
    }

-- ---- a head

one_field_more : (front field rest end : List ℕ)
    → front ++ ((field ++ rest) ++ end) ≡ (front ++ field) ++ (rest ++ end)
one_field_more front field rest end = simp append_assoc

section_ends : (front : List ℕ) (fields : List Field) (last : LineEnd) → EndsInLine front
    → All IsField fields → EndsInEmptyLine (front ++ print_section fields last)
section_ends front [] last x all = record {
  before = x.before;
  last = x.last;
  line_end = x.line_end;
  empty = last;
  written = x.written;
  is = ap (λ bs. bs ++ print_end last) x.is;
}
section_ends front (f ∷ fields) last x all =
    let here = field_ends front f (All-head IsField f fields all) in
    subst EndsInEmptyLine (sym (one_field_more front (print_field f) _ (print_end last)))
    (section_ends (front ++ print_field f) fields last here (All-tail IsField f fields all))

digit_is_written : (minor : ℕ) → is_newline (48 + minor) ≡ false
digit_is_written minor = grind (arith, nat_tests)

line_ends : (front : List ℕ) (minor : ℕ) (end : LineEnd)
    → EndsInLine ((front ++ 32 ∷ print_version minor) ++ print_end end)
line_ends front minor end = record {
  before = front ++ 32 ∷ 72 ∷ 84 ∷ 84 ∷ 80 ∷ 47 ∷ 49 ∷ 46 ∷ [];
  last = 48 + minor;
  line_end = end;
  written = digit_is_written minor;
  is = simp append_assoc;
}

pub head_ends : (head : RequestHead) → IsRequestHead head → EndsInEmptyLine (print_request head)
unfolding print_request
head_ends head is =
    section_ends _ head.fields head.last
    (line_ends (print_blank head.blank ++ head.method ++ 32 ∷ head.target) head.minor head.line_end)
    is.fields

-- ---- line ends taken off

pub ends_crlf : (line before : List ℕ) (end : LineEnd)
    → line ++ print_end end ≡ before ++ 13 ∷ 10 ∷ []
    → ((front : List ℕ) → line ≢ front ++ 13 ∷ []) → Some before ≡ Some line
ends_crlf line before crlf e plain =
    ap Some (sym (append_cancel_right line before (13 ∷ 10 ∷ []) e))
ends_crlf line before lf e plain =
    let split : before ++ 13 ∷ 10 ∷ [] ≡ (before ++ 13 ∷ []) ++ 10 ∷ [] = simp append_assoc in
    absurd (plain before (append_cancel_right line (before ++ 13 ∷ []) (10 ∷ []) (e ∙ split)))

-- what ends in one octet doesn't end in another
other_last : (before : List ℕ) (last x : ℕ) → last ≢ x → (front : List ℕ)
    → before ++ last ∷ [] ≢ front ++ x ∷ []
other_last [] last x other [] e = other (cc)
other_last [] last x other (y ∷ []) e = cc
other_last [] last x other (y ∷ z ∷ front) e = cc
other_last (w ∷ []) last x other [] e = cc
other_last (w ∷ v ∷ before) last x other [] e = cc
other_last (w ∷ before) last x other (y ∷ front) e = other_last before last x other front (cc)

no_cr_after : (before : List ℕ) (last : ℕ) (end : LineEnd) (front : List ℕ)
    → before ++ last ∷ print_end end ≢ front ++ 13 ∷ []
no_cr_after before last crlf front e =
    other_last (before ++ last ∷ 13 ∷ []) 10 13 (λ same. omega arith) front
    (append_assoc before (last ∷ 13 ∷ []) (10 ∷ []) ∙ e)
no_cr_after before last lf front e =
    other_last (before ++ last ∷ []) 10 13 (λ same. omega arith) front
    (append_assoc before (last ∷ []) (10 ∷ []) ∙ e)

-- what is left when the empty line's end is taken off, and then the line's end
pub lines_before : (bytes lines : List ℕ) (ends : EndsInEmptyLine bytes)
    → ((line : List ℕ) (end : LineEnd) → bytes ≡ line ++ print_end end
    → ((front : List ℕ) → line ≢ front ++ 13 ∷ []) → Some lines ≡ Some line)
    → lines ≡ ends.before ++ ends.last ∷ print_end ends.line_end
lines_before bytes lines ends off =
    let e = off (ends.before ++ ends.last ∷ print_end ends.line_end) ends.empty ends.is
    (no_cr_after ends.before ends.last ends.line_end) in
    cc

no_newline : (b : ℕ) → is_newline b ≡ false → (b ≢ 13) × (b ≢ 10)
no_newline b written = (
  λ is. let h : ⊥ = grind (arith, nat_tests) in h,
  λ is. let h : ⊥ = grind (arith, nat_tests) in h,
)

pub line_before : (lines : List ℕ) (line : Option (List ℕ)) (before : List ℕ) (last : ℕ)
    (end : LineEnd) → is_newline last ≡ false → lines ≡ before ++ last ∷ print_end end
    → ((line' : List ℕ) (end' : LineEnd) → lines ≡ line' ++ print_end end'
    → ((front : List ℕ) → line' ≢ front ++ 13 ∷ []) → line ≡ Some line')
    → line ≡ Some (before ++ last ∷ [])
line_before lines line before last end written is off =
    off (before ++ last ∷ []) end (is ∙ sym (append_assoc before (last ∷ []) (print_end end)))
    (other_last before last 13 (no_newline last written).0)

pub no_line_feed : (line before front : List ℕ) (last : ℕ) → is_newline last ≡ false
    → line ≡ before ++ last ∷ [] → line ≢ front ++ 10 ∷ []
no_line_feed line before front last written is e =
    other_last before last 10 (no_newline last written).1 front (sym is ∙ e)

pub not_empty : (line before : List ℕ) (last : ℕ) (r : Bool) → line ≡ before ++ last ∷ []
    → r ≡ (length line == 0) → not r ≡ true
not_empty line before last r is empty =
    let long : length line ≡ length before + 1 = ap length is ∙ length-append before (last ∷ []) in
    grind (arith, nat_tests)

pub not_true : (r : Bool) → (r ≡ true → ⊥) → not r ≡ true
not_true true never = absurd (never refl)
not_true false never = refl

-- nothing is no head
pub nothing_ends : (bytes rest : List ℕ) → EndsInEmptyLine bytes → [] ≢ bytes ++ rest
nothing_ends bytes rest ends e =
    clash ends.before ends.last (print_end ends.line_end) (print_end ends.empty) rest
    (e ∙ ap (λ bs. bs ++ rest) ends.is)
  where
    clash : (before : List ℕ) (last : ℕ) (tail end rest : List ℕ)
        → [] ≢ ((before ++ last ∷ tail) ++ end) ++ rest
    clash [] last tail end rest e = cc
    clash (x ∷ before) last tail end rest e = cc
