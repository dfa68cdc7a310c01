use Rattle.std.proofs.Common.{◌≡◌, [], ◌∷◌, ◌++◌, Some, None}
use Rattle.std.proofs.lemmas.Bool.Decides.{Decides-eqb}
use Rattle.std.proofs.lemmas.Slice.Eq.{ends_is}
use Rattle.acct_desk.proofs.HeadEndLemmas.{lines_before, line_before, no_line_feed, not_empty}
use Rattle.acct_desk.proofs.HeadEndLemmas.{not_true}
use Rattle.acct_desk.proofs.request_reader.ends_head.Goals as goal

pub returns-in_default-without_line_end : goal.returns-in_default-without_line_end
returns-in_default-without_line_end c = λ ends.
    let lines = lines_before c.args.bytes.now c.in-Some.lines.now ends c.in-Some.ensures in
    let line = line_before c.in-Some.lines.now None ends.before ends.last ends.line_end ends.written
    lines c.in_default-without_line_end.ensures in
    absurd (cc)

pub returns-then-not-is_empty : goal.returns-then-not-is_empty
returns-then-not-is_empty c = λ ends.
    let here = c.in-Some-without_line_end.line.now in
    let lines = lines_before c.args.bytes.now c.in-Some.lines.now ends c.in-Some.ensures in
    let some = line_before c.in-Some.lines.now (Some here) ends.before ends.last ends.line_end
    ends.written lines c.in-Some-without_line_end.ensures in
    let line : here ≡ ends.before ++ ends.last ∷ [] = cc in
    not_true c.ends_with.result (λ is. no_line_feed here ends.before _ ends.last ends.written line
    ((ends_is Decides-eqb here (10 ∷ []) c.ends_with.result c.ends_with.ensures.value).0 is))

pub returns-else-not-is_empty : goal.returns-else-not-is_empty
returns-else-not-is_empty c = λ ends.
    let here = c.in-Some-without_line_end.line.now in
    let lines = lines_before c.args.bytes.now c.in-Some.lines.now ends c.in-Some.ensures in
    let some = line_before c.in-Some.lines.now (Some here) ends.before ends.last ends.line_end
    ends.written lines c.in-Some-without_line_end.ensures in
    let line : here ≡ ends.before ++ ends.last ∷ [] = cc in
    not_empty here ends.before ends.last c.is_empty.result line c.is_empty.ensures
