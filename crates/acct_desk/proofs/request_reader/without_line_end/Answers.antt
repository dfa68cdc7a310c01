use Rattle.std.proofs.Common.{◌∷◌, [], sym, ◌∙◌}
use Rattle.std.specs.Prelude.{Some}
use Rattle.std.proofs.lemmas.Bool.Decides.{Decides-eqb}
use Rattle.std.proofs.lemmas.Slice.Eq.{strip_suffix_is}
use Rattle.acct_desk.proofs.HeadEndLemmas.{ends_crlf}
use Rattle.acct_desk.proofs.request_reader.without_line_end.Goals as goal

pub returns-in-Some : goal.returns-in-Some
returns-in-Some c = λ line end e plain.
    let bytes = c.args.bytes.now in
    let cases = c.in-Some.ensures.cases in
    let is = strip_suffix_is Decides-eqb bytes (13 ∷ 10 ∷ []) (Some c.in-Some.line) cases in
    ends_crlf line c.in-Some.line.now end (sym e ∙ is) plain
