use Rattle.std.proofs.Common.{◌≡◌, sym, ap, Some, None, rules}
use Rattle.acct_desk.specs.Paths.{one_of}
use Rattle.acct_desk.specs.inner.Cut.{cut}
use Rattle.acct_desk.proofs.CutLemmas.{uncut_segments, two_or_more}
use Rattle.acct_desk.proofs.login_path.one_of.Goals as goal

pub returns-in-Some : goal.returns-in-Some
returns-in-Some c =
    let cuts : cut c.args.path.now ≡ Some (c.in-Some.field-0.0.now, c.in-Some.field-0.1.now) =
    search rules in
    sym (two_or_more c.args.path.now _ cuts)

pub returns-in-None : goal.returns-in-None
returns-in-None c =
    let none : cut c.args.path.now ≡ None = search rules in
    sym (ap one_of (uncut_segments c.args.path.now none))
