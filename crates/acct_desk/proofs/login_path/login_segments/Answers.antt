use Rattle.std.proofs.Common.{◌≡◌, ◌∙◌, sym, Some, None, rules}
use Rattle.std.specs.Prelude.{option_map}
use Rattle.acct_desk.specs.inner.Cut.{cut}
use Rattle.acct_desk.specs.inner.LoginView.{path_view}
use Rattle.acct_desk.proofs.CutLemmas.{one_segment, two_segments, three_segments, four_segments}
use Rattle.acct_desk.proofs.CutLemmas.{five_segments, six_segments}
use Rattle.acct_desk.proofs.login_path.login_segments.Goals as goal

pub returns-in_err-account : goal.returns-in_err-account
returns-in_err-account c =
    let none : cut c.args.path.now ≡ None = search rules in
    let nothing : option_map path_view c.from_residual.result ≡ None = search rules in
    nothing ∙ sym (one_segment c.args.path.now none)

pub returns-in_default : goal.returns-in_default
returns-in_default c =
    let one : cut c.args.path.now ≡ Some (c.in_ok-account.account.now, c.in_ok-account.rest.now)
    = search rules in
    let two : cut c.in_ok-account.rest.now ≡ None = search rules in
    sym (two_segments c.args.path.now _ _ one two)

pub returns-in_default-cut : goal.returns-in_default-cut
returns-in_default-cut c =
    let one : cut c.args.path.now ≡ Some (c.in_ok-account.account.now, c.in_ok-account.rest.now)
    = search rules in
    let two : cut c.in_ok-account.rest.now ≡ Some (c.in-Some.class.now, c.in-Some.rest.now)
    = search rules in
    let three : cut c.in-Some.rest.now ≡ None = search rules in
    sym (three_segments c.args.path.now _ _ _ _ one two three)

pub returns-in_err-station : goal.returns-in_err-station
returns-in_err-station c =
    let one : cut c.args.path.now ≡ Some (c.in_ok-account.account.now, c.in_ok-account.rest.now)
    = search rules in
    let two : cut c.in_ok-account.rest.now ≡ Some (c.in-Some.class.now, c.in-Some.rest.now)
    = search rules in
    let three : cut c.in-Some.rest.now ≡ Some (c.in-Some-cut.login.now, c.in-Some-cut.rest.now)
    = search rules in
    let four : cut c.in-Some-cut.rest.now ≡ None = search rules in
    let nothing : option_map path_view c.from_residual-in_err-station.result ≡ None =
    search rules in
    nothing ∙ sym (four_segments c.args.path.now _ _ _ _ _ _ one two three four)

pub returns-in-Some-cut-2 : goal.returns-in-Some-cut-2
returns-in-Some-cut-2 c =
    let one : cut c.args.path.now ≡ Some (c.in_ok-account.account.now, c.in_ok-account.rest.now)
    = search rules in
    let two : cut c.in_ok-account.rest.now ≡ Some (c.in-Some.class.now, c.in-Some.rest.now)
    = search rules in
    let three : cut c.in-Some.rest.now ≡ Some (c.in-Some-cut.login.now, c.in-Some-cut.rest.now)
    = search rules in
    let four : cut c.in-Some-cut.rest.now
    ≡ Some (c.in_ok-station.station.now, c.in_ok-station.seconds.now) = search rules in
    let five : cut c.in_ok-station.seconds.now
    ≡ Some (c.in-Some-cut-2.field-0.0.now, c.in-Some-cut-2.field-0.1.now) = search rules in
    sym (six_segments c.args.path.now _ _ _ _ _ _ _ _ _ one two three four five)

pub returns-in-None : goal.returns-in-None
returns-in-None c =
    let one : cut c.args.path.now ≡ Some (c.in_ok-account.account.now, c.in_ok-account.rest.now)
    = search rules in
    let two : cut c.in_ok-account.rest.now ≡ Some (c.in-Some.class.now, c.in-Some.rest.now)
    = search rules in
    let three : cut c.in-Some.rest.now ≡ Some (c.in-Some-cut.login.now, c.in-Some-cut.rest.now)
    = search rules in
    let four : cut c.in-Some-cut.rest.now
    ≡ Some (c.in_ok-station.station.now, c.in_ok-station.seconds.now) = search rules in
    let five : cut c.in_ok-station.seconds.now ≡ None = search rules in
    sym (five_segments c.args.path.now _ _ _ _ _ _ _ _ one two three four five)
