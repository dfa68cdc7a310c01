use Rattle.std.proofs.Common.{◌≡◌, ◌∙◌, sym, refl, Some, None, rules, option_map}
use Rattle.acct_desk.specs.inner.Cut.{cut}
use Rattle.acct_desk.specs.Paths.{page_named}
use Rattle.acct_desk.proofs.CutLemmas.{no_account, account_by}
use Rattle.acct_desk.proofs.account_path.account_segments.Goals as goal

pub returns-in_err-account : goal.returns-in_err-account
returns-in_err-account c =
    let none : cut c.args.path.now ≡ None = search rules in
    let nothing : option_map (λ found. (found.0, found.1.now)) c.from_residual.result ≡ None =
    search rules in
    nothing ∙ sym (no_account c.args.path.now none)

pub returns-in-Some : goal.returns-in-Some
returns-in-Some c =
    let one : cut c.args.path.now ≡ Some (c.in_ok-account.account.now, c.in_ok-account.name.now)
    = search rules in
    let two : cut c.in_ok-account.name.now
    ≡ Some (c.in-Some.field-0.0.now, c.in-Some.field-0.1.now) = search rules in
    sym (account_by c.args.path.now _ _ _ _ one two refl)

pub returns-in-Some-page_named : goal.returns-in-Some-page_named
returns-in-Some-page_named c =
    let one : cut c.args.path.now ≡ Some (c.in_ok-account.account.now, c.in_ok-account.name.now)
    = search rules in
    let two : cut c.in_ok-account.name.now ≡ None = search rules in
    let named : page_named c.in_ok-account.name.now ≡ Some c.in-Some-page_named.page =
    search rules in
    sym (account_by c.args.path.now _ _ _ _ one two named)

pub returns-in-None-page_named : goal.returns-in-None-page_named
returns-in-None-page_named c =
    let one : cut c.args.path.now ≡ Some (c.in_ok-account.account.now, c.in_ok-account.name.now)
    = search rules in
    let two : cut c.in_ok-account.name.now ≡ None = search rules in
    let named : page_named c.in_ok-account.name.now ≡ None = search rules in
    sym (account_by c.args.path.now _ _ _ _ one two named)
