use Rattle.std.proofs.Common.{◌≡◌, ◌∙◌, ap, false, subst, sym, Bool}
use Rattle.std.specs.Prelude.{IfOk, unwrap_or}
use Rattle.sqlite_wal.specs.Files.{image_at}
use Rattle.acct_program_jobs.specs.inner.Files.{HasSums, sums_of}
use Rattle.acct_program_jobs.proofs.database.opened_for.Goals as goal

pub returns-in-New-clause-sums : goal.returns-in-New-clause-sums
returns-in-New-clause-sums g c = λ has_sums is settled.
    let same : c.in-New.has_sums ≡ has_sums =
    ap (λ making. unwrap_or (sums_of making) false) (sym c.in-New.is ∙ is) in
    subst (λ (sums : Bool). IfOk c.opened_anew.result (HasSums (image_at g.S.Start) sums)) same
    (c.opened_anew.ensures.sums settled)
