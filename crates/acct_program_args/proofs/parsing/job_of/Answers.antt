use Rattle.std.proofs.Common.{ap, ap₂, refl, true, map, ◌≡◌, ◌∙◌}
use Rattle.clap.specs.Words.{found_of, is_simple, rows_of, subcommand_of}
use Rattle.clap.proofs.OnLiterals.{clap_on_literals}
use Rattle.acct_program_args.specs.CommandLine.{app}
use Rattle.std.specs.Prelude.{string_bytes}
use Rattle.acct_program_args.proofs.Bounds.{bounded}
use Rattle.acct_program_args.proofs.Entered.{names_job}
use Rattle.acct_program_args.proofs.parsing.job_of.Goals as goal

simple : is_simple app ≡ true
unfolding clap_on_literals
simple = refl

pub returns-in-Some-2-clause-named : goal.returns-in-Some-2-clause-named
returns-in-Some-2-clause-named c =
    let app_is = c.in_ok-command_line.ensures in
    let rows = (c.in_ok-matches.ensures.matches (ap is_simple app_is ∙ simple)).1 in
    let named = rw c.in-Some.is at c.subcommand.ensures.name in
    let with = rw c.in-Some.is at c.subcommand.ensures.rows in
    let asked = rw c.in-Some-2.is at c.in_ok-job.ensures in
    names_job c.in_ok-matches.matches _ c.in-Some.name.now _ (record {
      job = c.in-Some-2.job;
      explains = c.flag_option.result;
      loses_commits = c.flag_option-in-Some-2.result;
    })
    (rows ∙ ap₂ subcommand_of app_is (ap (map (λ s. string_bytes s)) c.as_slice.ensures.value))
    named with (asked, c.flag_option.ensures, c.flag_option-in-Some-2.ensures)

pub returns-in-Some-2-clause-bounds : goal.returns-in-Some-2-clause-bounds
returns-in-Some-2-clause-bounds c =
    bounded c.in-Some.name.now (rows_of (found_of c.in-Some.options.now)) c.in-Some-2.job
    (rw c.in-Some-2.is at c.in_ok-job.ensures)
