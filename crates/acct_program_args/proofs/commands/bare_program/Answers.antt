use Rattle.std.proofs.Common.{ap, codes, ◌≡◌, ◌∙◌}
use Rattle.clap.specs.Words.{app_of, new_app}
use Rattle.clap.specs.Simple.{app_of_fields}
use Rattle.acct_program_args.specs.CommandLine.{has_version, requires_subcommand}
use Rattle.acct_program_args.proofs.commands.bare_program.Goals as goal

pub returns : goal.returns
returns c =
    let named : app_of c.about.result ≡ new_app (codes "radacctd") =
    ap app_of_fields c.about.ensures ∙ c.new.ensures.app in
    let versioned : app_of c.version.result ≡ has_version (new_app (codes "radacctd")) =
    ap app_of_fields c.version.ensures ∙ ap has_version named in
    ap app_of_fields c.subcommand_required.ensures ∙ ap requires_subcommand versioned
