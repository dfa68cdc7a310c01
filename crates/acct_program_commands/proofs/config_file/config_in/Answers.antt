use Rattle.std.proofs.Common.{inl, refl}
use Rattle.acct_site_config.specs.Tables.{top_error}
use Rattle.acct_site_config.specs.declared.config_error.ConfigKind.TheVariants.{NotToml}
use Rattle.acct_program_commands.proofs.config_file.config_in.Goals as goal

pub returns-in_default : goal.returns-in_default
returns-in_default c = rw (c.in-Ok.is, c.wrong-in_default.ensures) (
  top_error NotToml,
  refl,
  inl (refl, rw c.as_slice.ensures at c.in_default.ensures.cases.0),
)
