use Rattle.std.proofs.Common.{rules, refl, ◌++◌, ◌∷◌, []}
use Rattle.std.specs.Prelude.{string_bytes}
use Rattle.acct_program_commands.proofs.key_command.run_key.Goals as goal

pub returns-clause-prints : goal.returns-clause-prints
returns-clause-prints g c =
    let config = c.in_ok-config.config in
    let value = string_bytes c.in_ok-value.value in
    record {
      printed = (
        config,
        value ++ 10 ∷ [],
        c.in_ok-config.ensures,
        record {
          value = value;
          made = rw c.in_ok-account.ensures at c.in_ok-value.ensures.made;
          line_is = refl;
        },
        search rules,
      );
      done = refl;
      unsigned = tt;
    }
