use Rattle.std.proofs.Common.{refl}
use Rattle.acct_program_args.proofs.commands.command_line.Goals as goal

pub returns : goal.returns
returns c =
    let feed = c.with_command-program.ensures _ _ c.bare_program.ensures c.feed_command.ensures refl
    in
    let check = c.with_command-program-2.ensures _ _ feed c.check_command.ensures refl in
    let init = c.with_command-program-3.ensures _ _ check c.init_command.ensures refl in
    let serve = c.with_command-program-4.ensures _ _ init c.serve_command.ensures refl in
    let import = c.with_command-program-5.ensures _ _ serve c.import_command.ensures refl in
    let export = c.with_command-program-6.ensures _ _ import c.export_command.ensures refl in
    let migrate = c.with_command-program-7.ensures _ _ export c.migrate_command.ensures refl in
    let plans = c.with_command-program-8.ensures _ _ migrate c.plans_command.ensures refl in
    let forward = c.with_command-program-9.ensures _ _ plans c.forward_command.ensures refl in
    c.with_command.ensures _ _ forward c.key_command.ensures refl
