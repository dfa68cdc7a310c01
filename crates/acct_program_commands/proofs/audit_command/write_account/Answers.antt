use Rattle.std.proofs.Common.{◌++◌, ◌∷◌, []}
use Rattle.std.proofs.KnownBytes.{Appends-trans}
use Rattle.acct_program_commands.specs.Auditing.{balance_text, unplanned_text}
use Rattle.acct_program_commands.proofs.audit_command.write_account.Goals as goal

pub returns : goal.returns
returns g c =
    let w = g.W.Write.contents in
    let states = c.args.statement.now in
    Appends-trans (w c.args.output.now) (w c.write_unplanned.new.output) (w c.writeln.new.self)
    (balance_text c.args.account.now states ++ unplanned_text states.unplanned) (10 ∷ [])
    (Appends-trans (w c.args.output.now) (w c.write_balance.new.output)
    (w c.write_unplanned.new.output) (balance_text c.args.account.now states)
    (unplanned_text states.unplanned) c.in_ok-write_balance.ensures
    c.in_ok-write_unplanned.ensures) c.in_ok-writeln.ensures.bytes
