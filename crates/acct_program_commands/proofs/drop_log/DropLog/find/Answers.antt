use Rattle.std.proofs.Common.{◌<◌, length, arith}
use Rattle.acct_program_commands.specs.Drops.{KeepsPair}
use Rattle.acct_program_commands.proofs.Places.{kept_within}
use Rattle.acct_program_commands.proofs.drop_log.DropLog.find.Goals as goal

pub returns : goal.returns
returns c = λ place pair kept.
    let places = c.self.inside.places in
    let here : KeepsPair places c.args.source c.args.reason place pair =
    rw (← c.self.view_is) at kept in
    let within : place < length places = kept_within places place pair here.0 in
    let before : place < c.loop-place.place =
    omega (arith, c.loop-place-test.false, within, c.self.invariant) in
    c.loop-place.invariant place pair before here
