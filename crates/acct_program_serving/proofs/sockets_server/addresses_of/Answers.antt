use Rattle.std.proofs.Common.{◌<◌, length, arith, take, get_or}
use Rattle.std.proofs.lemmas.List.{take_more}
use Rattle.std.proofs.lemmas.List.Elements.{AllZip-push}
use Rattle.std.specs.Net.Grammar.{IsDotted}
use Rattle.acct_program_serving.proofs.sockets_server.addresses_of.Goals as goal

pub loop-text-preserved : goal.loop-text-preserved
loop-text-preserved c =
    let texts = c.args.texts.now in
    let place = c.loop-text.text-index in
    let inside : place < length texts = omega arith in
    rw (take_more texts place c.text-item.result inside, c.in-Ok.ensures.items)
    (AllZip-push IsDotted (take place texts) c.loop-text.addresses.items (get_or texts place c.text-item.result)
    c.in-Some.address c.loop-text.invariant (rw (c.as_str.ensures, c.text-item.is) at c.in-Some.ensures))
