use Rattle.std.proofs.Common.{◌∙◌, ap, ◌++◌}
use Rattle.percent_encoding.specs.Percent.{percent_encode}
use Rattle.acct_model.proofs.Escapes.{percent_encode-shown}
use Rattle.acct_model.proofs.shown.show.Goals as goal

pub returns-in-Ok : goal.returns-in-Ok
returns-in-Ok c =
    c.in-Ok.ensures.ok
    ∙ ap (λ front. front
    ++ percent_encode c.percent_encode.result.ascii_set c.percent_encode.result.bytes.now)
    c.new-text.ensures.bytes
    ∙ c.percent_encode.ensures.text ∙ percent_encode-shown c.args.octets.now
