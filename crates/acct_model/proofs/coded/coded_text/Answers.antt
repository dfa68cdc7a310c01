use Rattle.std.proofs.Common.{◌∙◌, ap, ◌++◌}
use Rattle.percent_encoding.specs.Percent.{percent_encode}
use Rattle.acct_model.proofs.CodedOctets.{percent_encode-coded}
use Rattle.acct_model.proofs.coded.coded_text.Goals as goal

pub returns : goal.returns
returns c =
    c.in_ok-append_to.ensures.ok
    ∙ ap (λ front. front
    ++ percent_encode c.percent_encode.result.ascii_set c.percent_encode.result.bytes.now)
    c.new-text.ensures.bytes
    ∙ c.percent_encode.ensures.text ∙ percent_encode-coded c.args.octets.now
