use Rattle.std.proofs.Common.{arith}
use Rattle.acct_model.proofs.Refusals.{total_fits}
use Rattle.acct_model.proofs.entry_reader.report_of.Goals as goal

pub invariant_of-result : goal.invariant_of-result
invariant_of-result c = record {
  total_fits = omega (
    arith,
    c.input_of.ensures,
    c.output_of.ensures,
    total_fits
        c.args.attributes.now c.requires.faultless,
  );
  when_fits = omega arith;
}
