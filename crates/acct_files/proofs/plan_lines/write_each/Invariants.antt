-- The lines of the plans so far are written.
use Rattle.std.proofs.Common.{take}
use Rattle.std.specs.Prelude.{flat_map}
use Rattle.std.specs.Io.KnownBytes.{Appends}
use Rattle.csv.specs.Writing.{text_written}
use Rattle.acct_files.specs.Exporting.{IsBetweenLines, line, plan_fields}
use Rattle.acct_files.proofs.plan_lines.write_each.Given as goal

abbrev pub invariant-loop-plan : goal.invariant-loop-plan
invariant-loop-plan g l = record {
  between : IsBetweenLines l.lines;
  written : Appends (text_written g.W.Write.contents l.fn.lines)
      (text_written g.W.Write.contents l.lines)
      (flat_map (λ plan. line (plan_fields plan)) (take l.plan-index l.plans));
}
