use Rattle.std.proofs.Common.{arith}
use Rattle.std.proofs.lemmas.Grind.{common_steps}
use Rattle.acct_desk.proofs.request_reader.read_some.Goals as goal

pub slice_bounds-buffer-end-in-Ok : goal.slice_bounds-buffer-end-in-Ok
slice_bounds-buffer-end-in-Ok g c = grind (arith, common_steps)

pub slice_bounds-extend_from_slice-end : goal.slice_bounds-extend_from_slice-end
slice_bounds-extend_from_slice-end g c = grind (arith, common_steps)

pub returns-in-Ok-extend_from_slice-clause-adds : goal.returns-in-Ok-extend_from_slice-clause-adds
returns-in-Ok-extend_from_slice-clause-adds g c = grind (arith, common_steps)
