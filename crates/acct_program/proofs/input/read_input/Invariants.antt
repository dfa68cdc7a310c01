-- What was read so far is what the reader no longer has.
use Rattle.std.proofs.Common.{◌≤◌, vec_len, vec_items}
use Rattle.std.specs.Io.KnownBytes.{Consumes}
use Rattle.acct_program.proofs.input.read_input.Given as goal

abbrev pub invariant-loop : goal.invariant-loop
invariant-loop g l = (vec_len l.octets ≤ 16777216) × Consumes
    (g.R.Read.remaining l.initial.reader) (g.R.Read.remaining l.reader) (vec_items l.octets)
