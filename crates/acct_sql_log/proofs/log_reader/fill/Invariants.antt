-- What was read so far is what the reader no longer has.
use Rattle.std.proofs.Common.{◌≤◌, length, take}
use Rattle.std.specs.Io.KnownBytes.{Consumes}
use Rattle.acct_sql_log.proofs.log_reader.fill.Given as goal

abbrev pub invariant-loop : goal.invariant-loop
invariant-loop g l = (l.count ≤ length l.buffer) × Consumes
    (g.R.Read.remaining l.initial.reader) (g.R.Read.remaining l.reader) (take l.count l.buffer)
