-- The texts so far spell the addresses.
use Rattle.std.proofs.Common.{take}
use Rattle.std.specs.List.{AllZip}
use Rattle.std.specs.Net.Grammar.{IsDotted}
use Rattle.acct_program_serving.proofs.sockets_server.addresses_of.Given as goal

abbrev pub invariant-loop-text : goal.invariant-loop-text
invariant-loop-text l = AllZip IsDotted (take l.text-index l.texts) l.addresses.items
