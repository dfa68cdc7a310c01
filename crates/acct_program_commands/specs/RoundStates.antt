-- What the rounds over files go on from.
use Rattle.std.specs.Prelude.{ℕ, List, Option}
use Rattle.acct_program_commands.specs.Rounds.{RoundState, file_of, names_of}
use Rattle.acct_program_commands.specs.Sights.{Poll}
use Rattle.acct_program_commands.specs.declared.file_rounds.FileRounds.{FileRounds}

-- by the file of a source, and by what its polls and its clock have shown
abbrev pub state_of : {R S E : Type 0} → (S → Option (List ℕ)) → (S → Option (List Poll))
    → (S → Option (List ℕ)) → FileRounds R S E → RoundState
state_of file polls moments rounds = record {
  file = file rounds.source;
  polls = polls rounds.source;
  moments = moments rounds.source;
  balances = file_of rounds.balances;
  names = names_of rounds.names;
}
