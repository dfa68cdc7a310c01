-- What the polls of a text return.
use Rattle.std.specs.Prelude.{ℕ, List, Option, Result}
use Rattle.acct_program.specs.declared.input.InputFault.{InputFault}

-- all octets of a text, or why they cannot be read
abbrev pub Reading : Type 0
Reading = Result (List ℕ) InputFault

-- a reading, if the text changed since the last poll
abbrev pub Sight : Type 0
Sight = Option Reading

-- a poll: its moment, in seconds since 1970, and what it returned
pub record Poll : Type 0 where
  pub moment : ℕ
  pub sight : Sight
