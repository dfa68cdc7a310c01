-- What holds of the end of a request that is whole.
use Rattle.std.specs.Prelude.{ℕ}
use Rattle.acct_desk.specs.declared.framing.Reach.{Reach}
use Rattle.acct_desk.specs.declared.framing.Reach.TheVariants.{More, Whole, Bad, TooLarge}

-- P of the end, if the request is whole
abbrev pub IfWhole : Reach → (ℕ → Type 0) → Type 0
IfWhole More P = Unit {0}
IfWhole (Whole end) P = P end
IfWhole Bad P = Unit {0}
IfWhole TooLarge P = Unit {0}
