use Rattle.std.specs.Prelude.{◌≡◌, List, ℕ, map, take}
use Rattle.std.specs.Borrow.{Bor}
use Rattle.acct_program_args.proofs.options.copied.Given as goal

abbrev pub invariant-loop-word : goal.invariant-loop-word
invariant-loop-word l =
    l.texts.items ≡ map (λ (word : Bor (List ℕ)). word.now) (take l.word-index l.words)
