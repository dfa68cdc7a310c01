-- Octets as words of a line.
use Rattle.std.specs.Prelude.{ℕ, Option, None, Some, List, [], ◌==◌, length, bytes_eq, codes}
use Rattle.std.specs.Prelude.{if◌then◌else◌}
use Rattle.std.specs.Result.{result_ok}
use Rattle.hex.specs.Hex.{decode_of}
use Rattle.percent_encoding.specs.Percent.{percent_decode}
use Rattle.acct_model.specs.Shown.{shown}

-- The octets that a word spells by two hexadecimal digits of either case each; `-` spells none, and
-- the empty word spells nothing.
abbrev pub octets_in_hex : List ℕ → Option (List ℕ)
octets_in_hex word =
    if length word == 0 then None
    else if bytes_eq word (codes "-") then Some []
    else result_ok (decode_of word)

-- the octets of the account or session id that a word shows; `-` shows none
abbrev pub octets_shown : List ℕ → Option (List ℕ)
octets_shown word =
    if length word == 0 then None
    else if bytes_eq word (codes "-") then Some []
    else Some (percent_decode word)

-- the word that shows an account, a session id or a Class; `-` shows one of no octets
abbrev pub shown_word : List ℕ → List ℕ
shown_word octets = if length octets == 0 then codes "-" else shown octets
