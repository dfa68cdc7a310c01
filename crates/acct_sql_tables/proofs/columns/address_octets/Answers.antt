use Rattle.std.proofs.Common.{◌≡◌, ℕ, ◌<◌, List, [], ◌∷◌, Some, length, refl, arith}
use Rattle.acct_sql_tables.specs.Columns.{framed_in}
use Rattle.acct_sql_tables.proofs.columns.address_octets.Goals as goal

framed_back : (octets : List ℕ) → 0 < length octets → framed_in octets ≡ Some octets
framed_back [] some = absurd (omega arith)
framed_back (octet ∷ octets) some = refl

pub returns-clause-back : goal.returns-clause-back
returns-clause-back c = framed_back c.args.address.now (omega arith)
